-- The rules that the parameters of a set keep, on which every later proof rests (003, sections 2.1.2, 2.2.2, 3.2 and 3.4.3).
-- Assumes nothing.
use Rattle.std.specs.Prelude.{◌≡◌, ◌+◌, ◌-◌, ◌*◌, ◌/◌, ◌%◌, ◌^◌, ◌≤◌, ◌<◌}
use Rattle.maths.specs.Prime.{Prime}
use Rattle.sets.specs.declared.Parameters.{Parameters}
use Rattle.sets.specs.Derived.{half_modulus_of, multiplier_count_of, multiplier_bytes_of, multiplier_draw_bytes_of, error_draw_bytes_of, public_key_bytes_of}
use Rattle.sets.specs.Derived.{cpa_ciphertext_bytes_of}

-- what holds for sets 0 to 12
pub record Rules (p : Parameters) : Type 0 where
  -- the modulus is an odd prime below 2^24
  pub prime : Prime p.q
  pub odd : p.q ≡ 2 * half_modulus_of p + 1
  pub small : p.q < 2 ^ 24
  -- lengths are not zero, and bounded
  pub some_n : 1 ≤ p.n
  pub some_k : 1 ≤ p.k
  pub some_d : 1 ≤ p.d
  pub some_t : 1 ≤ p.t
  pub most_n : p.n ≤ 2048
  pub most_k : p.k ≤ 1023
  pub most_d : p.d ≤ 256
  pub most_t : p.t ≤ 10
  -- a transform size is a number of rows, divides q − 1, and holds what it must; d3 is the largest
  pub some_row : 1 ≤ p.row
  pub rows1 : p.d1 / p.row * p.row ≡ p.d1
  pub rows2 : p.d2 / p.row * p.row ≡ p.d2
  pub rows3 : p.d3 / p.row * p.row ≡ p.d3
  pub divides1 : (p.q - 1) / p.d1 * p.d1 ≡ p.q - 1
  pub divides2 : (p.q - 1) / p.d2 * p.d2 ≡ p.q - 1
  pub divides3 : (p.q - 1) / p.d3 * p.d3 ≡ p.q - 1
  pub holds1 : p.d + p.k ≤ p.d1
  pub holds2 : p.n + p.k ≤ p.d2
  pub holds3 : p.n + p.d + p.k - 1 ≤ p.d3
  pub rising1 : p.d1 ≤ p.d2
  pub rising2 : p.d2 ≤ p.d3
  pub most_d3 : p.d3 ≤ 3328
  -- the threshold of a uniform draw is the largest multiple of q below 2^24
  pub multiple : p.zqrej % p.q ≡ 0
  pub below : p.zqrej < 2 ^ 24
  pub largest : 2 ^ 24 ≤ p.zqrej + p.q
  -- a number below q has width bits and no fewer serve; what packing drops is at most the half modulus
  pub width_least : 2 ^ (p.width - 1) ≤ p.q
  pub width_enough : p.q < 2 ^ p.width
  pub width_most : p.width ≤ 21
  pub dropped : 2 ^ p.cmp ≤ half_modulus_of p
  pub kept : p.cmp < p.width
  -- errors and multipliers are small
  pub some_eta : 1 ≤ p.eta
  pub most_eta : p.eta ≤ 4
  pub bounds : p.b1 ≤ p.b2
  pub most_b2 : p.b2 ≤ 9
  pub small_b2 : 2 ^ p.b2 < p.q
  pub first_bound : p.ndec1 ≤ multiplier_count_of p
  -- counts of numbers and of bits stay small
  pub most_multipliers : multiplier_count_of p ≤ 8192
  pub most_public : p.d1 * p.t ≤ 10240
  pub most_public_bits : p.d1 * p.t * p.width ≤ 215040
  pub most_sealed_bits : p.d2 * p.width ≤ 64512
  pub most_message_bits : p.d * (p.width - p.cmp) ≤ 2048
  pub most_public_key : public_key_bytes_of p ≤ 26912
  pub most_sealed : cpa_ciphertext_bytes_of p ≤ 8320

-- what holds besides for sets 1 to 12, whose keys and ciphertexts are bytes
pub record ByteRules (p : Parameters) : Type 0 where
  pub even_half : half_modulus_of p ≡ 2 * (half_modulus_of p / 2)
  pub row_256 : p.row ≡ 256
  pub message_bits : p.d ≡ 256
  pub four_bits : p.eta ≡ 4
  -- a number of c2 keeps one byte
  pub kept_byte : p.width ≡ p.cmp + 8
  -- sign bits fill bytes; a block of a uniform draw holds whole candidates, enough of them to decide one result
  pub signs : (p.k + 1) / 8 * 8 ≡ p.k + 1
  pub whole_bytpcs : p.bytpcs / 3 * 3 ≡ p.bytpcs
  pub whole_bytpca : p.bytpca / 3 * 3 ≡ p.bytpca
  pub some_bytpcs : 384 ≤ p.bytpcs
  pub some_bytpca : 384 ≤ p.bytpca
  pub most_bytpcs : p.bytpcs ≤ 10158
  pub most_bytpca : p.bytpca ≤ 6300
  pub some_size : 1 ≤ multiplier_bytes_of p
  pub most_size : multiplier_bytes_of p ≤ 2
  -- what one draw of errors and one of multipliers reads
  pub most_error_bytes : error_draw_bytes_of p ≤ 10240
  pub most_multiplier_bytes : multiplier_draw_bytes_of p ≤ 15232
