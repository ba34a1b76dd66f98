-- Numbers that follow from a set's parameters: 003, sections 2.2.2 (N_dec), 2.2.3 (algorithms 9 and 10) and 3.1 (byte lengths).
-- Assumes nothing.
use Rattle.std.specs.Prelude.{◌≡◌, refl, Bool, cond, List, [], ◌∷◌, map, ℕ, ◌+◌, ◌-◌, ◌*◌, ◌/◌, ◌^◌, max, ltb, eqb}
use Rattle.maths.specs.Root.{power_table}
use Rattle.sets.specs.declared.Parameters.{Parameters}
use Rattle.sets.specs.Table.{none, table, set_of}

-- the half modulus h (01)
unfoldable pub half_modulus_of : Parameters → ℕ
half_modulus_of p = (p.q - 1) / 2

-- the transform sizes d1, d2, d3 and their roots ω1, ω2, ω3, by their number
unfoldable pub transform_size_of : Parameters → ℕ → ℕ
transform_size_of p i = cond (eqb i 1) p.d1 (cond (eqb i 2) p.d2 p.d3)

unfoldable pub transform_root : Parameters → ℕ → ℕ
transform_root p i = cond (eqb i 1) p.w1 (cond (eqb i 2) p.w2 p.w3)

-- the powers of a set's root number i, one for each place of its transform
unfoldable pub root_powers : Parameters → ℕ → List ℕ
root_powers p i = power_table p.q (transform_root p i) (transform_size_of p i)

-- N_dec: how many multipliers one sealing draws
unfoldable pub multiplier_count_of : Parameters → ℕ
multiplier_count_of p = p.t * (p.k + 1)

-- sizes of multipliers are drawn from b1 bits at the first N_dec1 positions, and from b2 bits at the others (algorithm 10)
unfoldable pub multiplier_bits_of : Parameters → ℕ → ℕ
multiplier_bits_of p position = cond (ltb position p.ndec1) p.b1 p.b2

-- the largest size B/2 of a multiplier at a position
unfoldable pub multiplier_bound_of : Parameters → ℕ → ℕ
multiplier_bound_of p position = 2 ^ multiplier_bits_of p position

-- Zbbytes: the bytes that the size of one multiplier is drawn from (algorithm 10)
unfoldable pub multiplier_bytes_of : Parameters → ℕ
multiplier_bytes_of p = (max p.b1 p.b2 + 7) / 8

-- the bytes that all multipliers of one sealing are drawn from: sizes, then one sign bit each (algorithm 10)
unfoldable pub multiplier_draw_bytes_of : Parameters → ℕ
multiplier_draw_bytes_of p = multiplier_count_of p * multiplier_bytes_of p + multiplier_count_of p / 8

-- how many errors one key has: d + k for each of t polynomials
unfoldable pub error_count_of : Parameters → ℕ
error_count_of p = p.t * (p.d + p.k)

-- the bytes that all errors of one key are drawn from (algorithm 9)
unfoldable pub error_draw_bytes_of : Parameters → ℕ
error_draw_bytes_of p = p.t * (p.d + p.k + 1)

-- the bytes that hold a count of numbers of some bits each, packed without gaps (algorithm 17)
unfoldable pub packed_bytes_of : ℕ → ℕ → ℕ
packed_bytes_of count bits = (count * bits + 7) / 8

-- a public key: the seed of the a_i, then the packed transforms of the b_i (algorithm 25)
unfoldable pub public_key_bytes_of : Parameters → ℕ
public_key_bytes_of p = 32 + packed_bytes_of (p.d1 * p.t) p.width

-- a ciphertext of the encryption scheme: the packed transform of c1, then c2 with its low bits dropped (algorithm 23)
unfoldable pub cpa_ciphertext_bytes_of : Parameters → ℕ
cpa_ciphertext_bytes_of p = packed_bytes_of p.d2 p.width + packed_bytes_of p.d (p.width - p.cmp)

-- is of the scheme with this number: a record, a set
abbrev pub of_scheme : ℕ → Parameters → Bool
of_scheme scheme p = eqb p.scheme scheme

abbrev pub is_of : ℕ → ℕ → Bool
is_of scheme set = of_scheme scheme (set_of set)

-- is an encryption set, is an exchange set
unfoldable pub is_encryption : ℕ → Bool
is_encryption set = is_of 1 set

unfoldable pub is_exchange : ℕ → Bool
is_exchange set = is_of 2 set

-- a secret key: a seed, and in the key exchange the public key after it (algorithm 29)
unfoldable pub secret_bytes : Parameters → ℕ
secret_bytes p = 32 + cond (of_scheme 2 p) (public_key_bytes_of p) 0

-- a ciphertext: in the key exchange 32 bytes more, d_cca (algorithm 31)
unfoldable pub sealed_bytes : Parameters → ℕ
sealed_bytes p = cpa_ciphertext_bytes_of p + cond (of_scheme 2 p) 32 0

-- the same of a set by its number
abbrev pub secret_key_bytes_of : ℕ → ℕ
secret_key_bytes_of set = secret_bytes (set_of set)

abbrev pub ciphertext_bytes_of : ℕ → ℕ
ciphertext_bytes_of set = sealed_bytes (set_of set)

-- the byte lengths of a set: public key, secret key, ciphertext
lengths : ℕ → List ℕ
lengths set = public_key_bytes_of (set_of set) ∷ secret_key_bytes_of set ∷ ciphertext_bytes_of set ∷ []

-- they are those of 003, tables 3.1 and 3.2
published : List (List ℕ)
published =
    (11552 ∷ 32 ∷ 2560 ∷ []) ∷
    (13088 ∷ 32 ∷ 2976 ∷ []) ∷
    (14720 ∷ 32 ∷ 3520 ∷ []) ∷
    (16448 ∷ 32 ∷ 4512 ∷ []) ∷
    (17952 ∷ 32 ∷ 6016 ∷ []) ∷
    (23552 ∷ 32 ∷ 8320 ∷ []) ∷
    (12192 ∷ 12224 ∷ 2720 ∷ []) ∷
    (14720 ∷ 14752 ∷ 3008 ∷ []) ∷
    (16352 ∷ 16384 ∷ 3552 ∷ []) ∷
    (18272 ∷ 18304 ∷ 4544 ∷ []) ∷
    (20512 ∷ 20544 ∷ 6048 ∷ []) ∷
    (26912 ∷ 26944 ∷ 8352 ∷ []) ∷
    []

lengths_published : map lengths (1 ∷ 2 ∷ 3 ∷ 4 ∷ 5 ∷ 6 ∷ 7 ∷ 8 ∷ 9 ∷ 10 ∷ 11 ∷ 12 ∷ []) ≡ published
unfolding none table set_of packed_bytes_of public_key_bytes_of cpa_ciphertext_bytes_of secret_bytes sealed_bytes lengths published
lengths_published = refl

-- set 1 has 2,560 positions, the first 1,488 of them with 7 bits
multiplier_bits_example : map (multiplier_bits_of (set_of 1)) (1487 ∷ 1488 ∷ []) ≡ 7 ∷ 8 ∷ []
unfolding table set_of multiplier_bits_of
multiplier_bits_example = refl
