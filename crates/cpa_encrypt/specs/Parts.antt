-- The two parts of a ciphertext over the numbers that the code holds (003, section 2.2.3, algorithm 2; worked as algorithm 41), and what these numbers are.
-- Assumes nothing.
use Rattle.std.specs.Prelude.{◌≡◌, List, map, ℕ, ◌+◌, ◌*◌, ◌%◌, length}
use Rattle.maths.specs.Vector.{at, tabulate, AllBelow}
use Rattle.maths.specs.Integer.{residue}
use Rattle.calls.specs.Region.{region, vector}
use Rattle.sets.specs.declared.Parameters.{Parameters}
use Rattle.sets.specs.Derived.{half_modulus_of, multiplier_count_of}
use Rattle.packing.specs.Digits.{pack}
use Rattle.packing.specs.Dropped.{pack_dropping_of}
use Rattle.packing.specs.Message.{message_bits_of}
use Rattle.samplers.specs.Seeded.{multipliers_drawn}
use Rattle.ntt_products.specs.Stored.{sent, recovered_inverse}
use Rattle.scheme.specs.Encryption.{public_polynomial, key_numbers, first_numbers, second_numbers_of, first_bytes_of, second_bytes}

-- the multipliers r_1, .., r_t as residues, one after the other
pub record Multipliers (p : Parameters) (xs : List ℕ) : Type 0 where
  pub size : length xs ≡ multiplier_count_of p
  pub residues : AllBelow p.q (multiplier_count_of p) xs

-- b̂_1, .., b̂_t, one after the other, all of them residues
pub record KeyResidues (p : Parameters) (xs : List ℕ) : Type 0 where
  pub size : length xs ≡ p.d1 * p.t
  pub residues : AllBelow p.q (p.d1 * p.t) xs

-- the work slice holds b̂_1, .., b̂_t of a public key, and after them the multipliers of a seed
pub record Loaded (p : Parameters) (key seed work : List ℕ) : Type 0 where
  pub numbers : region work 0 (p.d1 * p.t) ≡ key_numbers p key
  pub multipliers : region work (p.d1 * p.t) (multiplier_count_of p) ≡ map (residue p.q) (multipliers_drawn p seed)

-- line 7: ĉ1 packed, from the seed of the public polynomials and the multipliers
unfoldable pub packed_first : Parameters → List ℕ → List ℕ → List ℕ
packed_first p seedpk r = pack p.width (first_bytes_of p) (sent p 2 (first_numbers p (λ i. vector (p.k + 1) r i) (public_polynomial p seedpk)))

-- floor(q / 2) times the message added to d numbers
unfoldable pub message_added : Parameters → List ℕ → List ℕ → List ℕ
message_added p sums message = tabulate p.d (λ j. (at sums j + half_modulus_of p * at (message_bits_of p.d message) j) % p.q)

-- c2', from b̂_1, .., b̂_t, the multipliers and the message
unfoldable pub second_sums : Parameters → List ℕ → List ℕ → List ℕ → List ℕ
second_sums p b r message = second_numbers_of p (λ i. vector (p.k + 1) r i) (λ i. recovered_inverse p 1 (p.d + p.k) (vector p.d1 b i))
    (message_bits_of p.d message)

-- line 10: c2' packed without its low bits
unfoldable pub packed_second : Parameters → List ℕ → List ℕ → List ℕ → List ℕ
packed_second p b r message = pack_dropping_of p.width p.cmp (second_bytes p) (second_sums p b r message)
