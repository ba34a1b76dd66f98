-- The claim for the key exchange: key, encapsulation and decapsulation (01, What demand 3 speaks of), for any parameters that meet the conditions.
-- Assumes nothing.
use mathlib.Core.Path.{◌≡◌, refl, ap, ◌∙◌}
use mathlib.Core.Bool.{true}
use mathlib.Core.List.{List, [], ◌∷◌}
use Prim.Native.Nat.{ℕ, ◌*◌, ◌<◌}
use borrow.Author.Tests.{eq-eqb}
use lib.IntN.{nat_abs}
use lib.ListN.{length, take, drop}
use lib.Seq.{take_at, drop_at}
use Rattle.maths.specs.BitClaim.{BitClaim}
use Rattle.sets.specs.declared.Parameters.{Parameters}
use Rattle.sets.specs.Derived.{half_modulus_of, cpa_ciphertext_bytes_of}
use Rattle.packing.specs.Digits.{Digit}
use Rattle.scheme.specs.Encryption.{secret_seed, ciphertext, decrypted_message}
use Rattle.scheme.specs.Noise.{noise}
use Rattle.scheme.specs.Conditions.{Conditions}
use Rattle.scheme.specs.Bits.{message_bit, message_read}
use Rattle.scheme.specs.Exchange.{inner_seed, exchange_public_key, exchange_secret_key, sealing_seed, check_bytes, encapsulated, shared_key, same}
use Rattle.scheme.specs.Exchange.{decapsulated_message, hashed_secret, decapsulated}
use Rattle.scheme.proofs.Bytes.{ciphertext_length}
use Rattle.scheme.proofs.Claim as claims

-- a list has the same numbers as itself
same_self : (xs : List ℕ) → same xs xs ≡ true
unfolding same
same_self [] = refl
same_self (x ∷ xs) = rw (eq-eqb x x refl, same_self xs)

module _ {p : Parameters} (c : Conditions p) (seed message : List ℕ) (size : length seed ≡ 32) where
  -- the keys, and the ciphertext that encapsulation makes
  abbrev pk : List ℕ
  pk = exchange_public_key p seed

  abbrev sk : List ℕ
  sk = exchange_secret_key p seed

  abbrev ct : List ℕ
  ct = encapsulated p pk message

  -- the two parts of the secret key
  secret_seed_lem : take 32 sk ≡ seed
  unfolding exchange_secret_key
  secret_seed_lem = take_at seed _ 32 size

  secret_public : drop 32 sk ≡ pk
  unfolding exchange_secret_key
  secret_public = drop_at seed _ 32 size

  -- what decapsulation reads is what 003's algorithms 1 to 3 read, from the inner key seed and the seed that G makes of the message
  pub read_message_lem : decapsulated_message p sk ct ≡ message_read p (inner_seed p seed) message (sealing_seed message)
  unfolding decapsulated_message message_read encapsulated exchange_public_key
  read_message_lem =
      ap (λ (s : List ℕ). decrypted_message p (secret_seed p (inner_seed p s)) (take (cpa_ciphertext_bytes_of p) ct)) secret_seed_lem
      ∙ ap (decrypted_message p (secret_seed p (inner_seed p seed)))
      (take_at (ciphertext p pk message (sealing_seed message)) (check_bytes message) (cpa_ciphertext_bytes_of p)
      (ciphertext_length c pk message (sealing_seed message)))

  -- the claim on the bits that decapsulation reads before it seals them again
  pub claim : (j : ℕ) → j < p.d
      → BitClaim (half_modulus_of p) (noise p (inner_seed p seed) message (sealing_seed message) j) (message_bit p message j)
      (message_bit p (decapsulated_message p sk ct) j)
  claim j inside = rw read_message_lem (claims.claim c (inner_seed p seed) message (sealing_seed message) j inside)

  -- where twice the size of the noise is below h at every place, decapsulation gives the shared key of encapsulation
  pub same_key : length message ≡ 32 → Digit 8 message → ((j : ℕ) → j < p.d
      → 2 * nat_abs (noise p (inner_seed p seed) message (sealing_seed message) j) < half_modulus_of p)
      → decapsulated p sk ct ≡ shared_key p pk message
  unfolding decapsulated hashed_secret shared_key
  same_key whole bytes small =
      let returned : decapsulated_message p sk ct ≡ message = read_message_lem
      ∙ claims.returned c (inner_seed p seed) message (sealing_seed message) whole bytes small in
      rw (returned, secret_public, same_self ct)
