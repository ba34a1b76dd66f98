-- Decryption from the stored secret, by the steps of 003's algorithm 42; from the seed of the secret it is algorithm 3 (scheme, specs/Encryption.antt).
-- Assumes nothing.
use Rattle.std.specs.Prelude.{◌≡◌, refl, List, [], ◌∷◌, map, ℕ, ◌+◌, ◌-◌, ◌%◌}
use Rattle.maths.specs.Vector.{at, tabulate}
use Rattle.maths.specs.Product.{correlation}
use Rattle.maths.specs.Integer.{centre, centre_by}
use Rattle.maths.specs.Rounding.{nearest, centred_bit}
use Rattle.sets.specs.declared.Parameters.{Parameters}
use Rattle.sets.specs.Table.{table, set_of}
use Rattle.sets.specs.Derived.{half_modulus_of}
use Rattle.packing.specs.Message.{message_bytes}
use Rattle.ntt_products.specs.Stored.{recovered_inverse, recovered}
use Rattle.scheme.specs.Encryption.{cipher_first, cipher_second}

-- each number modulo q
unfoldable pub reduced : ℕ → List ℕ → List ℕ
reduced q xs = map (λ x. x % q) xs

-- Rev(c1') ⊙ s, d numbers modulo q: c1' are the first n + k numbers of what ĉ1 stores, s the first n + d + k − 1 of what ŝ stores
unfoldable pub first_correlations : Parameters → List ℕ → List ℕ → List ℕ
first_correlations p stored ct =
    let c1 = recovered p 2 (p.n + p.k) (cipher_first p ct) in
    let s = recovered_inverse p 3 (p.n + p.d + p.k - 1) stored in
    tabulate p.d (λ j. correlation (p.n + p.k) (at c1) (at s) j % p.q)

-- the bit that a number of c2 is read as, where y is the number of Rev(c1') ⊙ s at its place
unfoldable pub difference_bit_of : Parameters → ℕ → ℕ → ℕ
difference_bit_of p x y = centred_bit (half_modulus_of p) ((x + (p.q - y)) % p.q)

-- the same for d places
unfoldable pub difference_bits : Parameters → List ℕ → List ℕ → List ℕ
difference_bits p xs ys = tabulate p.d (λ j. difference_bit_of p (at xs j) (at ys j))

-- the bits, and the message, read with ŝ
unfoldable pub decrypted_bits_from : Parameters → List ℕ → List ℕ → List ℕ
decrypted_bits_from p stored ct = difference_bits p (cipher_second p ct) (first_correlations p stored ct)

unfoldable pub decrypted_message_from : Parameters → List ℕ → List ℕ → List ℕ
decrypted_message_from p stored ct = message_bytes 32 (decrypted_bits_from p stored ct)

reduced_example : reduced 17 (3 ∷ 17 ∷ 20 ∷ []) ≡ 3 ∷ 0 ∷ 3 ∷ []
unfolding reduced
reduced_example = refl

-- 1 − 14 is 4 modulo 17, from which on a bit is 1; 14 − 1 is 13, for which it is 0
difference_bit_example : difference_bit_of (set_of 0) 1 14 ≡ 1
unfolding table set_of half_modulus_of centred_bit nearest centre centre_by difference_bit_of
difference_bit_example = refl

difference_bit_example₂ : difference_bit_of (set_of 0) 14 1 ≡ 0
unfolding table set_of half_modulus_of centred_bit nearest centre centre_by difference_bit_of
difference_bit_example₂ = refl
