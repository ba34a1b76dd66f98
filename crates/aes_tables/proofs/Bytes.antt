-- The bytes of words: of a sum, of four bytes in one, and of a word that is turned.
-- Assumes nothing.
use mathlib.Core.Path.{◌≡◌, refl, ap, ◌∙◌}
use mathlib.Core.List.{[], ◌∷◌}
use Prim.Native.Nat.{ℕ, zero, suc, ◌+◌, ◌-◌, ◌*◌, ◌/◌, ◌%◌, ◌^◌, ◌<◌}
use native.Mathlib.Omega.{arith}
use lib.Bits.{bit_or, or_shifted, xor_shr, xor_mod}
use Rattle.std.specs.Int.{w32, rotate_left}
use Rattle.aes_tables.specs.Field.{◌⊕◌}
use Rattle.aes_tables.specs.State.{four, add_words}
use Rattle.aes_tables.specs.Words.{byte_of, word}

-- each byte of a sum is the sum of the bytes
pub byte_sum_lem : (a b r : ℕ) → byte_of r (a ⊕ b) ≡ byte_of r a ⊕ byte_of r b
unfolding byte_of
byte_sum_lem a b zero = xor_mod a b 8
byte_sum_lem a b (suc r) = ap (byte_of r) (xor_shr a b 8) ∙ byte_sum_lem (a / 256) (b / 256) r

pub word_sum : (a b : ℕ) → word (a ⊕ b) ≡ add_words (word a) (word b)
unfolding add_words
word_sum a b = λ i. byte_sum_lem a b 0 i ∷ byte_sum_lem a b 1 i ∷ byte_sum_lem a b 2 i ∷ byte_sum_lem a b 3 i ∷ []

-- the word of four bytes
pub word_of_bytes : (a b c d : ℕ) → a < 256 → b < 256 → c < 256 → d < 256 → word (a + b * 256 + c * 65536 + d * 16777216) ≡ a ∷ b ∷ c ∷ d ∷ []
unfolding byte_of
word_of_bytes a b c d ha hb hc hd =
    let v = a + b * 256 + c * 65536 + d * 16777216 in
    let q1 : v / 256 ≡ b + c * 256 + d * 65536 = omega arith in
    let q2 : v / 256 / 256 ≡ c + d * 256 = rw q1 (omega arith) in
    let q3 : v / 256 / 256 / 256 ≡ d = rw q2 (omega arith) in
    let e0 : v % 256 ≡ a = omega arith in
    let e1 : v / 256 % 256 ≡ b = rw q1 (omega arith) in
    let e2 : v / 256 / 256 % 256 ≡ c = rw q2 (omega arith) in
    let e3 : v / 256 / 256 / 256 % 256 ≡ d = rw q3 (omega arith) in
    λ i. e0 i ∷ e1 i ∷ e2 i ∷ e3 i ∷ []

-- a byte is below 256
pub byte_small : (w r : ℕ) → byte_of r w < 256
unfolding byte_of
byte_small w zero = omega arith
byte_small w (suc r) = byte_small (w / 256) r

module _ (w : ℕ) (small : w < 2 ^ 32) where
  -- a word is made of its bytes
  bytes_of_word : w ≡ byte_of 0 w + byte_of 1 w * 256 + byte_of 2 w * 65536 + byte_of 3 w * 16777216
  unfolding byte_of
  bytes_of_word = omega arith

  -- a word whose bytes move up by one place
  rotated_one : word (w % 16777216 * 256 + w / 16777216) ≡ four (λ i. byte_of ((i + 3) % 4) w)
  rotated_one = rw moved (word_of_bytes _ _ _ _ (byte_small w 3) (byte_small w 0) (byte_small w 1) (byte_small w 2))
    where
      moved : w % 16777216 * 256 + w / 16777216 ≡ byte_of 3 w + byte_of 0 w * 256 + byte_of 1 w * 65536 + byte_of 2 w * 16777216
      moved = omega (arith, bytes_of_word, byte_small w 0, byte_small w 1, byte_small w 2, byte_small w 3)

  -- by two places
  rotated_two : word (w % 65536 * 65536 + w / 65536) ≡ four (λ i. byte_of ((i + 2) % 4) w)
  rotated_two = rw moved (word_of_bytes _ _ _ _ (byte_small w 2) (byte_small w 3) (byte_small w 0) (byte_small w 1))
    where
      moved : w % 65536 * 65536 + w / 65536 ≡ byte_of 2 w + byte_of 3 w * 256 + byte_of 0 w * 65536 + byte_of 1 w * 16777216
      moved = omega (arith, bytes_of_word, byte_small w 0, byte_small w 1, byte_small w 2, byte_small w 3)

  -- by three places
  rotated_three : word (w % 256 * 16777216 + w / 256) ≡ four (λ i. byte_of ((i + 1) % 4) w)
  rotated_three = rw moved (word_of_bytes _ _ _ _ (byte_small w 1) (byte_small w 2) (byte_small w 3) (byte_small w 0))
    where
      moved : w % 256 * 16777216 + w / 256 ≡ byte_of 1 w + byte_of 2 w * 256 + byte_of 3 w * 65536 + byte_of 0 w * 16777216
      moved = omega (arith, bytes_of_word, byte_small w 0, byte_small w 1, byte_small w 2, byte_small w 3)

  -- the two parts of a word that the library turns do not meet
  parts : (high low k : ℕ) {moved front : ℕ} → moved ≡ high * 2 ^ k → front ≡ low → low < 2 ^ k → bit_or moved front ≡ high * 2 ^ k + low
  parts high low k e f h = rw (e, f) (or_shifted high k low h)

  -- by any number of places, as the library turns a word
  pub rotated : (places : ℕ) → 0 < places → places < 4 → word (rotate_left w32 w (8 * places)) ≡ four (λ i. byte_of ((i + (4 - places)) % 4) w)
  rotated zero h k = absurd (omega arith)
  rotated (suc zero) h k = ap (λ (v : ℕ). word v) (parts (w % 16777216) (w / 16777216) 8 (omega arith) refl (omega arith)) ∙ rotated_one
  rotated (suc (suc zero)) h k = ap (λ (v : ℕ). word v) (parts (w % 65536) (w / 65536) 16 (omega arith) refl (omega arith)) ∙ rotated_two
  rotated (suc (suc (suc zero))) h k = ap (λ (v : ℕ). word v) (parts (w % 256) (w / 256) 24 (omega arith) refl (omega arith)) ∙ rotated_three
  rotated (suc (suc (suc (suc n)))) h k = absurd (omega arith)
