-- A column of a round from the entries of the round table.
-- Assumes nothing.
use mathlib.Core.Path.{◌≡◌, ap, ◌∙◌}
use mathlib.Core.List.{List, [], ◌∷◌}
use Prim.Native.Nat.{ℕ, ◌+◌, ◌%◌}
use Rattle.maths.specs.Vector.{at}
use Rattle.aes_tables.specs.Field.{◌⊕◌, ◌•◌}
use Rattle.aes_tables.specs.State.{four, add_words}
use Rattle.aes.specs.Cipher.{mix_column}
use Rattle.aes_tables.specs.Words.{byte_of, word, mixed_byte_of}
use Rattle.aes_tables.proofs.Bytes.{word_sum}

-- a sum of five words
five_words : (a b c d k : ℕ)
    → word (a ⊕ b ⊕ c ⊕ d ⊕ k) ≡ add_words (add_words (add_words (add_words (word a) (word b)) (word c)) (word d)) (word k)
five_words a b c d k =
    word_sum (a ⊕ b ⊕ c ⊕ d) k
    ∙ ap (λ (u : List ℕ). add_words u (word k))
    (word_sum (a ⊕ b ⊕ c) d
    ∙ ap (λ (u : List ℕ). add_words u (word d)) (word_sum (a ⊕ b) c ∙ ap (λ (u : List ℕ). add_words u (word c)) (word_sum a b)))

-- four entries of the round table, rotated to their rows, and a word of the key
pub column_mixed : (first second third fourth k s0 s1 s2 s3 : ℕ) → word first ≡ mixed_byte_of s0
    → word second ≡ 3 • s1 ∷ 2 • s1 ∷ s1 ∷ s1 ∷ []
    → word third ≡ s2 ∷ 3 • s2 ∷ 2 • s2 ∷ s2 ∷ []
    → word fourth ≡ s3 ∷ s3 ∷ 3 • s3 ∷ 2 • s3 ∷ []
    → word (first ⊕ second ⊕ third ⊕ fourth ⊕ k) ≡ add_words (mix_column s0 s1 s2 s3) (word k)
unfolding add_words mix_column mixed_byte_of
column_mixed first second third fourth k s0 s1 s2 s3 e0 e1 e2 e3 =
    five_words first second third fourth k ∙ (λ i. add_words (add_words (add_words (add_words (e0 i) (e1 i)) (e2 i)) (e3 i)) (word k))

-- the byte r of a word that is known by its bytes
at_byte : {bytes : List ℕ} (w r : ℕ) → word w ≡ bytes → at (word w) r ≡ at bytes r
at_byte w r e = ap (λ (l : List ℕ). at l r) e

module _ (w v s : ℕ) (e : word w ≡ mixed_byte_of s) where
  -- an entry that is rotated by one, two, three places
  pub entry_one : word v ≡ four (λ i. byte_of ((i + 3) % 4) w) → word v ≡ 3 • s ∷ 2 • s ∷ s ∷ s ∷ []
  unfolding mixed_byte_of
  entry_one f = f ∙ (λ i. at_byte w 3 e i ∷ at_byte w 0 e i ∷ at_byte w 1 e i ∷ at_byte w 2 e i ∷ [])

  pub entry_two : word v ≡ four (λ i. byte_of ((i + 2) % 4) w) → word v ≡ s ∷ 3 • s ∷ 2 • s ∷ s ∷ []
  unfolding mixed_byte_of
  entry_two f = f ∙ (λ i. at_byte w 2 e i ∷ at_byte w 3 e i ∷ at_byte w 0 e i ∷ at_byte w 1 e i ∷ [])

  pub entry_three : word v ≡ four (λ i. byte_of ((i + 1) % 4) w) → word v ≡ s ∷ s ∷ 3 • s ∷ 2 • s ∷ []
  unfolding mixed_byte_of
  entry_three f = f ∙ (λ i. at_byte w 1 e i ∷ at_byte w 2 e i ∷ at_byte w 3 e i ∷ at_byte w 0 e i ∷ [])
