-- The key schedule of AES-256 (FIPS 197, section 5.2, algorithm 2 with Nk = 8 and Nr = 14), and AES-256 of a block.
-- Assumes nothing.
use Rattle.std.specs.Prelude.{cond, List, [], ◌∷◌, ◌++◌, ℕ, zero, suc, ◌+◌, ◌-◌, ◌*◌, ◌/◌, ◌%◌, ltb, eqb, get_or}
use Rattle.maths.specs.Vector.{at}
use Rattle.aes_tables.specs.Field.{x_times_of}
use Rattle.aes_tables.specs.State.{four, add_words}
use Rattle.aes_tables.specs.Substitution.{sbox}
use Rattle.aes.specs.Cipher.{encrypted}

-- RotWord and SubWord (equations 5.10 and 5.11)
unfoldable pub rot_word : List ℕ → List ℕ
rot_word u = four (λ r. at u ((r + 1) % 4))

unfoldable pub sub_word_of : List ℕ → List ℕ
sub_word_of u = four (λ r. sbox (at u r))

-- x^n in the field
unfoldable pub x_power : ℕ → ℕ
x_power zero = 1
x_power (suc n) = x_times_of (x_power n)

-- table 5: the round constant Rcon[j]
unfoldable pub rcon : ℕ → List ℕ
rcon j = x_power (j - 1) ∷ 0 ∷ 0 ∷ 0 ∷ []

-- algorithm 2, lines 8 to 13: what is added to the word eight places before word i, from the word before it
unfoldable pub temp : List ℕ → ℕ → List ℕ
temp previous i =
    cond (eqb (i % 8) 0) (add_words (sub_word_of (rot_word previous)) (rcon (i / 8))) (cond (eqb (i % 8) 4) (sub_word_of previous) previous)

-- algorithm 2: word i, from the key and the words before it
unfoldable pub next_word_of : List ℕ → List (List ℕ) → ℕ → List ℕ
next_word_of key w i = cond (ltb i 8) (four (λ r. at key (4 * i + r))) (add_words (get_or w (i - 8) []) (temp (get_or w (i - 1) []) i))

-- the first n words
unfoldable pub words : List ℕ → ℕ → List (List ℕ)
words key zero = []
words key (suc i) = let w = words key i in w ++ (next_word_of key w i ∷ [])

-- algorithm 2: the 60 words of a key of 32 bytes
unfoldable pub key_expansion : List ℕ → List (List ℕ)
key_expansion key = words key 60

-- AES-256 of a block under a key
unfoldable pub aes256 : List ℕ → List ℕ → List ℕ
aes256 key block = encrypted (key_expansion key) block
