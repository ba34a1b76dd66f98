-- Words and states (FIPS 197, sections 3.4 and 3.5): a word is four bytes, and a state four words, its columns. Byte r + 4 · c of a block is the byte in row r
-- and column c.
-- Assumes nothing.
use Rattle.std.specs.Prelude.{List, [], ◌∷◌, ◌++◌, ℕ, ◌+◌, ◌*◌, get_or}
use Rattle.maths.specs.Vector.{at}
use Rattle.aes_tables.specs.Field.{◌⊕◌}

-- four things by formula
abbrev pub four {ℓ} : {A : Type ℓ} → (ℕ → A) → List A
four f = f 0 ∷ f 1 ∷ f 2 ∷ f 3 ∷ []

-- the sum of two words, byte by byte
unfoldable pub add_words : List ℕ → List ℕ → List ℕ
add_words u v = four (λ r. at u r ⊕ at v r)

-- the byte s[r, c] of a state
abbrev pub cell : List (List ℕ) → ℕ → ℕ → ℕ
cell s r c = at (get_or s c []) r

-- the state whose byte s[r, c] is f r c
abbrev pub state : (ℕ → ℕ → ℕ) → List (List ℕ)
state f = four (λ c. four (λ r. f r c))

-- section 3.4: the state of a block of 16 bytes, and the block of a state
abbrev pub state_of : List ℕ → List (List ℕ)
state_of block = state (λ r c. at block (r + 4 * c))

abbrev pub block_of : List (List ℕ) → List ℕ
block_of s = get_or s 0 [] ++ get_or s 1 [] ++ get_or s 2 [] ++ get_or s 3 []
