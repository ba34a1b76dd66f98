-- The cipher AES-256 (FIPS 197, section 5.1, algorithm 1 with Nr = 14).
-- Assumes nothing.
use Rattle.std.specs.Prelude.{List, [], ◌∷◌, ℕ, zero, suc, ◌+◌, ◌*◌, ◌%◌, get_or}
use Rattle.aes_tables.specs.Field.{◌⊕◌, ◌•◌}
use Rattle.aes_tables.specs.State.{four, cell, state, state_of, block_of}
use Rattle.aes_tables.specs.Substitution.{sbox}

-- section 5.1.1: each byte is substituted
unfoldable pub sub_bytes : List (List ℕ) → List (List ℕ)
sub_bytes s = state (λ r c. sbox (cell s r c))

-- section 5.1.2: row r moves by r places to the left
unfoldable pub shift_rows : List (List ℕ) → List (List ℕ)
shift_rows s = state (λ r c. cell s r ((c + r) % 4))

-- section 5.1.3: a column, multiplied by a fixed matrix over the field (equation 5.8)
unfoldable pub mix_column : ℕ → ℕ → ℕ → ℕ → List ℕ
mix_column s0 s1 s2 s3 =
    (2 • s0 ⊕ 3 • s1 ⊕ s2 ⊕ s3)
    ∷ (s0 ⊕ 2 • s1 ⊕ 3 • s2 ⊕ s3)
    ∷ (s0 ⊕ s1 ⊕ 2 • s2 ⊕ 3 • s3)
    ∷ (3 • s0 ⊕ s1 ⊕ s2 ⊕ 2 • s3)
    ∷ []

unfoldable pub mix_columns : List (List ℕ) → List (List ℕ)
mix_columns s = four (λ c. mix_column (cell s 0 c) (cell s 1 c) (cell s 2 c) (cell s 3 c))

-- section 5.1.4: the four words of a round key are added, one to each column
unfoldable pub add_round_key : List (List ℕ) → List (List ℕ) → List (List ℕ)
add_round_key s k = state (λ r c. cell s r c ⊕ cell k r c)

-- the words of round n in a key schedule
unfoldable pub round_key_of : List (List ℕ) → ℕ → List (List ℕ)
round_key_of w n = four (λ c. get_or w (4 * n + c) [])

-- algorithm 1, lines 3 to 9: the first round key, and n rounds
unfoldable pub rounds : List (List ℕ) → ℕ → List (List ℕ) → List (List ℕ)
rounds w zero s = add_round_key s (round_key_of w 0)
rounds w (suc n) s = add_round_key (mix_columns (shift_rows (sub_bytes (rounds w n s)))) (round_key_of w (suc n))

-- algorithm 1: the last round has no MixColumns
unfoldable pub cipher : List (List ℕ) → List (List ℕ) → List (List ℕ)
cipher w s = add_round_key (shift_rows (sub_bytes (rounds w 13 s))) (round_key_of w 14)

-- the block that the cipher makes of a block under a key schedule
unfoldable pub encrypted : List (List ℕ) → List ℕ → List ℕ
encrypted w block = block_of (cipher w (state_of block))
