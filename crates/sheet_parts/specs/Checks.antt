-- The checks of an input of the bench sheet (01, The bench sheet; How each call answers: Bench sheet): which sets have one, and how many bytes.
-- Assumes nothing.
use Rattle.std.specs.Prelude.{◌≡◌, refl, Bool, cond, not, ◌||◌, List, [], ◌∷◌, map, ℕ, leb, ltb, eqb, length}
use Rattle.maths.specs.Vector.{at}
use Rattle.calls.specs.Outcome.{Outcome, refuse}
use Rattle.sets.specs.Table.{none, table, set_of}
use Rattle.sets.specs.Derived.{is_encryption}

-- the sets that have a sheet: set 0, Bench, and the encryption sets
unfoldable pub has_sheet_of : ℕ → Bool
has_sheet_of set = eqb set 0 || is_encryption set

-- an input of set 0 has the set byte, a (2), s (4), e (3), r (2) and the message bits (2)
-- an input of an encryption set has the set byte, key seed, sealing seed and message, of 32 bytes each
unfoldable pub input_bytes_of : ℕ → ℕ
input_bytes_of set = cond (eqb set 0) 14 97

-- the set byte; an empty input has none
unfoldable pub set_byte_of : List ℕ → ℕ
set_byte_of input = at input 0

-- 2 for an empty input, 1 when the set is not 0 to 6, 2 when the length is not the set's; then what comes after
unfoldable pub input_answer : List ℕ → Outcome → Outcome
input_answer input after =
    refuse (ltb (length input) 1) 2 0
    (refuse (not (has_sheet_of (set_byte_of input))) 1 0
    (refuse (not (eqb (length input) (input_bytes_of (set_byte_of input)))) 2 0 after))

-- sets 0 to 6 have a sheet, and no set after them
abbrev numbers : List ℕ
numbers = 0 ∷ 1 ∷ 2 ∷ 3 ∷ 4 ∷ 5 ∷ 6 ∷ 7 ∷ 8 ∷ 9 ∷ 10 ∷ 11 ∷ 12 ∷ 13 ∷ []

has_sheet_example : map has_sheet_of numbers ≡ map (λ set. leb set 6) numbers
unfolding has_sheet_of is_encryption none set_of table
has_sheet_example = refl
