-- The bench sheet of an input (01, The bench sheet; How each call answers: Bench sheet): its answer, and the bytes of its whole text.
-- Assumes nothing.
use Rattle.std.specs.Prelude.{◌≡◌, refl, Bool, ◌&&◌, List, [], ◌∷◌, ℕ, leb, eqb}
use Rattle.calls.specs.Outcome.{Outcome, accepted, refused}
use Rattle.sets.specs.Table.{table, set_of}
use Rattle.sets.specs.Derived.{is_encryption, half_modulus_of}
use Rattle.ceiling.specs.Ceiling.{ceiling}
use Rattle.sheet_text.specs.Text.{sheet_text, refused_text}
use Rattle.sheet_parts.specs.Checks.{has_sheet_of, input_bytes_of, set_byte_of, input_answer}
use Rattle.sheet_rows.specs.Input.{row_noise, row_sent, row_read, rows_answer, sheet_work}

-- then what the rows answer
unfoldable pub sheet_answer : List ℕ → Outcome
sheet_answer input = input_answer input (rows_answer (set_byte_of input) input)

-- the text of an answer: this text where it is accepted, else that of the refusal
abbrev pub answer_text : Outcome → List ℕ → List ℕ
answer_text accepted text = text
answer_text (refused number place) text = refused_text number place

-- the text of the rows of an accepted input, with its header and its last line
unfoldable pub rows_text : ℕ → List ℕ → List ℕ
rows_text set input = sheet_text (row_noise set input) (row_sent set input) (row_read set input) (ceiling (set_of set)) (half_modulus_of (set_of set))

-- the whole sheet of an input
unfoldable pub sheet_of : List ℕ → List ℕ
sheet_of input = answer_text (sheet_answer input) (rows_text (set_byte_of input) input)

-- whether the slices lent for the text and the work have room
unfoldable pub sheet_fits : ℕ → ℕ → Bool
sheet_fits text work = leb 1024 text && eqb work sheet_work

-- an empty input is refused with 2
sheet_answer_example : sheet_answer [] ≡ refused 2 0
unfolding sheet_answer input_answer
sheet_answer_example = refl

-- a set above 6 is refused with 1, though the length is wrong too
sheet_answer_example₂ : sheet_answer (7 ∷ []) ≡ refused 1 0
unfolding sheet_answer input_answer set_byte_of has_sheet_of is_encryption table set_of
sheet_answer_example₂ = refl

-- an input of set 0 with a byte too few is refused with 2
sheet_answer_example₃ : sheet_answer (0 ∷ 3 ∷ 5 ∷ 1 ∷ 2 ∷ 3 ∷ 4 ∷ 1 ∷ 0 ∷ 255 ∷ 1 ∷ 254 ∷ 1 ∷ []) ≡ refused 2 0
unfolding sheet_answer input_answer set_byte_of has_sheet_of input_bytes_of
sheet_answer_example₃ = refl
