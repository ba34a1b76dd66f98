-- Laws of the sheet: what text is printed, and demand 3 and the ceiling on it.
-- Assumes nothing.
use mathlib.Core.Path.{◌≡◌, refl, sym, ap, ◌∙◌}
use mathlib.Core.Bool.{true, false, cond}
use mathlib.Core.List.{List}
use Prim.Native.Nat.{ℕ, ◌≤◌, ◌<◌}
use native.Mathlib.Omega.{arith}
use borrow.Author.Tests.{le-leb, lt-leb, eq-eqb, ne_eqb}
use lib.IntN.{ℤ}
use lib.ListN.{length, replicate}
use Rattle.calls.specs.Outcome.{Outcome, accepted, refused}
use Rattle.calls.specs.Region.{over}
use Rattle.sets.specs.declared.Parameters.{Parameters}
use Rattle.sets.specs.Table.{set_of}
use Rattle.sets.specs.Derived.{half_modulus_of}
use Rattle.packing.specs.Digits.{Digit}
use Rattle.claim.specs.Claim.{Demand3}
use Rattle.claim.specs.Ceiling.{WithinCeiling}
use Rattle.ceiling.specs.Ceiling.{ceiling}
use Rattle.sheet_text.specs.Text.{sheet_text, refused_text}
use Rattle.sheet_parts.specs.Checks.{has_sheet_of, input_bytes_of, set_byte_of, input_answer}
use Rattle.sheet_parts.specs.Printed.{Printed}
use Rattle.sheet_parts.proofs.Laws.{input_passed, input_is, input_refused}
use Rattle.sheet_rows.specs.Input.{handed_in, rows_answer, sheet_work}
use Rattle.sheet_rows.specs.Rows.{InputRows}
use Rattle.sheet_rows.proofs.InputClaim.{rows_claim, rows_within}
use Rattle.sheet.specs.Sheet.{sheet_answer, answer_text, rows_text, sheet_of, sheet_fits}

-- the text of rows that are filled
pub accepted_text : (set : ℕ) (p : Parameters) (input : List ℕ) {o : Outcome} {noise : List ℤ} {sent read : List ℕ} → p ≡ set_of set
    → o ≡ rows_answer set input → o ≡ accepted → InputRows set input noise sent read
    → sheet_text noise sent read (ceiling p) (half_modulus_of p) ≡ answer_text (rows_answer set input) (rows_text set input)
unfolding rows_text
accepted_text set p input same e a rows = rw (same, sym e ∙ a, rows.noise_is, rows.sent_is, rows.read_is)

-- the text of a refusal
pub refused_text_lem : {o : Outcome} {number place : ℕ} (text : List ℕ) → o ≡ refused number place → refused_text number place ≡ answer_text o text
refused_text_lem text e = rw e

-- the sheet of an input that passes its checks, and of one that does not
pub checked_text : (input : List ℕ) → input_answer input accepted ≡ accepted
    → answer_text (rows_answer (set_byte_of input) input) (rows_text (set_byte_of input) input) ≡ sheet_of input
unfolding sheet_of sheet_answer
checked_text input e =
    let is = input_is input accepted e in
    ap (λ (o : Outcome). answer_text o (rows_text (set_byte_of input) input)) (sym (input_passed input (rows_answer (set_byte_of input) input) is.0 is.1 is.2))

pub unchecked_text : (input : List ℕ) {number place : ℕ} → input_answer input accepted ≡ refused number place → refused_text number place ≡ sheet_of input
unfolding sheet_of sheet_answer
unchecked_text input e = refused_text_lem (rows_text (set_byte_of input) input) (input_refused input (rows_answer (set_byte_of input) input) e)

module _ (input : List ℕ) (bytes : Digit 8 input) (taken : sheet_answer input ≡ accepted) where
  -- the checks that it passed
  passed : (1 ≤ length input) × (has_sheet_of (set_byte_of input) ≡ true) × (length input ≡ input_bytes_of (set_byte_of input))
      × (rows_answer (set_byte_of input) input ≡ accepted)
  unfolding sheet_answer
  passed = input_is input (rows_answer (set_byte_of input) input) taken

  -- demand 3 on an accepted sheet
  sheet_claim : Demand3 (set_byte_of input) (handed_in (set_byte_of input) input)
  sheet_claim = rows_claim (set_byte_of input) input bytes passed.1 passed.2 passed.3

  -- its noise is within the ceiling
  sheet_within : WithinCeiling (set_byte_of input) (handed_in (set_byte_of input) input)
  sheet_within = rows_within (set_byte_of input) input bytes passed.1 passed.2 passed.3

module _ (text work : ℕ) where
  -- whether the slices lent fit
  pub text_short : text < 1024 → sheet_fits text work ≡ false
  unfolding sheet_fits
  text_short h = rw (lt-leb 1024 text h)

  pub work_other : 1024 ≤ text → (work ≡ 22521 → ⊥) → sheet_fits text work ≡ false
  unfolding sheet_fits sheet_work
  work_other h other = rw (le-leb 1024 text h, ne_eqb work 22521 other)

  pub both_fit : 1024 ≤ text → work ≡ 22521 → sheet_fits text work ≡ true
  unfolding sheet_fits sheet_work
  both_fit h same = rw (le-leb 1024 text h, eq-eqb work 22521 same)

-- the work slice's length
pub work_is : {work : ℕ} → work ≡ 22521 → work ≡ sheet_work
unfolding sheet_work
work_is e = e

-- what a sheet of an input answers and leaves in the slices lent
module _ (input text work : List ℕ) (bytes : Digit 8 input) where
  abbrev pub Left : ℕ → List ℕ → List ℕ → Type 0
  Left count text₁ work₁ =
      (count ≡ cond (sheet_fits (length text) (length work)) (length (sheet_of input)) 0)
      × ((count ≤ 1024)
      × ((text₁ ≡ cond (sheet_fits (length text) (length work)) (over text 0 (sheet_of input)) text)
      × ((work₁ ≡ cond (sheet_fits (length text) (length work)) (replicate (length work) 0) work)
      × ((sheet_answer input ≡ accepted → Demand3 (set_byte_of input) (handed_in (set_byte_of input) input))
      × (sheet_answer input ≡ accepted → WithinCeiling (set_byte_of input) (handed_in (set_byte_of input) input))))))

  -- a slice does not fit
  pub nothing_written : sheet_fits (length text) (length work) ≡ false → Left 0 text work
  nothing_written e = rw e (refl, (omega arith, (refl, (refl, (sheet_claim input bytes, sheet_within input bytes)))))

  -- both fit
  pub sheet_written : {count : ℕ} {text₁ work₁ : List ℕ} → sheet_fits (length text) (length work) ≡ true → Printed text (sheet_of input) text₁ count
      → work₁ ≡ replicate (length work) 0 → Left count text₁ work₁
  sheet_written e printed cleared =
      rw e (printed.count_is, (printed.short, (printed.text_is, (cleared, (sheet_claim input bytes, sheet_within input bytes)))))
