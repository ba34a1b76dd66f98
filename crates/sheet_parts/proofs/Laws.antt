-- Laws of the checks of an input, which of them decides, and of a printed text.
-- Assumes nothing.
use mathlib.Core.Path.{◌≡◌, refl, ap, ◌∙◌}
use mathlib.Core.Bool.{Bool, true, false, not}
use mathlib.Core.List.{List}
use Prim.Native.Nat.{ℕ, ◌≤◌, ◌<◌}
use lib.Dec.{ltb, eqb}
use borrow.Author.Tests.{ltb-false, eqb-true, not-false, lt-ltb, le-ltb, eq-eqb, ne_eqb}
use lib.ListN.{length}
use Rattle.calls.specs.Outcome.{Outcome, accepted, refused, refuse}
use Rattle.calls.specs.Region.{over}
use Rattle.calls.proofs.Outcome.{accepted_refused, refuse_accepted}
use Rattle.sheet_parts.specs.Checks.{has_sheet_of, input_bytes_of, set_byte_of, input_answer}
use Rattle.sheet_parts.specs.Printed.{Printed}

-- which of three checks refuses does not depend on what comes after
three_refused : (a b c : Bool) (after : Outcome) {number place : ℕ} → refuse a 2 0 (refuse b 1 0 (refuse c 2 0 accepted)) ≡ refused number place
    → refuse a 2 0 (refuse b 1 0 (refuse c 2 0 after)) ≡ refused number place
three_refused true b c after e = e
three_refused false true c after e = e
three_refused false false true after e = e
three_refused false false false after e = absurd (accepted_refused refl e)

module _ (input : List ℕ) where
  -- an empty input
  pub input_empty : (after : Outcome) → length input < 1 → input_answer input after ≡ refused 2 0
  unfolding input_answer
  input_empty after h = rw (lt-ltb (length input) 1 h)

  -- a set that has no sheet
  pub input_set : (after : Outcome) → 1 ≤ length input → has_sheet_of (set_byte_of input) ≡ false → input_answer input after ≡ refused 1 0
  unfolding input_answer
  input_set after some none = rw (le-ltb (length input) 1 some, none)

  -- a length that is not the set's
  pub input_length : (after : Outcome) → 1 ≤ length input → has_sheet_of (set_byte_of input) ≡ true → (length input ≡ input_bytes_of (set_byte_of input) → ⊥)
      → input_answer input after ≡ refused 2 0
  unfolding input_answer
  input_length after some has other = rw (le-ltb (length input) 1 some, has, ne_eqb (length input) (input_bytes_of (set_byte_of input)) other)

  -- no check refuses
  pub input_passed : (after : Outcome) → 1 ≤ length input → has_sheet_of (set_byte_of input) ≡ true → length input ≡ input_bytes_of (set_byte_of input)
      → input_answer input after ≡ after
  unfolding input_answer
  input_passed after some has same = rw (le-ltb (length input) 1 some, has, eq-eqb (length input) (input_bytes_of (set_byte_of input)) same)

  -- what an input that passes the checks is
  pub input_is : (after : Outcome) → input_answer input after ≡ accepted
      → (1 ≤ length input) × (has_sheet_of (set_byte_of input) ≡ true) × (length input ≡ input_bytes_of (set_byte_of input)) × (after ≡ accepted)
  unfolding input_answer
  input_is after e =
      let first = refuse_accepted _ 2 0 _ e in
      let second = refuse_accepted _ 1 0 _ first.1 in
      let third = refuse_accepted _ 2 0 _ second.1 in
      (ltb-false _ _ first.0, not-false _ second.0, eqb-true _ _ (not-false _ third.0), third.1)

  -- a refusal does not depend on what comes after
  pub input_refused : (after : Outcome) {number place : ℕ} → input_answer input accepted ≡ refused number place
      → input_answer input after ≡ refused number place
  unfolding input_answer
  input_refused after e =
      three_refused (ltb (length input) 1) (not (has_sheet_of (set_byte_of input))) (not (eqb (length input) (input_bytes_of (set_byte_of input)))) after e

-- another name of the text printed
pub printed_as : {old text other new : List ℕ} {count : ℕ} → text ≡ other → Printed old text new count → Printed old other new count
printed_as e printed = record { count_is = printed.count_is ∙ ap length e; short = printed.short; text_is = printed.text_is ∙ ap (over _ 0) e }
