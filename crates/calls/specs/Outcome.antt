-- The papers' own answer of a call, what a refusal is, and what a refused call leaves in an output (01, How each call answers).
-- Assumes nothing.
use Rattle.std.specs.Prelude.{◌≡◌, refl, Bool, true, false, List, [], ◌∷◌, ℕ, ⊤, Result, Ok, Err}
use Rattle.calls.specs.declared.Refusal.{Refusal}
use Rattle.calls.specs.declared.Refusal.TheVariants.{NoSuchSet, Length, OutOfRange, BytesEnded, SetAside, Size, AboveTransform, OtherScheme}
use Rattle.calls.specs.declared.Refusal.TheVariants.{CiphertextLength, WorkLength, RowCount, NoTransform}

-- accepted, or refused with a number and a place
pub data Outcome : Type 0 where
  accepted : Outcome
  refused : ℕ → ℕ → Outcome

-- the papers' number of each refusal
abbrev pub number_of : Refusal → ℕ
number_of NoSuchSet = 1
number_of Length = 2
number_of (OutOfRange place) = 3
number_of (BytesEnded place) = 4
number_of (SetAside place) = 5
number_of Size = 6
number_of AboveTransform = 7
number_of OtherScheme = 8
number_of CiphertextLength = 9
number_of WorkLength = 10
number_of RowCount = 11
number_of NoTransform = 12

-- the place of a refusal, 0 where none is named
abbrev pub place_of : Refusal → ℕ
place_of (OutOfRange place) = place
place_of (BytesEnded place) = place
place_of (SetAside place) = place
place_of refusal = 0

-- the papers' answer for each case of the code's answer
abbrev pub outcome : Result ⊤ Refusal → Outcome
outcome (Ok done) = accepted
outcome (Err refusal) = refused (number_of refusal) (place_of refusal)

-- one check of a call: where the test holds, refused with this number and place; else what comes after
abbrev pub refuse : Bool → ℕ → ℕ → Outcome → Outcome
refuse true number place after = refused number place
refuse false number place after = after

-- what a call leaves in an output: the new entries where it is accepted, the former ones where it is refused
abbrev pub leaves : {A : Type 0} → Outcome → List A → List A → List A
leaves accepted new old = new
leaves (refused number place) new old = old

-- one call after another: the second is made only where the first is accepted
abbrev pub and_then : Outcome → Outcome → Outcome
and_then accepted after = after
and_then (refused number place) after = refused number place

outcome_example : outcome (Err (OutOfRange 7)) ≡ refused 3 7
outcome_example = refl

-- checks come in the order written: the first that holds decides
refuse_example : refuse false 1 0 (refuse true 6 0 (refuse true 3 5 accepted)) ≡ refused 6 0
refuse_example = refl

leaves_example : ◌≡◌ {A = List ℕ} (leaves (refused 2 0) (1 ∷ 2 ∷ []) (8 ∷ 9 ∷ [])) (8 ∷ 9 ∷ [])
leaves_example = refl

-- the first refusal decides
and_then_example : and_then accepted (and_then (refused 5 0) (refused 2 0)) ≡ refused 5 0
and_then_example = refl
