-- Laws of an outcome: what a check gives when its test is known, what an accepted call tells, and what a call leaves.
-- Assumes nothing.
use mathlib.Core.Path.{◌≡◌, refl, sym, ◌∙◌}
use mathlib.Core.Bool.{Bool, true, false}
use mathlib.Core.List.{List}
use Prim.Native.Nat.{ℕ}
use native.Mathlib.Omega.{arith}
use Rattle.std.specs.Prelude.{⊤, Result, Err, IsErrAnd}
use Rattle.std.proofs.lemmas.Result.{err_from_is_err_and}
use Rattle.calls.specs.declared.Refusal.{Refusal}
use Rattle.calls.specs.Outcome.{Outcome, accepted, refused, refuse, leaves, and_then, outcome}

-- an accepted call is not refused
pub accepted_refused : {o : Outcome} {number place : ℕ} → o ≡ accepted → o ≡ refused number place → ⊥
accepted_refused a r = let z : ◌≡◌ {A = ℕ} 0 1 = cc in omega arith

-- a check whose test holds refuses
pub refuse_true : {t : Bool} (number place : ℕ) (after : Outcome) → t ≡ true → refuse t number place after ≡ refused number place
refuse_true number place after e = rw e

-- a check whose test fails gives what comes after
pub refuse_false : {t : Bool} (number place : ℕ) (after : Outcome) → t ≡ false → refuse t number place after ≡ after
refuse_false number place after e = rw e

-- an accepted call failed the test of its first check, and what comes after accepts
pub refuse_accepted : (t : Bool) (number place : ℕ) (after : Outcome) → refuse t number place after ≡ accepted → (t ≡ false) × (after ≡ accepted)
refuse_accepted true number place after e = absurd (accepted_refused e refl)
refuse_accepted false number place after e = (refl, e)

-- two calls in turn are accepted: both are
pub and_then_accepted : (first after : Outcome) → and_then first after ≡ accepted → (first ≡ accepted) × (after ≡ accepted)
and_then_accepted accepted after e = (refl, e)
and_then_accepted (refused number place) after e = absurd (accepted_refused e refl)

module _ {A : Type 0} (new old : List A) where
  -- an accepted call leaves the new entries
  pub leaves_accepted : {o : Outcome} → o ≡ accepted → leaves o new old ≡ new
  leaves_accepted e = rw e

  -- a refused call writes nothing
  pub leaves_refused : {o : Outcome} {number place : ℕ} → o ≡ refused number place → leaves o new old ≡ old
  leaves_refused e = rw e

-- what is the same before and after is left so, whatever the answer
pub leaves_same : {A : Type 0} (o : Outcome) (xs : List A) → leaves o xs xs ≡ xs
leaves_same accepted xs = refl
leaves_same (refused number place) xs = refl

module _ {A : Type 0} {o : Outcome} (new old : List A) where
  -- a refused call: the answer, and the output as it was
  pub refused_call : {number place : ℕ} → o ≡ refused number place → (refused number place ≡ o) × (old ≡ leaves o new old)
  refused_call e = (sym e, sym (leaves_refused new old e))

  -- an accepted call: the answer, and the output as written
  pub accepted_call : {written : List A} → o ≡ accepted → written ≡ new → (accepted ≡ o) × (written ≡ leaves o new old)
  accepted_call e w = (sym e, w ∙ sym (leaves_accepted new old e))

-- what `?` hands on is the refusal that was met
pub handed_on : (e : Refusal) (r : Result ⊤ Refusal) → IsErrAnd r (λ y. y ≡ e) → outcome r ≡ outcome (Err e)
handed_on e r h = let same = err_from_is_err_and r h in rw (same.1, same.2) refl

-- a call that hands on the refusal of a check: the answer, and the output as it was
pub handed_call : {A : Type 0} {o : Outcome} (new old : List A) (e : Refusal) (r : Result ⊤ Refusal) → IsErrAnd r (λ y. y ≡ e) → o ≡ outcome (Err e)
    → (outcome r ≡ o) × (old ≡ leaves o new old)
handed_call new old e r h met = let whole = refused_call new old met in (handed_on e r h ∙ whole.0, whole.1)

-- what `?` hands on is the refusal that was met, turned into one of a call
pub handed_as : {o : Outcome} (r : Result ⊤ Refusal) → IsErrAnd r (λ y. outcome (Err y) ≡ o) → outcome r ≡ o
handed_as r h = let same = err_from_is_err_and r h in rw (same.1, same.2)
