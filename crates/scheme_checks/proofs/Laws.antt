-- What a call answers and leaves that makes its checks, then its draws, then clears the work slice: the same for every call of both schemes.
-- Assumes nothing.
use mathlib.Core.Path.{◌≡◌, refl, sym}
use mathlib.Core.List.{List}
use Prim.Native.Nat.{ℕ}
use lib.ListN.{length, replicate}
use Rattle.std.specs.Prelude.{⊤, Result, Err, IsErrAnd}
use Rattle.calls.specs.declared.Refusal.{Refusal}
use Rattle.calls.specs.Outcome.{Outcome, accepted, and_then, leaves, outcome}
use Rattle.calls.proofs.Outcome.{handed_on}
use Rattle.std.proofs.lemmas.Result.{err_from_is_err_and}
use Rattle.sets.specs.declared.Parameters.{Parameters}
use Rattle.scheme.specs.Answers.{work_left}
use Rattle.scheme_checks.specs.Checked.{Checked}

-- what `?` hands on is the refusal of a check
pub handed_refusal : (set : ℕ) {checks : Outcome} (e : Refusal) (r : Result Parameters Refusal) → IsErrAnd r (λ y. y ≡ e) → outcome (Err e) ≡ checks
    → Checked set checks r
handed_refusal set e r handed met = let same = err_from_is_err_and r handed in rw (same.1, same.2) met

-- what a call with these checks and draws promises: its answer, an output, the work slice
abbrev pub OneLeft : (checked draws o : Outcome) (new old out work left : List ℕ) → Type 0
OneLeft checked draws o new old out work left =
    (o ≡ and_then checked draws) × ((out ≡ leaves (and_then checked draws) new old) × (left ≡ work_left checked work))

-- the same of a call with two outputs
abbrev pub TwoLeft : (checked draws o : Outcome) (new old out new₂ old₂ out₂ work left : List ℕ) → Type 0
TwoLeft checked draws o new old out new₂ old₂ out₂ work left =
    (o ≡ and_then checked draws)
    × ((out ≡ leaves (and_then checked draws) new old)
    × ((out₂ ≡ leaves (and_then checked draws) new₂ old₂) × (left ≡ work_left checked work)))

module _ {checked : Outcome} (draws : Outcome) (work new old : List ℕ) where
  -- the checks refuse, which `?` hands on, and nothing is written
  pub one_refused : (e : Refusal) (r : Result ⊤ Refusal) → IsErrAnd r (λ y. y ≡ e) → outcome (Err e) ≡ checked
      → OneLeft checked draws (outcome r) new old old work work
  unfolding work_left
  one_refused e r handed met = rw (sym met) (handed_on e r handed, (refl, refl))

  -- they pass: the draws decide, and the work slice is cleared
  pub one_drawn : {o : Outcome} {out left : List ℕ} → checked ≡ accepted → (o ≡ draws) × (out ≡ leaves draws new old) → left ≡ replicate (length work) 0
      → OneLeft checked draws o new old out work left
  unfolding work_left
  one_drawn e made cleared = rw e (made.0, (made.1, cleared))

  module _ (new₂ old₂ : List ℕ) where
    pub two_refused : (e : Refusal) (r : Result ⊤ Refusal) → IsErrAnd r (λ y. y ≡ e) → outcome (Err e) ≡ checked
        → TwoLeft checked draws (outcome r) new old old new₂ old₂ old₂ work work
    unfolding work_left
    two_refused e r handed met = rw (sym met) (handed_on e r handed, (refl, (refl, refl)))

    pub two_drawn : {o : Outcome} {out out₂ left : List ℕ} → checked ≡ accepted
        → (o ≡ draws) × ((out ≡ leaves draws new old) × (out₂ ≡ leaves draws new₂ old₂)) → left ≡ replicate (length work) 0
        → TwoLeft checked draws o new old out new₂ old₂ out₂ work left
    unfolding work_left
    two_drawn e made cleared = rw e (made.0, (made.1.0, (made.1.1, cleared)))
