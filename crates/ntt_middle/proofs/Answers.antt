-- The answer, the output and the work slice of the transformed middle product, check by check (01, How each call answers).
-- Assumes nothing.
use mathlib.Core.Path.{◌≡◌, sym, ap, ◌∙◌}
use mathlib.Core.List.{List}
use Prim.Native.Nat.{ℕ}
use native.Mathlib.Omega.{arith}
use borrow.Author.Tests.{leb-true, eqb-true}
use lib.ListN.{length, replicate}
use Rattle.maths.specs.Product.{middle_product_of}
use Rattle.calls.specs.Outcome.{Outcome, accepted, refused, leaves, and_then}
use Rattle.calls.proofs.Outcome.{leaves_refused, leaves_accepted}
use Rattle.calls.proofs.Checks.{all_of_each}
use Rattle.sets.specs.Table.{set_of}
use Rattle.ntt_middle_checks.specs.Checks.{transformed_shape, lengths_checked_of}
use Rattle.ntt_middle_checks.proofs.Laws.{lengths_then, lengths_are}
use Rattle.ntt_middle.specs.Calls.{numbers_checked_of, transformed_answer, transformed_left, middle_work_left}
use Rattle.ntt_middle.specs.Lengths.{Lengths}

-- lengths that pass
pub lengths_passed : (set a b d work : ℕ) → lengths_checked_of set a b d work accepted ≡ accepted → Lengths (set_of set) a b d work
lengths_passed set a b d work passed =
    let are = lengths_are set a b d work passed in
    let each = all_of_each (transformed_shape (set_of set).d3 a b d work) are.1 in
    record {
      some = omega (arith, leb-true);
      results = omega (arith, leb-true);
      fit = omega (arith, leb-true, eqb-true);
      room = are.2;
      whole = eqb-true work (set_of set).d3 each.0;
    }

-- what a call has answered and left: the answer, the output, the work slice
abbrev pub Ended : ℕ → List ℕ → List ℕ → List ℕ → List ℕ → Outcome → List ℕ → List ℕ → Type 0
Ended set a b out work answer out' work' =
    (answer ≡ transformed_answer set a b (length out) (length work))
    × ((out' ≡ transformed_left set a b out (length work)) × (work' ≡ middle_work_left set (length a) (length b) (length out) work))

module _ (set : ℕ) (a b out work : List ℕ) where
  -- the checks of the set and of the lengths
  abbrev checks : Outcome
  checks = lengths_checked_of set (length a) (length b) (length out) (length work) accepted

  -- they refuse, and both slices stay as they were
  pub refused_early : {answer : Outcome} {number place : ℕ} → answer ≡ checks → answer ≡ refused number place → Ended set a b out work answer out work
  unfolding transformed_answer transformed_left middle_work_left
  refused_early e told =
      let whole = lengths_then set (length a) (length b) (length out) (length work) (numbers_checked_of (set_of set).q a b)
      ∙ ap (λ (o : Outcome). and_then o (numbers_checked_of (set_of set).q a b)) (sym e ∙ told) in
      (told ∙ sym whole, (sym (leaves_refused _ out whole), sym (leaves_refused _ work (sym e ∙ told))))

  -- they pass: the numbers decide, and the work slice is cleared
  pub numbers_decide : checks ≡ accepted → {answer : Outcome} {out' work' : List ℕ} {n : ℕ}
      → answer ≡ numbers_checked_of (set_of set).q a b
      → out' ≡ leaves (numbers_checked_of (set_of set).q a b) (middle_product_of (set_of set).q a b (length out)) out → work' ≡ replicate n 0
      → n ≡ length work
      → Ended set a b out work answer out' work'
  unfolding transformed_answer transformed_left middle_work_left
  numbers_decide passed answered left cleared kept =
      let whole = lengths_then set (length a) (length b) (length out) (length work) (numbers_checked_of (set_of set).q a b)
      ∙ ap (λ (o : Outcome). and_then o (numbers_checked_of (set_of set).q a b)) passed in
      (answered ∙ sym whole, (rw whole left, cleared ∙ rw kept (sym (leaves_accepted _ work passed))))
