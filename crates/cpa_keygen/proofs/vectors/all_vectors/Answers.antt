-- After i turns the first i vectors are stored; the first draw that is refused ends the loop.
-- Assumes nothing.
use mathlib.Core.Path.{◌≡◌, refl, sym, ◌∙◌}
use Prim.Native.Nat.{◌<◌}
use native.Mathlib.Omega.{arith}
use Rattle.calls.specs.Outcome.{accepted}
use Rattle.calls.proofs.Outcome.{handed_as}
use Rattle.samplers.specs.Seeded.{public_drawn}
use Rattle.scheme.proofs.Taken.{all_taken_false}
use Rattle.cpa_keygen.proofs.Drawn.{true_false, advanced, stopped, public_never_ends, refuse_taken, refuse_not_taken}
use Rattle.cpa_keygen.proofs.KeyVectors.{vectors_none, vectors_more, held_still}
use Rattle.cpa_keygen.proofs.vectors.all_vectors.Goals.{After-next_vector}
use Rattle.cpa_keygen.proofs.vectors.all_vectors.Goals as goal

-- a turn is below the count of polynomials
below : (c : After-next_vector) → c.loop-i.i < c.args.p.t
below c = omega arith

pub loop-i-init : goal.loop-i-init
loop-i-init c =
    (refl, refl, vectors_none c.args.p c.requires.0 c.requires.1 c.args.seed.now c.args.work.now c.requires.5)

pub next_vector-requires : goal.next_vector-requires
next_vector-requires c =
    let pre = c.requires in
    let p = c.args.p in
    let held =
    held_still p pre.0 pre.1 c.args.seed.now c.args.work.now pre.5 c.loop-i.i c.loop-i.counter c.loop-i.work
    c.loop-i.invariant.2 in
    (pre.0, pre.1, omega arith, c.loop-i.invariant.2.state_is, pre.2, pre.3, c.loop-i.invariant.0 ∙ pre.4, held)

pub returns-in_err-counter : goal.returns-in_err-counter
returns-in_err-counter c =
    let p = c.args.p in
    let seed = c.args.seed.now in
    let i = c.loop-i.i in
    let none =
    stopped _ _ (public_drawn p seed i) (λ xs run. public_never_ends p c.requires.0 seed xs run i)
    c.in_err-counter.ensures.answer in
    let one = all_taken_false p.t (public_drawn p seed) i (below (goal.at.returns-in_err-counter c).After-next_vector) none.not_taken in
    record {
      answer = handed_as c.from_residual.result c.from_residual.ensures.1 ∙ refuse_not_taken accepted one none.five;
      result = λ t. absurd (true_false t one);
    }

pub loop-i-preserved : goal.loop-i-preserved
loop-i-preserved c =
    let pre = c.requires in
    let p = c.args.p in
    let seed = c.args.seed.now in
    let this = c.loop-i in
    let vector = c.next_vector in
    let drawn = advanced _ _ (public_drawn p seed this.i) c.in_ok-counter.ensures.answer in (
      vector.auto.x ∙ this.invariant.0,
      vector.auto.work ∙ this.invariant.1,
      vectors_more p pre.0 pre.1 seed c.args.work.now pre.5 this.i this.counter this.work this.invariant.2 _ _
          (below (goal.at.loop-i-preserved c).After-next_vector)
          drawn.all_taken_lem drawn.next_is (vector.ensures.result drawn.all_taken_lem),
    )

pub returns : goal.returns
returns c =
    let this = c.loop-i in
    let end : this.i ≡ c.args.p.t = omega arith in
    record { answer = sym (refuse_taken accepted (rw end at this.invariant.2.all_taken_lem)); result = λ t. rw end at this.invariant.2.written }
