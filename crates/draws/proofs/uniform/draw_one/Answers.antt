-- `draws::uniform::draw_one` meets its contract: each turn sets one candidate aside.
-- Assumes nothing.
use native.Mathlib.Omega.{arith}
use Rattle.draws.proofs.Candidates.{little_three_below}
use Rattle.draws.proofs.Sampling.{sampled_none, sampled_next, sampling_end, sampling_take}
use Rattle.draws.proofs.uniform.draw_one.Goals as goal

pub loop-run-init : goal.loop-run-init
loop-run-init c = sampled_none _ _ _ _ _ (omega arith)

pub returns-then-end-position : goal.returns-then-end-position
returns-then-end-position c = sampling_end (c.loop-run.invariant.going (omega arith)) (omega arith)

pub reduce_scaled-requires : goal.reduce_scaled-requires
reduce_scaled-requires c =
    let below = little_three_below c.args.bytes.now c.loop-run.position (omega arith)
    (λ k. (c.shared_slice_known-1.given k).fits)
    in
    (omega (arith, c.candidate_at-candidate.ensures, below), c.requires.0, c.scale-scale.ensures)

pub returns-then-candidate-threshold : goal.returns-then-candidate-threshold
returns-then-candidate-threshold c =
    sampling_take (c.loop-run.invariant.going (omega arith)) (omega arith) c.candidate_at-candidate.ensures c.if-candidate-threshold.true
    c.reduce_scaled.ensures

pub loop-run-preserved : goal.loop-run-preserved
loop-run-preserved c =
    sampled_next (c.loop-run.invariant.going (omega arith)) (omega arith) c.candidate_at-candidate.ensures c.if-candidate-threshold.false

pub returns : goal.returns
returns c = c.loop-run.invariant.spent (omega arith)
