-- `c2_walk::fill` meets its contract: after j turns the first j places are finished, and the rest is as it was before the walk.
-- Assumes nothing.
use mathlib.Core.Path.{◌≡◌, sym, ◌∙◌}
use native.Mathlib.Omega.{arith}
use lib.ListN.{length}
use Rattle.c2_place.proofs.Laws.{walked_none, walked_length, walked_all}
use Rattle.c2_walk.proofs.Finished.{finished_length}
use Rattle.c2_walk.proofs.fill.Goals.{At-loop-j}
use Rattle.c2_walk.proofs.fill.Goals as goal

-- c2 keeps its length
kept : (c : At-loop-j) → length c.loop-j.c2 ≡ length c.args.c2.now
kept c =
    let args = c.args in
    walked_length c.loop-j.invariant
    ∙ finished_length args.reducer.q args.by args.half args.count (length args.c2.now) args.rows.now args.message.now

pub loop-j-init : goal.loop-j-init
loop-j-init c =
    let args = c.args in
    walked_none (sym (finished_length args.reducer.q args.by args.half args.count (length args.c2.now) args.rows.now args.message.now))

pub finish_place-requires : goal.finish_place-requires
finish_place-requires c =
    let same = kept (goal.at.finish_place-requires c).At-loop-j in
    (rw same c.requires, omega (arith, same, c.loop-j-test.true))

pub loop-j-preserved : goal.loop-j-preserved
loop-j-preserved c =
    (rw (kept (goal.at.loop-j-preserved c).At-loop-j) at c.finish_place.ensures) _ c.loop-j.invariant

pub shape_of-c2 : goal.shape_of-c2
shape_of-c2 c = kept (goal.at.shape_of-c2 c).At-loop-j

pub returns : goal.returns
returns c =
    walked_all c.loop-j.invariant (omega (arith, c.loop-j-test.false, walked_length c.loop-j.invariant))
