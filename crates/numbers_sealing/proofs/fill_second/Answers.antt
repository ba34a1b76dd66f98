-- `numbers_sealing::fill_second` meets its contract: after j turns the first j places are finished, and the rest is as it was before the walk.
-- Assumes nothing.
use mathlib.Core.Path.{◌≡◌, sym, ◌∙◌}
use Prim.Native.Nat.{◌-◌}
use native.Mathlib.Omega.{arith}
use lib.ListN.{length}
use Rattle.c2_place.proofs.Laws.{walked_none, walked_length, walked_all}
use Rattle.numbers_sealing_parts.proofs.Finished.{finished_length}
use Rattle.numbers_sealing.proofs.fill_second.Goals.{At-loop-j}
use Rattle.numbers_sealing.proofs.fill_second.Goals as goal

-- c2 has d places
kept : (c : At-loop-j) → length c.loop-j.c2 ≡ c.args.p.d
kept c =
    let args = c.args in walked_length c.loop-j.invariant ∙ finished_length args.p args.rs.now args.b.now args.m.now

pub loop-j-init : goal.loop-j-init
loop-j-init c =
    let args = c.args in
    walked_none (c.requires.5 ∙ sym (finished_length args.p args.rs.now args.b.now args.m.now))

pub finish_place-requires : goal.finish_place-requires
finish_place-requires c =
    let pre = c.requires in (
      pre.0,
      pre.1,
      pre.2,
      omega (arith, kept (goal.at.finish_place-requires c).At-loop-j),
      omega (arith, kept (goal.at.finish_place-requires c).At-loop-j, pre.3),
      pre.4 c.loop-j.j (omega (arith, kept (goal.at.finish_place-requires c).At-loop-j, pre.3)),
      kept (goal.at.finish_place-requires c).At-loop-j,
    )

pub loop-j-preserved : goal.loop-j-preserved
loop-j-preserved c = c.finish_place.ensures _ c.loop-j.invariant

pub shape_of-c2 : goal.shape_of-c2
shape_of-c2 c = kept (goal.at.shape_of-c2 c).At-loop-j ∙ sym c.requires.5

pub returns : goal.returns
returns c = walked_all c.loop-j.invariant (omega (arith, walked_length c.loop-j.invariant))
