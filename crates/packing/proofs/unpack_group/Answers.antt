-- `packing::unpack_group` (003, algorithms 20 and 22) meets its contract: after k turns the first k numbers of the group stand in place.
-- Assumes nothing.
use mathlib.Core.Path.{refl, sym, ◌∙◌}
use native.Mathlib.Omega.{arith}
use Rattle.calls.proofs.Filled.{filled_none, filled_more, filled_all}
use Rattle.packing.proofs.Groups.{group_length, group_at}
use Rattle.packing.proofs.unpack_group.Goals as goal

pub loop-k-init : goal.loop-k-init
loop-k-init c = filled_none (group_length _ _ _ _) (omega arith)

pub loop-k-preserved : goal.loop-k-preserved
loop-k-preserved c =
    let a = c.args in
    let now = c.loop-k in
    filled_more 0 now.invariant c.loop-k-test.true refl
    (c.number_in_group.ensures ∙ sym (group_at a.kept a.cmp a.j a.bytes.now now.k c.loop-k-test.true))

pub returns : goal.returns
returns c = filled_all c.loop-k.invariant (omega arith)
