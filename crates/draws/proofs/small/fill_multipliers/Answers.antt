-- `draws::small::fill_multipliers` meets its contract: each turn writes the multiplier of the next position.
-- Assumes nothing.
use mathlib.Core.Path.{refl, ◌∙◌}
use mir.Syntax.{w32}
use mir.Val.{SFits}
use mir.Facts.{to_z-of_z}
use native.Mathlib.Omega.{arith}
use lib.ListN.{length}
use Rattle.calls.proofs.Filled.{filled_whole}
use Rattle.draws.proofs.Positions.{lent_before, turned_none, turned_more}
use borrow.Author.Rules.{rules}
use Rattle.draws.proofs.small.fill_multipliers.Goals as goal

pub loop-i-init : goal.loop-i-init
loop-i-init c = turned_none _ _ _

pub multiplier_at-requires : goal.multiplier_at-requires
multiplier_at-requires c =
    (c.requires.0, c.requires.1, omega arith, lent_before _ _ _ (length c.args.out.now) _ (omega arith))

pub loop-i-preserved : goal.loop-i-preserved
loop-i-preserved c =
    let fits : SFits w32 c.multiplier_at.result = search rules in
    turned_more _ _ c.loop-i.invariant (omega arith) (to_z-of_z fits ∙ c.multiplier_at.ensures)

pub returns : goal.returns
returns c = filled_whole c.loop-i.invariant refl (omega arith)
