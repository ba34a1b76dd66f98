-- `draws::small::fill_errors` meets its contract: each turn writes the error of the next byte.
-- Assumes nothing.
use mathlib.Core.Path.{refl, ◌∙◌}
use native.Mathlib.Nat.{zero-add}
use mir.Syntax.{w32}
use mir.Val.{SFits}
use mir.Facts.{to_z-of_z}
use native.Mathlib.Omega.{arith}
use Rattle.calls.proofs.Filled.{filled_whole}
use Rattle.draws.specs.Small.{error_at}
use Rattle.draws.proofs.Positions.{turned_none, turned_more}
use borrow.Author.Rules.{rules}
use Rattle.draws.proofs.small.fill_errors.Goals as goal

pub loop-i-init : goal.loop-i-init
loop-i-init c = turned_none _ _ _

pub loop-i-preserved : goal.loop-i-preserved
unfolding error_at
loop-i-preserved c =
    let fits : SFits w32 c.error_of.result = search rules in
    turned_more (error_at c.args.bytes.now) 0 c.loop-i.invariant (omega arith) (to_z-of_z fits ∙ c.error_of.ensures ∙ rw zero-add)

pub returns : goal.returns
returns c = filled_whole c.loop-i.invariant refl (omega arith)
