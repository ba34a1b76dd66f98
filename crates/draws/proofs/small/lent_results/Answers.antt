-- `draws::small::lent_results` meets its contract: the bytes of each result that the loop has passed are lent.
-- Assumes nothing.
use native.Mathlib.Omega.{arith}
use mathlib.Core.Path.{◌≡◌, sym, ◌∙◌}
use Rattle.draws.proofs.Positions.{lent_none, lent_more, lent_stop, lent_all}
use Rattle.draws.proofs.small.lent_results.Goals as goal

pub loop-i-init : goal.loop-i-init
loop-i-init c = lent_none _ _ _ _

pub returns-then-not-is_lent : goal.returns-then-not-is_lent
returns-then-not-is_lent c = lent_stop c.loop-i.invariant (sym c.is_lent.ensures ∙ c.if-not-is_lent.true)

pub loop-i-preserved : goal.loop-i-preserved
loop-i-preserved c =
    lent_more c.loop-i.invariant (omega arith) (sym c.is_lent.ensures ∙ c.if-not-is_lent.false)

pub returns : goal.returns
returns c = let all : c.loop-i.i ≡ c.args.wanted = omega arith in rw all at (lent_all c.loop-i.invariant (omega arith))
