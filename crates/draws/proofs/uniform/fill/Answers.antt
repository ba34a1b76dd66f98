-- `draws::uniform::fill` meets its contract: each turn draws one result and writes it, and none is refused.
-- Assumes nothing.
use mathlib.Core.Path.{refl, sym, ap, ◌∙◌}
use native.Mathlib.Omega.{arith}
use Rattle.calls.proofs.Filled.{filled_whole}
use Rattle.draws.specs.Uniform.{sample, draw_number}
use Rattle.draws.proofs.Results.{filling_none, filling_more, filling_refused}
use Rattle.draws.proofs.uniform.fill.Goals as goal

pub loop-number-init : goal.loop-number-init
loop-number-init c = filling_none _ _ _ _ c.requires.1

pub returns-in_default : goal.returns-in_default
returns-in_default c =
    absurd (filling_refused c.loop-number.invariant (omega arith) (draw_number c.in_default.field-0)
    (sym c.draw_one.ensures ∙ ap sample c.in_default.is))

pub loop-number-preserved : goal.loop-number-preserved
loop-number-preserved c =
    filling_more c.loop-number.invariant (omega arith) c.in-Ok.residue c.in-Ok.next
    (sym c.draw_one.ensures ∙ ap sample c.in-Ok.is)

pub returns : goal.returns
returns c = filled_whole c.loop-number.invariant.filled refl (omega arith)
