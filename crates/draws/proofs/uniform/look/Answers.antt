-- `draws::uniform::look` meets its contract: each turn draws one result, and the first refusal is the answer.
-- Assumes nothing.
use mathlib.Core.Path.{sym, ap, ◌∙◌}
use native.Mathlib.Omega.{arith}
use Rattle.draws.specs.Uniform.{sample, draw_number}
use Rattle.draws.proofs.Results.{looking_none, looking_more, looking_refused, looking_all}
use Rattle.draws.proofs.uniform.look.Goals as goal

pub loop-i-init : goal.loop-i-init
loop-i-init c = looking_none _ _ _ _

pub returns-in_default : goal.returns-in_default
returns-in_default c =
    let told = ap sample c.unwrap_err.ensures in
    c.at.ensures ∙ looking_refused c.loop-i.invariant (draw_number c.unwrap_err.result) (omega arith) (sym c.draw_one-drawn.ensures ∙ told)

pub loop-i-preserved : goal.loop-i-preserved
loop-i-preserved c =
    looking_more c.loop-i.invariant c.in-Ok.field-0-0 c.in-Ok.next (omega arith)
    (sym c.draw_one-drawn.ensures ∙ ap sample c.in-Ok.is)

pub returns : goal.returns
returns c = looking_all c.loop-i.invariant (omega arith)
