-- `samplers::block::continue_draw` meets its contract: each turn draws one result.
-- Assumes nothing.
use mathlib.Core.Path.{◌≡◌, sym, ap, ◌∙◌}
use Prim.Native.Nat.{◌-◌}
use native.Mathlib.Omega.{arith}
use lib.ListN.{length}
use Rattle.draws.specs.Uniform.{sample, refusal, draw_number, sample_at}
use Rattle.samplers.proofs.Continuing.{continuing_none, continuing_more, continuing_stop, continuing_run, continuing_all}
use Rattle.samplers.proofs.block.continue_draw.Goals.{After-unwrap_err}
use Rattle.samplers.proofs.block.continue_draw.Goals as goal

pub loop-done-init : goal.loop-done-init
loop-done-init c = continuing_none _ _ _ _ _ _ (omega arith) (omega arith)

pub draw_one-drawn-requires : goal.draw_one-drawn-requires
draw_one-drawn-requires c = (c.requires.0, c.loop-done.invariant.less)

-- the refusal of the result
refused : (c : After-unwrap_err) →
    let args = c.args in
    sample_at args.q args.threshold c.loop-done.run args.bytes.now c.loop-done.position ≡ refusal (draw_number c.unwrap_err.result)
refused c =
    sym c.draw_one-drawn.ensures ∙ ap sample c.unwrap_err.ensures

pub overflow_sub-bytes : goal.overflow_sub-bytes
overflow_sub-bytes c = c.loop-done.invariant.inside

pub stopped_at-requires : goal.stopped_at-requires
stopped_at-requires c = continuing_run c.loop-done.invariant (omega (arith, c.loop-done.invariant.kept)) _ (refused c)

pub returns-in_default : goal.returns-in_default
returns-in_default c =
    let inv = c.loop-done.invariant in
    let stop = continuing_stop inv (omega (arith, inv.kept)) _ (refused (goal.at.returns-in_default c).After-unwrap_err) in
    record { answer = c.stopped_at.ensures ∙ stop.0; result = stop.1 }

pub loop-done-preserved : goal.loop-done-preserved
loop-done-preserved c =
    let inv = c.loop-done.invariant in
    continuing_more inv (omega (arith, inv.kept)) c.in-Ok.residue c.in-Ok.next (sym c.draw_one-drawn.ensures ∙ ap sample c.in-Ok.is)

pub returns : goal.returns
returns c =
    let all : c.loop-done.done ≡ length c.loop-done.out = omega arith in
    let whole = continuing_all c.loop-done.invariant (omega arith) in
    record { answer = rw all at whole.0; result = whole.1 }
