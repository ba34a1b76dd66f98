-- `samplers::block::residues_with_buffers` meets its contract: each turn reads an output of the source and draws over it.
-- Assumes nothing.
use mathlib.Core.Path.{refl, sym, ap, ◌∙◌}
use Prim.Native.Nat.{◌-◌}
use native.Mathlib.Omega.{arith}
use Rattle.std.proofs.lemmas.Result.{err_from_is_err_and}
use Rattle.samplers.proofs.Drawing.{drawing_none, drawing_fits, drawing_rises, drawing_more, drawing_all, drawing_refused}
use borrow.Author.Rules.{rules}
use Rattle.samplers.proofs.block.residues_with_buffers.Goals as goal

pub loop-reached-init : goal.loop-reached-init
loop-reached-init c = (refl, drawing_none _ _ _ _ _ (omega arith))

pub source_bytes-counter-requires : goal.source_bytes-counter-requires
source_bytes-counter-requires c =
    let pre = c.requires in
    (pre.rules.1, rw c.loop-reached.invariant.0 (drawing_fits c.loop-reached.invariant.1 pre.rules.3 pre.out_nonzero.1))

pub continue_draw-requires : goal.continue_draw-requires
continue_draw-requires c =
    let inv = c.loop-reached.invariant.1 in
    let pre = c.requires in
    (omega (arith, pre.rules.0.prime.above), search rules, omega (arith, inv.kept, inv.unfinished), inv.less)

pub returns-in_err-reached : goal.returns-in_err-reached
returns-in_err-reached c =
    let same = err_from_is_err_and c.from_residual.result c.from_residual.ensures.1 in
    let whole = drawing_refused c.loop-reached.invariant.1 _ _ (rw c.loop-reached.invariant.0 at c.source_bytes-counter.ensures.bytes)
    (rw c.loop-reached.invariant.0 at c.source_bytes-counter.ensures.state) _ _ c.in_err-reached.ensures.answer in
    record { answer = rw (same.1, same.2) whole.0; result = whole.1 }

pub returns-then-reached-out : goal.returns-then-reached-out
returns-then-reached-out c =
    let whole = drawing_all c.loop-reached.invariant.1 _ _ (rw c.loop-reached.invariant.0 at c.source_bytes-counter.ensures.bytes)
    (rw c.loop-reached.invariant.0 at c.source_bytes-counter.ensures.state) _ _ _ (search rules) c.if-reached-out.true
    c.in_ok-reached.ensures.answer c.in_ok-reached.ensures.result in
    record { answer = whole.0; result = whole.1 }

pub loop-reached-smaller : goal.loop-reached-smaller
loop-reached-smaller c =
    let rises =
    drawing_rises c.loop-reached.invariant.1 _ _ (rw c.loop-reached.invariant.0 at c.source_bytes-counter.ensures.bytes)
    (rw c.loop-reached.invariant.0 at c.source_bytes-counter.ensures.state) _ _ _ c.requires.rules.2 (search rules) c.if-reached-out.false
    c.in_ok-reached.ensures.answer c.in_ok-reached.ensures.result in
    omega (arith, rises, c.loop-reached.invariant.1.unfinished)

pub loop-reached-preserved : goal.loop-reached-preserved
loop-reached-preserved c = (
  search rules,
  drawing_more c.loop-reached.invariant.1 _ _ (rw c.loop-reached.invariant.0 at c.source_bytes-counter.ensures.bytes)
      (rw c.loop-reached.invariant.0 at c.source_bytes-counter.ensures.state) _ _ _ c.requires.rules.2 (search rules) c.if-reached-out.false
      c.in_ok-reached.ensures.answer c.in_ok-reached.ensures.result,
)
