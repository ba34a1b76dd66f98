-- `samplers::small::fill_multipliers` meets its contract: each turn writes the residue of the next multiplier.
-- Assumes nothing.
use mathlib.Core.Path.{refl, sym, ◌∙◌}
use Prim.Native.Nat.{◌-◌}
use native.Mathlib.Omega.{arith}
use Rattle.calls.proofs.Filled.{filled_whole}
use Rattle.samplers.specs.Seeded.{multipliers_of}
use Rattle.samplers.proofs.Values.{multipliers_length, multipliers_at, reduced_none, reduced_more}
use Rattle.samplers.proofs.small.fill_multipliers.Goals as goal

pub loop-i-init : goal.loop-i-init
loop-i-init c =
    let args = c.args in
    reduced_none args.p.q (multipliers_of args.p args.bytes.now) _ (multipliers_length args.p args.bytes.now ∙ sym c.requires.3)

pub loop-i-preserved : goal.loop-i-preserved
loop-i-preserved c =
    let args = c.args in
    reduced_more args.p.q (multipliers_of args.p args.bytes.now) _ c.loop-i.invariant (omega arith)
    (multipliers_at args.p c.loop-i.i (omega arith) args.bytes.now) c.multiplier_residue.ensures

pub returns : goal.returns
returns c = filled_whole c.loop-i.invariant refl (omega arith)
