-- After i turns the first i numbers are taken modulo q, and the others are as they were.
-- Assumes nothing.
use mathlib.Core.Path.{refl, sym, ap, ◌∙◌}
use Prim.Native.Nat.{ℕ, ◌%◌, ◌<◌}
use native.Mathlib.Nat.{zero-add}
use native.Mathlib.Omega.{arith}
use lib.ListN.{length}
use Rattle.calls.proofs.Filled.{filled_none, filled_more, filled_whole, ahead}
use Rattle.cpa_decrypt.proofs.Modulo.{reduced_length, reduced_at}
use Rattle.cpa_decrypt.proofs.reduce_all.Goals as goal

pub loop-x-init : goal.loop-x-init
loop-x-init c = filled_none (reduced_length _ _) (omega arith)

pub reduce_once-requires : goal.reduce_once-requires
reduce_once-requires c =
    let turn = c.loop-x in
    let below : turn.x-index < length c.args.xs.now = omega (arith, turn.invariant.kept_length) in
    (rw (ahead turn.invariant) (c.requires.0.each turn.x-index below), c.requires.1)

pub loop-x-preserved : goal.loop-x-preserved
loop-x-preserved c =
    let turn = c.loop-x in
    let below : turn.x-index < length c.args.xs.now = omega (arith, turn.invariant.kept_length) in
    filled_more 0 turn.invariant below (sym (zero-add turn.x-index))
    (c.reduce_once.ensures
    ∙ ap (λ (x : ℕ). x % c.args.q) (ahead turn.invariant)
    ∙ sym (reduced_at c.args.q c.args.xs.now turn.x-index below))

pub returns : goal.returns
returns c = filled_whole c.loop-x.invariant refl (omega arith)
