-- `ntt_by_row::scaled_twice` meets its contract: the product with the scaled form of 2^32.
-- Assumes nothing.
use mathlib.Core.Path.{ap, ◌∙◌}
use Prim.Native.Nat.{ℕ, ◌*◌, ◌%◌}
use native.Mathlib.Nat.{mod-lt}
use native.Mathlib.Omega.{arith}
use Rattle.ntt_by_row.proofs.scaled_twice.Goals as goal

pub multiply-requires : goal.multiply-requires
multiply-requires c =
    let pre = c.requires in
    (pre.1, rw c.scaled_scale.ensures (mod-lt _ (omega (arith, pre.0.some))), pre.0.small)

pub returns : goal.returns
returns c =
    let args = c.args in
    c.multiply.ensures ∙ ap (λ (y : ℕ). args.e * y % args.q) c.scaled_scale.ensures
