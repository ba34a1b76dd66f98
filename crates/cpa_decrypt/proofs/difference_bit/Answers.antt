-- The number of c2 is taken modulo q, and the difference compared with the thresholds.
-- Assumes nothing.
use mathlib.Core.Path.{sym, ◌∙◌}
use Prim.Native.Nat.{◌<◌}
use native.Mathlib.Nat.{mod-lt}
use native.Mathlib.Omega.{arith}
use Rattle.cpa_decrypt.proofs.Bits.{difference_bit_threshold}
use Rattle.cpa_decrypt.proofs.difference_bit.Goals as goal

pub reduce_once-reduced-requires : goal.reduce_once-reduced-requires
reduce_once-reduced-requires c = (c.requires.2, c.requires.0.small)

pub subtract-requires : goal.subtract-requires
subtract-requires c =
    let pre = c.requires in (rw c.reduce_once-reduced.ensures (mod-lt _ (omega (arith, pre.3))), pre.3, pre.0.small)

pub threshold_bit-requires : goal.threshold_bit-requires
threshold_bit-requires c =
    let below : c.subtract.result < c.args.p.q = rw c.subtract.ensures (mod-lt _ (omega (arith, c.requires.3))) in
    (omega (arith, c.half_modulus-h.ensures, c.requires.0.odd, c.requires.0.small), omega (arith, below, c.requires.0.small))

pub returns : goal.returns
returns c =
    c.threshold_bit.ensures
    ∙ rw (c.half_modulus-h.ensures, c.subtract.ensures, c.reduce_once-reduced.ensures)
    (sym (difference_bit_threshold c.args.p c.requires.0 c.requires.1 c.args.x c.args.y))
