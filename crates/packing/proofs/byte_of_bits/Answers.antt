-- `packing::byte_of_bits` (003, algorithm 28) meets its contract: the bits are gathered from the last one down.
-- Assumes nothing.
use Prim.Native.Nat.{◌+◌, ◌-◌}
use native.Mathlib.Omega.{arith}
use Rattle.packing.proofs.Message.{gathered_none, gathered_below, gathered_more, gathered_all}
use Rattle.packing.proofs.byte_of_bits.Goals as goal

pub loop-k-init : goal.loop-k-init
loop-k-init c = gathered_none _ _

pub overflow_mul-byte : goal.overflow_mul-byte
overflow_mul-byte c = omega (arith, gathered_below c.loop-k.invariant)

pub overflow_add-byte : goal.overflow_add-byte
overflow_add-byte c = omega (arith, gathered_below c.loop-k.invariant)

pub loop-k-preserved : goal.loop-k-preserved
loop-k-preserved c =
    let a = c.args in
    let bit = c.requires.digit (a.from + (c.loop-k.k - 1)) in
    gathered_more c.loop-k.invariant c.loop-k-test.true c.number_at.ensures.0 (omega (arith, c.number_at.ensures.0, bit))

pub overflow_cast-result : goal.overflow_cast-result
overflow_cast-result c = omega (arith, gathered_below c.loop-k.invariant)

pub returns : goal.returns
returns c = gathered_all c.loop-k.invariant (omega arith)
