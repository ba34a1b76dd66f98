-- `packing::bit_of` meets its contract: a remainder by at most 24 is small.
-- Assumes nothing.
use Prim.Native.Nat.{◌*◌, ◌%◌}
use native.Mathlib.Nat.{mod-lt}
use native.Mathlib.Omega.{arith}
use Rattle.packing.proofs.bit_of.Goals as goal

pub overflow_mul-result : goal.overflow_mul-result
overflow_mul-result c = omega (arith, mod-lt c.args.j {m = c.args.kept} (omega arith))

pub overflow_cast-result : goal.overflow_cast-result
overflow_cast-result c = omega (arith, mod-lt (c.args.j % c.args.kept * 8) {m = c.args.kept} (omega arith))
