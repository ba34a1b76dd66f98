-- `packing::number_with` meets its contract: the numbers of whole groups are no more than the bytes, and a group has eight.
-- Assumes nothing.
use native.Mathlib.Nat.{mod-lt}
use native.Mathlib.Omega.{arith}
use Rattle.packing.proofs.Position.{grouped_within, position_within, numbers_passed}
use Rattle.packing.proofs.number_with.Goals as goal

pub overflow_mul-result : goal.overflow_mul-result
overflow_mul-result c = omega (arith, grouped_within c.args.kept c.args.j (omega arith))

pub overflow_mul-result-2 : goal.overflow_mul-result-2
overflow_mul-result-2 c = omega (arith, mod-lt c.args.j {m = c.args.kept} (omega arith))

pub overflow_add-result : goal.overflow_add-result
overflow_add-result c = omega (arith, numbers_passed (position_within c.args.kept 8 c.args.j (omega arith)) (omega arith))
