-- `bit_fields::byte_at` (003, algorithm 20) meets its contract.
-- Assumes nothing.
use mathlib.Core.Path.{refl, sym}
use native.Mathlib.Omega.{arith}
use Rattle.maths.proofs.Vector.{at_past}
use Rattle.bit_fields.proofs.byte_at.Goals as goal

pub overflow_cast-result : goal.overflow_cast-result
overflow_cast-result c = omega (arith, c.shared_slice_known-1.given c.args.i)

pub returns-then-i-bytes : goal.returns-then-i-bytes
returns-then-i-bytes c = (refl, omega (arith, c.shared_slice_known-1.given c.args.i))

pub returns-else-i-bytes : goal.returns-else-i-bytes
returns-else-i-bytes c = (sym (at_past c.args.bytes.now c.args.i c.if-i-bytes.false), omega arith)
