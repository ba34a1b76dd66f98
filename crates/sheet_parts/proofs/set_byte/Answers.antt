-- The set byte is the first.
-- Assumes nothing.
use mathlib.Core.Path.{refl}
use native.Mathlib.Omega.{arith}
use Rattle.sheet_parts.specs.Checks.{set_byte_of}
use Rattle.sheet_parts.proofs.set_byte.Goals as goal

pub overflow_cast-result : goal.overflow_cast-result
overflow_cast-result c = omega (arith, c.shared_slice_known-1.given 0)

pub returns : goal.returns
unfolding set_byte_of
returns c = refl
