-- Stored vector i lies in the work slice, which is short.
-- Assumes nothing.
use native.Mathlib.Omega.{arith}
use Rattle.cpa_keygen.proofs.Room.{vector_short}
use Rattle.cpa_keygen.proofs.vectors.vector_start.Goals as goal

pub overflow_mul-result : goal.overflow_mul-result
overflow_mul-result c =
    omega (arith, vector_short c.args.p c.requires.0 c.requires.1 c.args.i c.requires.2)

pub overflow_add-result : goal.overflow_add-result
overflow_add-result c =
    rw c.vectors_start.ensures (omega (arith, vector_short c.args.p c.requires.0 c.requires.1 c.args.i c.requires.2))

pub returns : goal.returns
returns c = rw c.vectors_start.ensures
