-- The stored vectors lie in the work slice, which is short.
-- Assumes nothing.
use native.Mathlib.Omega.{arith}
use Rattle.cpa_keygen.proofs.Room.{vectors_room, work_most}
use Rattle.cpa_keygen.proofs.vectors.vectors_end.Goals as goal

pub overflow_mul-result : goal.overflow_mul-result
overflow_mul-result c =
    omega (arith, vectors_room c.args.p c.requires.0 c.requires.1, work_most c.args.p c.requires.0 c.requires.1)

pub overflow_add-result : goal.overflow_add-result
overflow_add-result c =
    rw c.vectors_start.ensures
    (omega (arith, vectors_room c.args.p c.requires.0 c.requires.1, work_most c.args.p c.requires.0 c.requires.1))

pub returns : goal.returns
returns c = rw c.vectors_start.ensures
