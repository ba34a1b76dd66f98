-- After i turns the first i vectors are stored; the first draw that is refused ends the loop.
-- Assumes nothing.
use mathlib.Core.Path.{◌≡◌}
use lib.ListN.{length}
use Rattle.cpa_keygen.proofs.KeyVectors.{Vectors}
use Rattle.cpa_keygen.proofs.vectors.all_vectors.Given as goal

abbrev pub invariant-loop-i : goal.invariant-loop-i
invariant-loop-i l =
    (length l.x ≡ length l.initial.x) × (length l.work ≡ length l.initial.work) × Vectors l.p l.seed l.initial.work l.i l.counter l.work
