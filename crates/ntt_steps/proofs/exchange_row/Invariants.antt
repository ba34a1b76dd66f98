-- `ntt_steps::exchange_row` meets its contract: after b turns the first b numbers of the row are written.
-- Assumes nothing.
use Prim.Native.Nat.{◌+◌, ◌*◌}
use mathlib.Core.Path.{◌≡◌}
use Rattle.maths.specs.Vector.{at}
use Rattle.calls.proofs.Written.{Written}
use Rattle.ntt_steps.proofs.exchange_row.Given as goal

abbrev pub invariant-loop-b : goal.invariant-loop-b
invariant-loop-b l = Written (λ i z. z ≡ at l.from (16 * i + l.a)) (16 * l.a) 16 l.initial.to l.b l.to
