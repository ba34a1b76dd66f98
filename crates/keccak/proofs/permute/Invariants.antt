-- `keccak::permute` is Keccak-f. The loop's invariant: after i turns the state is what i rounds make of the first one.
-- Assumes nothing.
use mathlib.Core.Path.{◌≡◌}
use Prim.Native.Nat.{◌≤◌, ◌-◌}
use Rattle.keccak.specs.Keccak.{rounds}
use Rattle.keccak.proofs.permute.Given as goal

abbrev pub invariant-loop-i : goal.invariant-loop-i
invariant-loop-i l = (l.i ≤ 24) × (l.a ≡ rounds l.i l.initial.a)

abbrev pub decreases-loop-i : goal.decreases-loop-i
decreases-loop-i l = 24 - l.i
