-- `numbers::signed::residues_of` meets its contract: each turn writes one residue.
-- Assumes nothing.
use Prim.Native.Nat.{◌-◌}
use lib.ListN.{length}
use Rattle.calls.proofs.Filled.{Filled}
use Rattle.numbers.specs.Scheme.{residues}
use Rattle.numbers.proofs.signed.residues_of.Given as goal

abbrev pub invariant-loop-i : goal.invariant-loop-i
invariant-loop-i l = Filled l.initial.out 0 (length l.initial.out) (residues l.q l.zs) l.i l.out
