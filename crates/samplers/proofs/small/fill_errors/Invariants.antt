-- `samplers::small::fill_errors` meets its contract: each turn writes the residue of the next error of a row.
-- Assumes nothing.
use Prim.Native.Nat.{◌+◌, ◌*◌}
use Rattle.samplers.proofs.Rows.{Rows}
use Rattle.samplers.proofs.small.fill_errors.Given as goal

abbrev pub invariant-loop-i : goal.invariant-loop-i
invariant-loop-i l = Rows l.p l.bytes l.r l.i l.out

abbrev pub invariant-loop-r : goal.invariant-loop-r
invariant-loop-r l = Rows l.p l.bytes l.r (l.r * (l.p.d + l.p.k)) l.out
