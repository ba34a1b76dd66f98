-- `numbers_sealing::fill_first` meets its contract: each turn writes one number of c1.
-- Assumes nothing.
use mathlib.Core.List.{List}
use Prim.Native.Nat.{ℕ, ◌+◌, ◌-◌, ◌%◌}
use lib.ListN.{length}
use Rattle.maths.specs.Vector.{tabulate}
use Rattle.calls.proofs.Filled.{Filled}
use Rattle.sets.specs.declared.Parameters.{Parameters}
use Rattle.numbers.specs.Scheme.{sum_of_products}
use Rattle.numbers_sealing.proofs.fill_first.Given as goal

-- the number at a place
abbrev pub place : Parameters → List ℕ → List ℕ → ℕ → ℕ
place p rs a j = sum_of_products p.t (p.k + 1) rs p.n a j % p.q

abbrev pub invariant-loop-j : goal.invariant-loop-j
invariant-loop-j l = Filled l.initial.c1 0 (l.p.n + l.p.k) (tabulate (l.p.n + l.p.k) (place l.p l.rs l.a)) l.j l.c1
