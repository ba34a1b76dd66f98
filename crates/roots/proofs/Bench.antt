-- Set 0 has one transform size and one root, whichever of the three is asked for.
-- Assumes nothing.
use mathlib.Core.Path.{◌≡◌, refl}
use mathlib.Core.Bool.{Bool, true, false, cond}
use Prim.Native.Nat.{ℕ}
use lib.Dec.{eqb}
use Rattle.maths.specs.Root.{power_table}
use Rattle.sets.specs.Table.{none, table, set_of}
use Rattle.sets.specs.Derived.{transform_size_of, transform_root, root_powers}

same : (a b : Bool) → ◌≡◌ {A = ℕ} (cond a 4 (cond b 4 4)) 4
same true b = refl
same false true = refl
same false false = refl

pub bench_powers : (i : ℕ) → root_powers (set_of 0) i ≡ power_table 17 4 4
unfolding none table set_of transform_size_of transform_root root_powers
bench_powers i = rw (same (eqb i 1) (eqb i 2))
