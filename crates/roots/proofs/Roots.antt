-- Every root of every set has the order of its transform size: one test, computed over the powers of all of them, and one law. That the const tables hold these
-- powers is tested where they stand, by their recurrence.
-- Assumes nothing.
use mathlib.Core.Path.{◌≡◌, refl}
use mathlib.Core.Bool.{Bool, true, false, cond}
use mathlib.Core.List.{List, [], ◌∷◌}
use Prim.Native.Nat.{ℕ}
use lib.Dec.{eqb}
use Rattle.maths.specs.Root.{RootOfOrder, first_one_of, has_order}
use Rattle.maths.proofs.PowerTable.{root_of_order}
use Rattle.calls.specs.Checks.{all_of}
use Rattle.calls.proofs.Checks.{Each}
use Rattle.sets.specs.declared.Parameters.{Parameters}
use Rattle.sets.specs.Table.{table, set_of, IsSet, Listed}
use Rattle.sets.specs.Derived.{transform_size_of, transform_root}
use Rattle.sets.specs.Rules.{Rules}
use Rattle.sets.proofs.Tested.{passed, at_each}
use Rattle.sets.proofs.Rules.{rules}

-- the order of each of the three roots
abbrev tests : Parameters → List Bool
tests p = has_order p.q p.w1 p.d1 ∷ has_order p.q p.w2 p.d2 ∷ has_order p.q p.w3 p.d3 ∷ []

table_passed : passed tests table ≡ true
unfolding passed all_of table has_order first_one_of
table_passed = refl

module _ (set : ℕ) (low : IsSet set) where
  kept : Rules (set_of set)
  kept = rules set low

  passes : Each (tests (set_of set))
  unfolding set_of table
  passes = at_each tests table table_passed set low

  -- the root of whichever size two tests pick
  picked : (one two : Bool) → RootOfOrder (set_of set).q (cond one (set_of set).d1 (cond two (set_of set).d2 (set_of set).d3))
      (cond one (set_of set).w1 (cond two (set_of set).w2 (set_of set).w3))
  picked true two = root_of_order _ _ _ kept.prime kept.divides1 passes.0
  picked false true = root_of_order _ _ _ kept.prime kept.divides2 passes.1.0
  picked false false = root_of_order _ _ _ kept.prime kept.divides3 passes.1.1.0

  -- each root of a set from 0 to 12 has the order of its transform size
  root : (i : ℕ) → RootOfOrder (set_of set).q (transform_size_of (set_of set) i) (transform_root (set_of set) i)
  unfolding transform_size_of transform_root
  root i = picked (eqb i 1) (eqb i 2)

-- the same of the record of a set
pub listed_root : (p : Parameters) → Listed p → (i : ℕ) → RootOfOrder p.q (transform_size_of p i) (transform_root p i)
listed_root p known i = rw known.listed (root known.set known.is_set i)
