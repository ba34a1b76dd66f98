-- Tests that are computed over the whole table of sets, and the law that turns one into its facts at each set.
-- Assumes nothing.
use mathlib.Core.Path.{◌≡◌}
use mathlib.Core.Bool.{Bool, true}
use mathlib.Core.List.{List, [], ◌∷◌, map}
use Prim.Native.Nat.{ℕ, zero, suc, ◌<◌}
use native.Mathlib.Nat.{le_of_suc-le-suc, not-suc-le-zero}
use lib.ListN.{length, get_or}
use Rattle.calls.specs.Checks.{all_of}
use Rattle.calls.proofs.Checks.{Each, all_of_each}
use Rattle.sets.specs.declared.Parameters.{Parameters}
use Rattle.sets.specs.Table.{none}

-- the tests f at every set of a list
unfoldable pub passed : (Parameters → List Bool) → List Parameters → Bool
passed f ps = all_of (map (λ p. all_of (f p)) ps)

-- what passes at every set of a list passes at each
pub at_each : (f : Parameters → List Bool) (ps : List Parameters) → passed f ps ≡ true → (i : ℕ) → i < length ps → Each (f (get_or ps i none))
unfolding passed
at_each f ps e = walk ps (all_of_each (map (λ p. all_of (f p)) ps) e)
  where
    walk : (qs : List Parameters) → Each (map (λ p. all_of (f p)) qs) → (i : ℕ) → i < length qs → Each (f (get_or qs i none))
    walk [] e i h = absurd (not-suc-le-zero h)
    walk (p ∷ qs) e zero h = all_of_each (f p) e.0
    walk (p ∷ qs) e (suc i) h = walk qs e.1 i (le_of_suc-le-suc h)
