-- Every set has an input at which the smallest reduction step gives q or more: one test, computed over the table of sets, and one law.
-- Assumes nothing.
use mathlib.Core.Path.{◌≡◌, refl}
use mathlib.Core.Bool.{Bool, true, false, false≢true}
use mathlib.Core.List.{List, [], ◌∷◌}
use Prim.Native.Nat.{ℕ, zero, suc, ◌*◌, ◌<◌}
use native.Mathlib.Nat.{le_of_suc-le-suc, not-suc-le-zero}
use borrow.Author.Tests.{leb-true}
use lib.Dec.{leb, ltb}
use lib.ListN.{length, get_or}
use Rattle.calls.specs.Checks.{all_of}
use Rattle.calls.proofs.Checks.{Each, all_of_each}
use Rattle.sets.specs.declared.Parameters.{Parameters}
use Rattle.sets.specs.Table.{none, table, set_of, IsSet}
use Rattle.montgomery.specs.Scaled.{newton_step_of, negated_inverse_of, lazy}
use Rattle.lazy_inputs.specs.Inputs.{Input, ReachesModulus, inputs, input_of}

-- the tests of one input
abbrev tests : ℕ → Input → List Bool
tests q x = ltb x.number (2 * q) ∷ ltb x.multiplier q ∷ leb q (lazy q (x.number * x.multiplier)) ∷ []

-- the tests of all, set by set
unfoldable tested : List Parameters → List Input → List Bool
tested [] xs = []
tested (p ∷ ps) [] = false ∷ []
tested (p ∷ ps) (x ∷ xs) = all_of (tests p.q x) ∷ tested ps xs

table_passed : all_of (tested table inputs) ≡ true
unfolding all_of tested table inputs lazy negated_inverse_of newton_step_of
table_passed = refl

-- an input whose tests pass
reached : (q : ℕ) (x : Input) → Each (tests q x) → ReachesModulus q x
reached q x e = search leb-true

-- what passes for all passes for each
at_each : (ps : List Parameters) (xs : List Input) (y : Input) → Each (tested ps xs) → (i : ℕ) → i < length ps
    → ReachesModulus (get_or ps i none).q (get_or xs i y)
unfolding tested
at_each [] xs y e i h = absurd (not-suc-le-zero h)
at_each (p ∷ ps) [] y e i h = absurd (false≢true e.0)
at_each (p ∷ ps) (x ∷ xs) y e zero h = reached p.q x (all_of_each (tests p.q x) e.0)
at_each (p ∷ ps) (x ∷ xs) y e (suc i) h = at_each ps xs y e.1 i (le_of_suc-le-suc h)

-- for every set from 0 to 12 the step gives q or more at its input
pub reaches_modulus : (set : ℕ) → IsSet set → ReachesModulus (set_of set).q (input_of set)
unfolding set_of table input_of
reaches_modulus set h = at_each table inputs _ (all_of_each (tested table inputs) table_passed) set h
