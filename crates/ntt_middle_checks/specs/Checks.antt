-- The checks of the set and of the lengths of the transformed middle product (01, How each call answers).
-- Assumes nothing.
use Rattle.std.specs.Prelude.{Bool, not, List, ◌∷◌, ℕ, ltb, eqb}
use Rattle.calls.specs.Outcome.{Outcome, refuse}
use Rattle.calls.specs.Checks.{all_of}
use Rattle.sets.specs.declared.Parameters.{Parameters}
use Rattle.sets.specs.Table.{set_of, no_set}
use Rattle.middle.specs.Calls.{middle_shape}

-- the length of the work slice: the size of a set's largest transform
abbrev pub middle_work_length : Parameters → ℕ
middle_work_length p = p.d3

-- the lengths of a middle product of a and b with d results, and of its work slice
abbrev pub transformed_shape : ℕ → ℕ → ℕ → ℕ → ℕ → List Bool
transformed_shape size a b d work = eqb work size ∷ middle_shape a b d

-- the checks of the set and of the lengths, and then what comes after
unfoldable pub lengths_checked_of : ℕ → ℕ → ℕ → ℕ → ℕ → Outcome → Outcome
lengths_checked_of set a b d work after =
    refuse (no_set set) 1 0
    (refuse (not (all_of (transformed_shape (middle_work_length (set_of set)) a b d work))) 6 0
    (refuse (ltb (set_of set).d3 b) 7 0 after))
