-- Which parameters meet the conditions, and what follows from them at once.
-- Assumes nothing.
use mathlib.Core.Path.{◌≡◌, refl, ◌∙◌}
use Prim.Native.Nat.{ℕ, ◌*◌, ◌≤◌, ◌<◌}
use native.Mathlib.Decide.{ℕ_discrete}
use native.Mathlib.Omega.{arith}
use Rattle.maths.specs.Root.{Root}
use Rattle.sets.specs.declared.Parameters.{Parameters}
use Rattle.sets.specs.Table.{set_of, IsSet, Listed}
use Rattle.sets.specs.Rules.{ByteRules}
use Rattle.sets.specs.Derived.{transform_size_of, transform_root}
use Rattle.sets.proofs.Rules.{byte_rules, listed_set, listed_rules}
use Rattle.sets.proofs.Transforms.{size_first, size_second, size_third}
use Rattle.roots.proofs.Laws as roots
use Rattle.ntt_products.specs.Stored.{row_count, root_inverse_of, size_inverse_of}
use Rattle.scheme.specs.Conditions.{Conditions}

-- a record of the table with the rules of bytes meets the conditions
pub listed_conditions : (p : Parameters) → ByteRules p → Listed p → Conditions p
listed_conditions p bytes known = record { rules = listed_rules p known; bytes = bytes; roots = roots.listed_root p known }

-- so sets 1 to 12 do
pub set_conditions : (set : ℕ) → 1 ≤ set → IsSet set → Conditions (set_of set)
set_conditions set some low = listed_conditions (set_of set) (byte_rules set some low) (listed_set set low)

module _ {p : Parameters} (c : Conditions p) where
  -- q is not 0
  pub positive : 0 < p.q
  positive = omega (arith, c.rules.odd)

  -- each transform size is a number of rows
  rows : (i : ℕ) → row_count p i * p.row ≡ transform_size_of p i
  rows i =
      elim (ℕ_discrete i 1) [
        | yes first ↦ rw (size_first p i first) c.rules.rows1
        | no other ↦
            elim (ℕ_discrete i 2) [
              | yes second ↦ rw (size_second p i second) c.rules.rows2
              | no third ↦ rw (size_third p i other third) c.rules.rows3
            ]
      ]

  -- the roots of a set, for transforms by rows
  pub root : (i : ℕ) → Root p.q (row_count p i * p.row) (transform_root p i) (root_inverse_of p i) (size_inverse_of p i)
  unfolding root_inverse_of size_inverse_of
  root i = rw (rows i) (c.roots i)

  -- the transform sizes d1 and d2
  pub size1 : row_count p 1 * p.row ≡ p.d1
  size1 = rows 1 ∙ size_first p 1 refl

  pub size2 : row_count p 2 * p.row ≡ p.d2
  size2 = rows 2 ∙ size_second p 2 refl
