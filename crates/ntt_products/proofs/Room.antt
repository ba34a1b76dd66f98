-- The tables of every set's transforms have at most 3,605 places.
-- Assumes nothing.
use mathlib.Core.Path.{◌≡◌}
use mathlib.Core.Logic.{◌⊎◌, inl, inr}
use Prim.Native.Nat.{ℕ, ◌+◌, ◌/◌, ◌≤◌}
use native.Mathlib.Omega.{arith}
use Rattle.sets.specs.declared.Parameters.{Parameters}
use Rattle.sets.specs.Table.{table, set_of, Listed}
use Rattle.sets.specs.Rules.{ByteRules}
use Rattle.sets.specs.Derived.{transform_size_of}
use Rattle.sets.proofs.Rules.{listed_rules, listed_cases}
use Rattle.sets.proofs.Transforms.{by_size, size_most}
use Rattle.ntt_products.specs.Placed.{table_length_of}

-- with rows of 256 numbers
wide_room : (D ρ : ℕ) → ρ ≡ 256 → D ≤ 3328 → D + 264 + D / ρ ≤ 3605
wide_room D ρ e h = rw e (omega arith)

-- set 0 has rows of one number
bench_room : (i : ℕ) → table_length_of (set_of 0) i ≤ 3605
unfolding set_of table
bench_room i = by_size (set_of 0) i (λ D. D + 264 + D / 1 ≤ 3605) (omega arith) (omega arith) (omega arith)

-- the places of the tables of transform number i
pub table_most : (p : Parameters) → Listed p → (i : ℕ) → table_length_of p i ≤ 3605
table_most p known i = cases (listed_cases p known)
  where
    cases : (p ≡ set_of 0) ⊎ ByteRules p → table_length_of p i ≤ 3605
    cases (inl e) = rw e (bench_room i)
    cases (inr bytes) = wide_room (transform_size_of p i) p.row bytes.row_256 (size_most p (listed_rules p known) i)
