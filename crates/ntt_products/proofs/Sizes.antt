-- What the transforms ask holds for every set from 0 to 12 and each of its three sizes, with the root and with its inverse.
-- Assumes nothing.
use mathlib.Core.Path.{◌≡◌, refl}
use mathlib.Core.Logic.{◌⊎◌, inl, inr}
use mathlib.Core.List.{List, ◌++◌}
use Prim.Native.Nat.{ℕ, zero, suc, ◌-◌, ◌*◌, ◌/◌, ◌≤◌, ◌<◌}
use native.Mathlib.Nat.{mod-lt, zero-add}
use native.Mathlib.Omega.{arith}
use lib.ListN.{length, drop, length-append, length-drop}
use lib.Seq.{take_at}
use Rattle.maths.specs.Vector.{AllBelow}
use Rattle.maths.specs.Root.{Root, inverse_size, power_table}
use Rattle.maths.proofs.Root.{root_inverse}
use Rattle.maths.proofs.Radix.{half_power}
use Rattle.maths.proofs.PowerTable.{power_table_length, power_table_at}
use Rattle.calls.specs.Region as regions
use Rattle.calls.specs.Region.{region}
use Rattle.calls.proofs.Region.{region_entry}
use Rattle.montgomery.specs.Scaled.{Odd}
use Rattle.ntt_tables.specs.Inverted.{InvertedTable}
use Rattle.ntt_by_row.specs.Lent.{Sizes, OrderedPowers}
use Rattle.sets.specs.declared.Parameters.{Parameters}
use Rattle.sets.specs.Table.{table, set_of, Listed}
use Rattle.sets.specs.Derived.{transform_size_of, transform_root, root_powers}
use Rattle.sets.specs.Rules.{Rules, ByteRules}
use Rattle.sets.proofs.Rules.{listed_rules, listed_cases}
use Rattle.sets.proofs.Transforms.{by_size, size_most}
use Rattle.roots.proofs.Laws.{listed_root}
use Rattle.ntt_products.specs.declared.WhichRoot.{WhichRoot}
use Rattle.ntt_products.specs.declared.WhichRoot.TheVariants.{Own, Inverse}
use Rattle.ntt_products.specs.Placed.{SetLent, SetTables, TablesOf, root_of}
use Rattle.ntt_products.specs.Stored.{row_count, root_inverse_of, size_inverse_of, inverse_powers}

-- the front of a list whose front was lent and came back as ys
pub front_region : (ys rest : List ℕ) (n : ℕ) → length ys ≡ n → region (ys ++ rest) 0 n ≡ ys
unfolding regions.region
front_region ys rest n e = take_at ys rest n e

-- its length
pub front_length : {l : ℕ} (ys out : List ℕ) (n : ℕ) → length ys ≡ n → length out ≡ l → n ≤ l → length (ys ++ drop (n - 0) out) ≡ l
front_length ys out n e size fits = simp (length-append, length-drop) (omega arith)

-- a factor of a number that is not zero
some_factor : (m n a : ℕ) → m * n ≡ a → 0 < a → 0 < m
some_factor zero n a e h = absurd (omega arith)
some_factor (suc m) n a e h = omega arith

-- few rows of 256 numbers
few_rows : (D ρ : ℕ) → ρ ≡ 256 → D ≤ 3328 → D / ρ ≤ 16
few_rows D ρ e h = rw e (omega arith)

-- set 0 has rows of one number
bench_row : (set_of 0).row ≡ 1
unfolding set_of table
bench_row = refl

-- and few of them
bench_rows_lem : (i : ℕ) → row_count (set_of 0) i ≤ 16
unfolding set_of table
bench_rows_lem i = by_size (set_of 0) i (λ D. D / 1 ≤ 16) (omega arith) (omega arith) (omega arith)

module _ (p : Parameters) (kept : Rules p) (i : ℕ) where
  -- the rows together have the size
  pub rows_size : row_count p i * p.row ≡ transform_size_of p i
  rows_size = by_size p i (λ D. D / p.row * p.row ≡ D) kept.rows1 kept.rows2 kept.rows3

  -- a size is at least 2, and at most 3328
  pub least_size : 2 ≤ transform_size_of p i
  least_size =
      let least : 2 ≤ p.d1 = omega (arith, kept.some_d, kept.some_k, kept.holds1) in
      by_size p i (λ D. 2 ≤ D) least (omega (arith, kept.rising1)) (omega (arith, kept.rising1, kept.rising2))

  pub most_size : transform_size_of p i ≤ 3328
  most_size =
      by_size p i (λ D. D ≤ 3328) (omega (arith, kept.rising1, kept.rising2, kept.most_d3)) (omega (arith, kept.rising2, kept.most_d3)) kept.most_d3

  -- the size divides q − 1
  size_divides : (p.q - 1) / transform_size_of p i * transform_size_of p i ≡ p.q - 1
  size_divides = by_size p i (λ D. (p.q - 1) / D * D ≡ p.q - 1) kept.divides1 kept.divides2 kept.divides3

  -- so its inverse is below q
  pub inverse_below : size_inverse_of p i < p.q
  unfolding size_inverse_of inverse_size
  inverse_below =
      let some : 0 < p.q - 1 = omega (arith, kept.prime.above) in
      omega (arith, some_factor ((p.q - 1) / transform_size_of p i) (transform_size_of p i) (p.q - 1) size_divides some)

-- the modulus is odd
pub rules_odd : (p : Parameters) → Rules p → Odd p.q
rules_odd p kept = record { odd = omega (arith, kept.odd); some = kept.prime.above; small = kept.small }

module _ (p : Parameters) (known : Listed p) (i : ℕ) where
  -- the rows together have the size
  pub size_rows : row_count p i * p.row ≡ transform_size_of p i
  size_rows = rows_size p (listed_rules p known) i

  -- the modulus
  pub some_modulus : 1 < p.q
  some_modulus = (listed_rules p known).prime.above

  -- the root has the order of all rows together
  pub rows_root : Root p.q (row_count p i * p.row) (transform_root p i) (root_inverse_of p i)
      (size_inverse_of p i)
  unfolding root_inverse_of size_inverse_of
  rows_root = rw size_rows (listed_root p known i)

  -- and so has its inverse
  pub rows_root_inverse : Root p.q (row_count p i * p.row) (root_inverse_of p i) (transform_root p i)
      (size_inverse_of p i)
  rows_root_inverse = root_inverse rows_root

-- the sets but set 0 have rows of 256 numbers
row_cases : (p : Parameters) → Listed p → (p.row ≡ 256) ⊎ (p.row ≡ 1)
row_cases p known = cases (listed_cases p known)
  where
    cases : (p ≡ set_of 0) ⊎ ByteRules p → (p.row ≡ 256) ⊎ (p.row ≡ 1)
    cases (inl e) = inr (rw e bench_row)
    cases (inr bytes) = inl bytes.row_256

-- there are few rows
few : (p : Parameters) → Listed p → (i : ℕ) → row_count p i ≤ 16
few p known i = cases (listed_cases p known)
  where
    cases : (p ≡ set_of 0) ⊎ ByteRules p → row_count p i ≤ 16
    cases (inl e) = rw e (bench_rows_lem i)
    cases (inr bytes) = few_rows (transform_size_of p i) p.row bytes.row_256 (size_most p (listed_rules p known) i)

module _ (p : Parameters) (known : Listed p) (i : ℕ) where
  -- the sizes of the transforms
  pub sizes : Sizes p.q p.row (row_count p i)
  sizes =
      record {
        modulus = rules_odd p (listed_rules p known);
        some_rows = some_factor (row_count p i) p.row (transform_size_of p i) (size_rows p known i) (omega
            (arith, least_size p (listed_rules p known) i));
        few_rows = few p known i;
        row = row_cases p known;
      }

  -- the powers of a root of the size's order, of which the table is made
  ordered : {w v e : ℕ} {tables : List ℕ} → Root p.q (row_count p i * p.row) w v e
      → region tables 0 (transform_size_of p i) ≡ power_table p.q w (transform_size_of p i)
      → OrderedPowers p.q p.row (row_count p i) w tables
  ordered r table = record { table = rw (size_rows p known i) table; whole = r.power; half = half_power r }

  -- a table of powers has residues alone
  pub table_below : (w : ℕ) {tables : List ℕ} → region tables 0 (transform_size_of p i) ≡ power_table p.q w (transform_size_of p i)
      → AllBelow p.q (row_count p i * p.row) tables
  table_below w {tables} table =
      rw (size_rows p known i)
      (record {
        each = λ j h.
            rw (
              ← zero-add j,
              ← region_entry tables 0 (transform_size_of p i) j 0 h,
              table,
              power_table_at p.q w (transform_size_of p i) j h,
            )
            (mod-lt _ (omega (arith, some_modulus p known i)));
      })

  -- the tables of the root and of its inverse
  pub powers_ordered : (which : WhichRoot) → {tables : List ℕ}
      → region tables 0 (transform_size_of p i) ≡ power_table p.q (root_of which p i) (transform_size_of p i)
      → OrderedPowers p.q p.row (row_count p i) (root_of which p i) tables
  powers_ordered Own table = ordered (rows_root p known i) table
  powers_ordered Inverse table = ordered (rows_root_inverse p known i) table

-- tables that may be lent, and are of a root
pub tables_of : (which : WhichRoot) (p : Parameters) (i : ℕ) {tables : List ℕ} → SetLent p i tables → SetTables p i (root_of which p i) tables
    → TablesOf which p i tables
tables_of Own p i l t = record { lent = l; root = t }
tables_of Inverse p i l t = record { lent = l; root = t }

-- the table of the root, inverted, is that of its inverse
pub inverted_powers : (p : Parameters) (known : Listed p) (i : ℕ) {old new : List ℕ} → old ≡ root_powers p i → InvertedTable old new
    → new ≡ inverse_powers p i
unfolding root_powers inverse_powers root_inverse_of
inverted_powers p known i {old} e inverted =
    let size : length old ≡ transform_size_of p i = rw e (power_table_length p.q (transform_root p i) (transform_size_of p i)) in
    rw size at (inverted.table p.q (transform_root p i) (root_inverse_of p i)
    (inverse_size p.q (transform_size_of p i)) (rw size (listed_root p known i)) (rw size e))
