-- What the transforms by written-out sums ask holds of the rows of a set's transform, with a root of its size.
-- Assumes nothing.
use mathlib.Core.Path.{◌≡◌, sym, ap, ◌∙◌}
use mathlib.Core.List.{List}
use Prim.Native.Nat.{ℕ, zero, suc, ◌+◌, ◌*◌, ◌≤◌, ◌<◌}
use native.Mathlib.Nat.{zero-add, mod-lt, mul-zero, mul-le-mul_right}
use native.Mathlib.Omega.{arith}
use lib.ListN.{length, take}
use lib.Seq.{length-take-le, get_or-take}
use Rattle.maths.specs.Vector.{AllBelow}
use Rattle.maths.specs.Root.{power_table}
use Rattle.maths.proofs.PowerTable.{power_table_length, power_table_at}
use Rattle.sets.specs.declared.Parameters.{Parameters}
use Rattle.sets.specs.Table.{Listed}
use Rattle.sets.proofs.Rules.{listed_rules}
use Rattle.sets.proofs.Transforms.{size_most}
use Rattle.ntt_plain.specs.Plain.{Plain}
use Rattle.ntt_products.proofs.Laws.{rules_odd, least_size}
use Rattle.calls.specs.Region.{over}
use Rattle.calls.proofs.Region.{over_front, over_length}
use Rattle.sets.specs.Derived.{transform_size_of}
use Rattle.maths.proofs.Transform.{recover_length}
use Rattle.ntt_products.specs.Stored.{recovered}
use Rattle.ntt_products.specs.Placed.{Placed}
use Rattle.ntt_partial_steps.specs.Split.{Split, Wide}

-- the second factor of a number that is not 0
some_second : (a b n : ℕ) → a * b ≡ n → 0 < n → 0 < b
some_second a zero n e h = let none : a * 0 ≡ 0 = mul-zero a in absurd (omega arith)
some_second a (suc b) n e h = omega arith

module _ {p : Parameters} {i D1 D2 m : ℕ} {input : List ℕ} (known : Listed p) (split : Split p i D1 D2 m input) where
  -- the size
  pub size_few : D1 * D2 ≤ 3328
  size_few = rw split.size (size_most p (listed_rules p known) i)

  pub some_columns : 0 < D2
  some_columns = some_second D1 D2 _ split.size (omega (arith, least_size p (listed_rules p known) i))

  -- a row is at most all rows
  columns_fit : D2 ≤ D1 * D2
  columns_fit = omega (arith, mul-le-mul_right D2 (le_one))
    where
      le_one : 1 ≤ D1
      le_one = omega (arith, split.some, split.within)

  -- the first m rows
  pub rows_fit : m * D2 ≤ length input
  rows_fit = rw split.places (mul-le-mul_right D2 split.within)

  pub front_length : length (take (m * D2) input) ≡ m * D2
  front_length = length-take-le (m * D2) input rows_fit

  -- residues in rows, with the powers of a root
  plain_of : (powers x : List ℕ) (w : ℕ) → powers ≡ power_table p.q w (D1 * D2) → length x ≤ D1 * D2 → AllBelow p.q (length x) x
      → Plain p.q D2 powers x
  plain_of powers x w table fits below =
      let long : length powers ≡ D1 * D2 = ap length table ∙ power_table_length p.q w (D1 * D2) in
      record {
        modulus = rules_odd p (listed_rules p known);
        some_columns = some_columns;
        columns_fit = rw long columns_fit;
        size = rw long fits;
        few = rw long size_few;
        numbers = record { each = λ j h. omega (arith, below.each j h) };
        factors = record {
          each = λ j h.
              rw (table, power_table_at p.q w (D1 * D2) j (rw long at h)) (mod-lt _ (omega (arith, (listed_rules p known).prime.above)));
        };
      }

  pub plain_front : {powers : List ℕ} (w : ℕ) → powers ≡ power_table p.q w (D1 * D2) → Plain p.q D2 powers (take (m * D2) input)
  plain_front w table =
      plain_of _ (take (m * D2) input) w table (rw front_length (rw split.places at rows_fit))
      (record {
        each = λ j h.
            let near : j < m * D2 = rw front_length at h in
            rw (get_or-take (m * D2) input j 0 near) (split.residues.each j (omega (arith, rows_fit)));
      })

  pub plain_whole : {powers : List ℕ} (w : ℕ) → powers ≡ power_table p.q w (D1 * D2) → Plain p.q D2 powers input
  plain_whole w table = plain_of _ input w table (omega (arith, split.places)) split.residues

-- as many numbers as are recovered
pub recovered_length : (p : Parameters) (i m : ℕ) (xs : List ℕ) → length (recovered p i m xs) ≡ m
unfolding recovered
recovered_length p i m xs = recover_length _ _ _ _ _ m xs

module _ {p : Parameters} {i m : ℕ} {input : List ℕ} (wide : Wide p i m input) where
  -- the first m rows of 256 numbers
  pub wide_length : length (take (m * 256) input) ≡ m * 256
  wide_length = length-take-le (m * 256) input wide.within

  -- what is copied to the front of a vector of all places may be sent
  pub wide_copied : (old : List ℕ) → length old ≡ length input → take (m * 256) (over old 0 (take (m * 256) input)) ≡ take (m * 256) input
  wide_copied old same =
      let end : m * 256 ≡ 0 + length (take (m * 256) input) = sym wide_length ∙ sym (zero-add _) in
      let front = over_front old 0 (take (m * 256) input) (omega (arith, wide_length, wide.within)) in
      rw (← end) at front

  pub wide_placed : (old : List ℕ) → length old ≡ length input → Placed p i (m * 256) (over old 0 (take (m * 256) input))
  wide_placed old same =
      record {
        size = over_length old 0 (take (m * 256) input) (omega (arith, wide_length, wide.within)) ∙ same ∙ wide.places;
        inside = rw (← wide.places) wide.within;
        residues = record {
          each = λ j h.
              rw (
                ← get_or-take (m * 256) (over old 0 (take (m * 256) input)) j 0 h,
                wide_copied old same,
                get_or-take (m * 256) input j 0 h,
              )
              (wide.residues.each j (omega (arith, wide.within)));
        };
      }

  -- all places may be recovered
  pub wide_whole : Placed p i (transform_size_of p i) input
  wide_whole = record { size = wide.places; inside = omega arith; residues = rw (← wide.places) wide.residues }
