-- The widths of the numbers of a ciphertext, its bytes, and the room in the work slice and for the tables of the transforms.
-- Assumes nothing.
use mathlib.Core.Path.{◌≡◌, ap, ◌∙◌}
use mathlib.Core.List.{List}
use Prim.Native.Nat.{ℕ, ◌+◌, ◌-◌, ◌*◌, ◌/◌, ◌^◌, ◌≤◌}
use native.Mathlib.Omega.{arith}
use lib.Pow.{pow-add}
use Rattle.maths.specs.Vector.{AllBelow}
use Rattle.sets.specs.declared.Parameters.{Parameters}
use Rattle.sets.specs.Table.{Listed}
use Rattle.sets.specs.Derived.{cpa_ciphertext_bytes_of}
use Rattle.sets.specs.Rules.{Rules, ByteRules}
use Rattle.sets.proofs.Rules.{listed_rules}
use Rattle.sets.proofs.Transforms.{second_size, third_size}
use Rattle.ntt_products.specs.Placed.{table_length_of}
use Rattle.packing.specs.Digits.{unpack}
use Rattle.packing.specs.Dropped.{Widths, unpack_dropped_of}
use Rattle.packing.proofs.Laws.{unpack_below, unpack_dropped_below}
use Rattle.scheme.specs.Encryption.{first_bytes_of}
use Rattle.scheme.specs.Answers.{work_length_of}

module _ (p : Parameters) where
  -- the packed ĉ1 is a part of the ciphertext
  pub first_bytes_most : first_bytes_of p ≤ cpa_ciphertext_bytes_of p
  unfolding first_bytes_of cpa_ciphertext_bytes_of
  first_bytes_most = omega arith

  -- a stored secret has room
  pub secret_room : p.d3 ≤ work_length_of p
  unfolding work_length_of
  secret_room = omega arith

  module _ (rules : Rules p) (bytes : ByteRules p) where
    -- a number of ĉ1 has all its bits, one of c2 is without those dropped
    pub first_widths : Widths p.width 0
    first_widths = record { least = omega (arith, bytes.kept_byte); most = omega (arith, rules.width_most) }

    pub second_widths : Widths p.width p.cmp
    second_widths = record { least = omega (arith, bytes.kept_byte); most = omega (arith, rules.width_most) }

  -- a number of all its bits is below 2 · q
  module _ (rules : Rules p) where
    width_double : 2 ^ p.width ≤ 2 * p.q
    width_double =
        let one_more : p.width ≡ p.width - 1 + 1 = omega (arith, rules.kept) in
        let twice : 2 ^ p.width ≡ 2 ^ (p.width - 1) * 2 = ap (λ (n : ℕ). 2 ^ n) one_more ∙ pow-add 2 (p.width - 1) 1 in
        omega (arith, twice, rules.width_least)

    -- so are those of ĉ1 and of c2
    pub first_double : (count : ℕ) (bytes : List ℕ) → AllBelow (2 * p.q) count (unpack p.width count bytes)
    first_double count bytes = record { each = λ j h. omega (arith, unpack_below p.width count bytes j, width_double) }

    pub second_double : (count : ℕ) (bytes : List ℕ) → AllBelow (2 * p.q) count (unpack_dropped_of p.width p.cmp count bytes)
    second_double count bytes =
        record { each = λ j h. omega (arith, unpack_dropped_below p.width p.cmp count bytes (omega (arith, rules.kept)) j, width_double) }

-- no more rows of 256 numbers for fewer numbers
rows_rising : (C D ρ : ℕ) → ρ ≡ 256 → C ≤ D → C / ρ ≤ D / ρ
rows_rising C D ρ e h = rw e (omega arith)

module _ (p : Parameters) (bytes : ByteRules p) (known : Listed p) where
  -- the tables of the second transform have room in those of the third
  pub tables_rising : table_length_of p 2 ≤ table_length_of p 3
  tables_rising =
      let rising = (listed_rules p known).rising2 in
      rw (second_size p, third_size p) (omega (arith, rows_rising _ _ _ bytes.row_256 rising))
