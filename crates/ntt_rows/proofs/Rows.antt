-- The transform of a row from its steps: the parts of its tables, and columns, twist and rows together.
-- Assumes nothing.
use mathlib.Core.Path.{◌≡◌, ◌∙◌}
use mathlib.Core.List.{List}
use Prim.Native.Nat.{ℕ, ◌+◌, ◌-◌, ◌*◌, ◌%◌, ◌^◌, ◌≤◌, ◌<◌}
use native.Mathlib.Nat.{zero-add}
use native.Mathlib.Omega.{arith}
use lib.ListN.{length, take, drop, length-take, length-drop}
use lib.Seq.{get_or-take, get_or-drop}
use Rattle.maths.specs.Vector.{at, tabulate}
use Rattle.maths.specs.Congruence.{Mod}
use Rattle.maths.proofs.Vector.{tabulate_at}
use Rattle.maths.proofs.Congruence.{mod_refl, mod_trans, mod_mul}
use Rattle.maths.proofs.Power.{pow_mul}
use Rattle.maths.proofs.Convolution.{transform_mod}
use Rattle.maths.proofs.Radix.{whole_power}
use Rattle.maths.proofs.Fourfold.{row_values}
use Rattle.calls.proofs.Written.{Written}
use Rattle.montgomery.specs.Scaled.{unscale}
use Rattle.ntt_steps.specs.Steps.{SixteenReady, Roots, Sixteen, Exchanged}
use Rattle.ntt_tables.specs.Tables.{RowTables}
use Rattle.ntt_rows.specs.Rows.{RowReady, Row, MultiplyReady, Multiplied, ForwardRow, InverseRow}

-- part holds the numbers of whole from start on
pub record PartOf (start size : ℕ) (whole part : List ℕ) : Type 0 where
  pub length_is : length part ≡ size
  pub entry : (i : ℕ) → i < size → at part i ≡ at whole (start + i)

-- a part of a list
pub part_of : (start end : ℕ) (whole : List ℕ) → start ≤ end → end ≤ length whole → PartOf start (end - start) whole (take (end - start) (drop start whole))
part_of start end whole h k =
    record {
      length_is = simp (length-take, length-drop) (omega arith);
      entry = λ i l. get_or-take (end - start) (drop start whole) i 0 l ∙ get_or-drop start whole i 0;
    }

module _ {q : ℕ} {tables from to : List ℕ} (ready : RowReady q tables from to) where
  -- the columns may begin
  pub columns_ready : {roots columns : List ℕ} → PartOf 256 8 tables roots → length columns ≡ 256 → SixteenReady q roots from columns
  columns_ready part size =
      record {
        roots_size = part.length_is;
        roots_below = record { each = λ i h. rw (part.entry i h) (ready.tables_below.each (256 + i) (omega arith)) };
        from_size = ready.from_size;
        from_below = ready.from_below;
        to_size = size;
      }

  -- the twist may begin
  pub twist_ready : {powers exchanged twisted : List ℕ} → PartOf 0 256 tables powers → length exchanged ≡ 256 → length twisted ≡ 256
      → MultiplyReady q powers exchanged twisted
  twist_ready part from_size to_size =
      record {
        by_size = part.length_is;
        by_below = record { each = λ i h. rw (part.entry i h) (ready.tables_below.each (0 + i) (omega arith)) };
        from_size = from_size;
        to_size = to_size;
      }

  -- the rows may begin
  pub rows_ready : {roots powers exchanged twisted : List ℕ} → PartOf 256 8 tables roots → length twisted ≡ 256 → Multiplied q powers exchanged twisted
      → SixteenReady q roots twisted to
  rows_ready part size multiplied =
      record {
        roots_size = part.length_is;
        roots_below = record { each = λ i h. rw (part.entry i h) (ready.tables_below.each (256 + i) (omega arith)) };
        from_size = size;
        from_below = multiplied.below;
        to_size = ready.to_size;
      }

-- the powers of the columns, whose root is power 16
column_roots : {q v : ℕ} {tables roots : List ℕ} → RowTables q v tables → PartOf 256 8 tables roots → Roots q (v ^ 16) roots
column_roots {v = v} powers part =
    record {
      powers = λ i h. rw (part.entry i h, pow_mul) (powers.columns i h);
      minus = rw pow_mul powers.minus;
    }

-- columns, the exchange of columns and rows, twist and rows
pub row_steps : {q : ℕ} {tables roots powers roots' from columns exchanged twisted to : List ℕ} → PartOf 256 8 tables roots → PartOf 0 256 tables powers
    → PartOf 256 8 tables roots' → Sixteen q roots from columns → Exchanged columns exchanged → Multiplied q powers exchanged twisted
    → Sixteen q roots' twisted to → Row q tables from to
row_steps {q} {tables} {from = from} {columns} {twisted = twisted} {to} roots powers roots' first exchange twist second =
    record {
      values = λ v held.
          row_values v (at from) (at columns) (at twisted) (at to) (whole_power 128 v held.minus) (first.values (v ^ 16) (column_roots held roots))
          (λ a b h l. mod_trans (rw (exchange.values a b h l) at (twist.values (16 * a + b) (omega arith)))
          (mod_mul (mod_refl _) (rw (powers.entry (16 * a + b) (omega arith), zero-add) (held.twist a b h l))))
          (second.values (v ^ 16) (column_roots held roots'));
      below = second.below;
    }

-- what a turn of a multiplication writes
pub record Product (q : ℕ) (by from : List ℕ) (j z : ℕ) : Type 0 where
  pub value : Mod q z (at from j * unscale q (at by j))
  pub below : z < 2 * q

-- a multiplication after its last turn
pub multiplied : {q : ℕ} {by from old to : List ℕ} {i : ℕ} → Written (Product q by from) 0 256 old i to → 256 ≤ i → Multiplied q by from to
multiplied {q} {by} {from} {to = to} t h =
    let each : (j : ℕ) → j < 256 → Product q by from j (at to j) = λ j l. rw zero-add at (t.each j (omega arith)) in
    record { values = λ j l. (each j l).value; below = record { each = λ j l. (each j l).below } }

-- twist, transform and residues
pub forward_steps : {q by : ℕ} {twist tables old twisted row new : List ℕ} → Multiplied q twist old twisted → Row q tables twisted row → length row ≡ 256
    → new ≡ tabulate (length row) (λ i. at row i * unscale q by % q) → ForwardRow q by twist tables old new
forward_steps {q} {by} {row = row} {new} first second size third =
    record {
      values = λ v held c h.
          rw third
          (tabulate_at _ (λ i. at row i * unscale q by % q) c (omega arith)
          ∙ (mod_mul (mod_trans (second.values v held c h) (transform_mod 256 v _ _ c first.values)) (mod_refl (unscale q by))).same);
    }

-- transform and twist
pub inverse_steps : {q : ℕ} {twist tables old row new : List ℕ} → Row q tables old row → Multiplied q twist row new → InverseRow q twist tables old new
inverse_steps first second =
    record {
      values = λ v held c h. mod_trans (second.values c h) (mod_mul (first.values v held c h) (mod_refl _));
      below = second.below;
    }
