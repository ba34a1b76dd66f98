-- The errors of one key, row after row (003, section 2.2.3, algorithm 9): the invariant of the loops that write their residues.
-- Assumes nothing.
use mathlib.Core.Path.{◌≡◌, refl, sym, ap, ◌∙◌}
use mathlib.Core.List.{List, map}
use Prim.Native.Nat.{ℕ, suc, ◌+◌, ◌*◌, ◌/◌, ◌%◌, ◌≤◌, ◌<◌}
use native.Mathlib.Nat.{zero-mul, mul-le-mul_right, div-eq_of_lt-le, mod-eq-sub-div-mul}
use native.Mathlib.Omega.{arith}
use lib.ListN.{length, take, set, length-set}
use lib.Seq.{length-take-le}
use Rattle.maths.specs.Integer.{residue}
use Rattle.calls.proofs.Region.{over_over}
use Rattle.calls.proofs.Filled.{Filled, filled_whole}
use Rattle.sets.specs.declared.Parameters.{Parameters}
use Rattle.sets.specs.Derived.{error_draw_bytes_of, error_count_of}
use Rattle.draws.specs.Small.{error_at}
use Rattle.samplers.specs.Seeded.{error_byte, errors_of}
use Rattle.samplers.proofs.Values.{errors_at, errors_length, reduced_none, reduced_more}

-- what is written so far does not depend on what stood there
again : {old ys new : List ℕ} {n i : ℕ} → Filled old 0 n ys i new → length old ≡ n → Filled new 0 n ys i new
again {old} {ys} {i = i} f e =
    let part : length (take i ys) ≡ i = length-take-le i ys (omega (arith, f.entries, f.within)) in
    record {
      entries = f.entries;
      room = omega (arith, f.kept_length);
      within = f.within;
      kept_length = refl;
      written = rw f.written (sym (over_over old 0 (take i ys) (omega (arith, f.within)) (take i ys) refl));
    }

-- a place i of row r
place_byte : (row r i : ℕ) → r * row ≤ i → i < r * row + row → i / row * (row + 1) + i % row ≡ i + r
place_byte row r i from to =
    let quotient : i / row ≡ r = div-eq_of_lt-le row (omega arith) (omega arith) in
    omega (arith, mod-eq-sub-div-mul i row, ap (λ (k : ℕ). k * row) quotient, ap (λ (k : ℕ). k * (row + 1)) quotient)

-- the errors before place i, which is in row r or at its end, are written
pub record Rows (p : Parameters) (bytes : List ℕ) (r i : ℕ) (out : List ℕ) : Type 0 where
  pub from : r * (p.d + p.k) ≤ i
  pub to : i ≤ r * (p.d + p.k) + (p.d + p.k)
  pub size : length out ≡ error_count_of p
  pub written : Filled out 0 (error_count_of p) (map (residue p.q) (errors_of p bytes)) i out

-- a row ends before the bytes drawn do
pub row_end : (p : Parameters) {r : ℕ} → r < p.t → r * (p.d + p.k) + (p.d + p.k) ≤ error_draw_bytes_of p
unfolding error_draw_bytes_of
row_end p below = let whole = mul-le-mul_right (p.d + p.k) below in omega arith

module _ (p : Parameters) (bytes : List ℕ) where
  -- before the first row
  pub rows_none : (out : List ℕ) → length out ≡ error_count_of p → Rows p bytes 0 0 out
  rows_none out e =
      record {
        from = omega (arith, zero-mul (p.d + p.k));
        to = omega arith;
        size = e;
        written = rw e at (reduced_none p.q (errors_of p bytes) out (errors_length p bytes ∙ sym e));
      }

  module _ {r i : ℕ} {out : List ℕ} (w : Rows p bytes r i out) (below : r < p.t) where
    module _ (more : i < r * (p.d + p.k) + (p.d + p.k)) where
      -- place i is one of the errors
      pub rows_place : i < error_count_of p
      unfolding error_count_of
      rows_place = let whole : suc r * (p.d + p.k) ≤ p.t * (p.d + p.k) = mul-le-mul_right (p.d + p.k) below in omega arith

      -- its byte is i + r, one of those drawn
      pub rows_byte : i + r < error_draw_bytes_of p
      unfolding error_draw_bytes_of
      rows_byte = let whole : suc r * (p.d + p.k + 1) ≤ p.t * (p.d + p.k + 1) = mul-le-mul_right (p.d + p.k + 1) below in omega arith

      -- one error more
      pub rows_more : {x : ℕ} → x ≡ residue p.q (error_at bytes (i + r)) → Rows p bytes r (i + 1) (set out i x)
      unfolding error_byte
      rows_more {x} e =
          let byte : error_byte p i ≡ i + r = place_byte (p.d + p.k) r i w.from more in
          let same : residue p.q (error_at bytes (i + r)) ≡ residue p.q (error_at bytes (error_byte p i)) =
          ap (λ (k : ℕ). residue p.q (error_at bytes k)) (sym byte)
          in
          let next = reduced_more p.q (errors_of p bytes) _ (rw (← w.size) at w.written) (omega (arith, rows_place, w.size))
          (errors_at p i rows_place bytes) (e ∙ same) in
          record {
            from = omega (arith, w.from);
            to = omega arith;
            size = length-set out i x ∙ w.size;
            written = again (rw w.size at next) w.size;
          }

  -- after the last row
  pub rows_all : {r i : ℕ} {out : List ℕ} → Rows p bytes r i out → p.t ≤ r → out ≡ map (residue p.q) (errors_of p bytes)
  unfolding error_count_of
  rows_all {r} {i} w e = filled_whole w.written w.size (omega (arith, w.from, mul-le-mul_right (p.d + p.k) e))
