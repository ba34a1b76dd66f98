-- The table of the powers of an inverse root: the invariant of the loop that exchanges places, and what it makes of a table.
-- Assumes nothing.
use mathlib.Core.Path.{◌≡◌, sym, ap, ◌∙◌}
use mathlib.Core.List.{List, [], ◌∷◌}
use Prim.Native.Nat.{ℕ, suc, ◌+◌, ◌-◌, ◌*◌, ◌%◌, ◌^◌, ◌≤◌, ◌<◌}
use native.Mathlib.Nat.{pow-zero, mul-one}
use native.Mathlib.Decide.{dec_le}
use native.Mathlib.Omega.{arith}
use lib.Pow.{pow-add}
use lib.ListN.{length}
use Rattle.std.specs.Prelude.{reverse}
use Rattle.std.proofs.Common.{rules}
use Rattle.std.proofs.lemmas.Grind.{common_steps}
use Rattle.std.proofs.lemmas.List.{get_or-reverse, length-reverse}
use borrow.Rule.Slice.PartMut.{put_mid, mid_of}
use Rattle.maths.specs.Vector.{at}
use Rattle.maths.specs.Congruence.{Mod}
use Rattle.maths.specs.Root.{Root, power_table}
use Rattle.maths.proofs.Vector.{equal_by_place}
use Rattle.maths.proofs.Congruence.{mod_refl, mod_eq, mod_sym, mod_trans, mod_mul, mod_one_mul}
use Rattle.maths.proofs.Root.{powers_cancel}
use Rattle.ntt_tables.specs.Inverted.{InvertedTable}
use Rattle.maths.proofs.PowerTable.{power_table_length, power_table_at}

-- a power of a root that is as far from the order is a power of its inverse
pub inverse_power : {q D w v e : ℕ} → Root q D w v e → (k : ℕ) → k ≤ D → Mod q (w ^ (D - k)) (v ^ k)
inverse_power {q} {D} {w} {v} r k h =
    let whole : w ^ (D - k) * (w ^ k * v ^ k) ≡ w ^ D * v ^ k = let parts : D - k + k ≡ D = omega arith in
    omega (arith, ap (λ (y : ℕ). y * v ^ k) (sym (pow-add w (D - k) k) ∙ ap (λ (y : ℕ). w ^ y) parts)) in
    mod_trans (mod_eq (sym (mul-one (w ^ (D - k)))))
    (mod_trans (mod_mul (mod_refl (w ^ (D - k))) (mod_sym (powers_cancel r k))) (mod_trans (mod_eq whole) (mod_one_mul (v ^ k) r.power)))

-- the numbers behind the first, turned round in place
turned : (x : ℕ) (xs : List ℕ) → put_mid 1 (length (x ∷ xs) - 1) (x ∷ xs) (reverse (mid_of 1 (length (x ∷ xs) - 1) (x ∷ xs))) ≡ x ∷ reverse xs
turned x xs = search (rules, common_steps)

-- each place but the first has the number as far from the end
turned_at : (x : ℕ) (xs : List ℕ) (k : ℕ) → 1 ≤ k → k < length (x ∷ xs) → at (x ∷ reverse xs) k ≡ at (x ∷ xs) (length (x ∷ xs) - k)
turned_at x xs k h l = grind (arith, common_steps, get_or-reverse)

-- a table that is turned round behind its first place is that of the inverse
pub inverted : (old later : List ℕ) → 1 ≤ length old → later ≡ reverse (mid_of 1 (length old - 1) old)
    → InvertedTable old (put_mid 1 (length old - 1) old later)
inverted [] later some e = absurd (omega arith)
inverted (x ∷ xs) later some e =
    rw (e, turned x xs)
    (record {
      table = λ q w v r-e r t.
          let D : ℕ = length (x ∷ xs) in
          let value : (k : ℕ) → k < D → at (x ∷ xs) k ≡ w ^ k % q = λ k l. ap (λ (ys : List ℕ). at ys k) t ∙ power_table_at q w D k l in
          let place : (k : ℕ) → k < D → at (x ∷ reverse xs) k ≡ at (power_table q v D) k = λ k l.
          elim (dec_le 1 k) [
            | yes later ↦ turned_at x xs k later l ∙
                (value (D - k) (omega arith) ∙ ((inverse_power r k (omega arith)).same ∙ sym (power_table_at q v D k l)))
            | no start ↦ let none : k ≡ 0 = omega arith in rw none
                (value 0 (omega arith) ∙ (ap (λ (y : ℕ). y % q) (pow-zero w ∙ sym (pow-zero v)) ∙ sym (power_table_at q v D 0 (omega arith))))
          ] in
          equal_by_place D (x ∷ reverse xs) (power_table q v D) (ap (λ (n : ℕ). suc n) (length-reverse xs)) (power_table_length q v D) place;
    })
