-- The loops that write scaled powers after the powers of a root.
-- Assumes nothing.
use mathlib.Core.Path.{◌≡◌, refl, sym, ◌∙◌}
use mathlib.Core.Logic.{inl, inr}
use mathlib.Core.List.{List}
use Prim.Native.Nat.{ℕ, ◌+◌, ◌*◌, ◌/◌, ◌%◌, ◌^◌, ◌≤◌, ◌<◌}
use native.Mathlib.Nat.{mod-lt, mod-eq_of_lt, mul_comm, eq-or-lt_of_le, le_of_suc-le-suc, mul-le-mul, mul-lt-mul_of_pos_left}
use native.Mathlib.Numerals.{add-one}
use native.Mathlib.Omega.{arith}
use lib.ListN.{length, set, length-set}
use lib.Seq.{get_or-set_same, get_or-set_other}
use Rattle.maths.specs.Vector.{at}
use Rattle.maths.specs.Congruence.{Mod}
use Rattle.maths.proofs.Congruence.{mod_eq, mod_trans, mod_remainder}
use Rattle.montgomery.specs.Scaled.{unscale, Odd}
use Rattle.montgomery.proofs.Laws.{unscale_cong, unscale_remainder, unscale_mul_left, unscale_twice_one}
use Rattle.ntt_tables.specs.Steps.{Filled}

-- the scaled form of 2^32 is a residue
pub scale_below : {q by : ℕ} → Odd q → by ≡ 2 ^ 64 % q → by < q
scale_below odd scale = rw scale (mod-lt _ (omega (arith, odd.some)))

-- a residue that a product with the scaled form of 2^32 makes is what that product is the scaled form of
pub scaled_back : {q by r x : ℕ} → Odd q → by ≡ 2 ^ 64 % q → x < q → r ≡ x * unscale q by % q → (unscale q r ≡ x) × (r < q)
scaled_back {q} {by = by} {r} {x} odd scale h e =
    let some : 0 < q = omega (arith, odd.some) in
    let same : Mod q r (unscale q by * x) = mod_trans (mod_eq e) (mod_trans (mod_remainder q _) (mod_eq (mul_comm x (unscale q by)))) in
    let back : Mod q (unscale q (unscale q by * x)) x =
    mod_trans (unscale_mul_left q (unscale q by) x)
    (mod_trans (mod_eq (mul_comm (unscale q by) (unscale q x)))
    (rw (← scale) at (unscale_twice_one odd x))) in
    (unscale_cong same ∙ sym (unscale_remainder q _) ∙ back.same ∙ mod-eq_of_lt h, rw e (mod-lt _ some))

-- a loop that has written the first i of n powers, each out of a place that Place relates to its number
pub record Filling (q start n : ℕ) (Place : ℕ → ℕ → Type 0) (old : List ℕ) (i : ℕ) (new : List ℕ) : Type 0 where
  pub size : length new ≡ length old
  pub before : (j : ℕ) → j < start → at new j ≡ at old j
  pub filled : (from : ℕ → ℕ) → ((j p : ℕ) → j < n → Place j p → p ≡ from j) → Filled q start i from old new

module _ {q start n : ℕ} {Place : ℕ → ℕ → Type 0} {old : List ℕ} where
  -- before the first power
  pub filled_none : Filling q start n Place old 0 old
  filled_none =
      record {
        size = refl;
        before = λ i h. refl;
        filled = λ from h.
            record {
              size = refl;
              values = λ i h. absurd (omega arith);
              below = λ i h. absurd (omega arith);
              before = λ i h. refl;
              after = λ i h. refl;
            };
      }

  -- one more power
  pub filled_more : {i p v : ℕ} {new : List ℕ} → Filling q start n Place old i new → i < n → Place i p → p < start → start + n ≤ length old
      → unscale q v ≡ at new p → v < q → Filling q start n Place old (i + 1) (set new (start + i) v)
  filled_more {i} {p} {v} {new} f turn named low room value small =
      let k : ℕ = start + i in
      let here : k < length new = omega (arith, f.size) in
      record {
        size = length-set new k v ∙ f.size;
        before = λ j h. get_or-set_other new k j v 0 (λ t. omega arith) ∙ f.before j h;
        filled = λ from same.
            let made = f.filled from same in
            let read : unscale q v ≡ at old (from i) = rw (← (same i p turn named)) (value ∙ f.before p low) in
            record {
              size = length-set new k v ∙ f.size;
              values = λ j h.
                  elim (eq-or-lt_of_le (le_of_suc-le-suc (rw add-one at h))) [
                    | inl last ↦ rw (last, get_or-set_same new k v 0 here) read
                    | inr less ↦ rw (get_or-set_other new k (start + j) v 0 (λ t. omega arith)) (made.values j less)
                  ];
              below = λ j h.
                  elim (eq-or-lt_of_le (le_of_suc-le-suc (rw add-one at h))) [
                    | inl last ↦ rw (last, get_or-set_same new k v 0 here) small
                    | inr less ↦ rw (get_or-set_other new k (start + j) v 0 (λ t. omega arith)) (made.below j less)
                  ];
              before = λ j h. get_or-set_other new k j v 0 (λ t. omega arith) ∙ made.before j h;
              after = λ j h. get_or-set_other new k j v 0 (λ t. omega arith) ∙ made.after j (omega arith);
            };
      }

-- the exponent of a power of the twist within a row
pub exponent_below : (i : ℕ) → i < 256 → i / 16 * (i % 16) < 256
exponent_below i h =
    let first : i / 16 ≤ 15 = omega arith in
    let second : i % 16 ≤ 15 = omega arith in
    let small : i / 16 * (i % 16) ≤ 15 * 15 = mul-le-mul first second in
    omega arith

-- its place
pub twist_place : (rows : ℕ) {i : ℕ} → i < 256 → 0 < rows → rows * (i / 16 * (i % 16)) < rows * 256
twist_place rows {i} h some = mul-lt-mul_of_pos_left {m = i / 16 * (i % 16)} {n = 256} (exponent_below i h) some

-- the place of a power whose exponent is a multiple of stride
pub strided_place : {n start i : ℕ} (stride : ℕ) → 0 < stride → stride * n ≤ start → i < n → stride * i < start
strided_place {n} {start} {i} stride some h k = omega (arith, mul-lt-mul_of_pos_left {m = i} {n = n} {k = stride} k some)
