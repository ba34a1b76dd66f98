-- Sums of centred residues: their sizes, the loops that add them up, and what they are of the whole numbers drawn.
-- Assumes nothing.
use mathlib.Core.Path.{◌≡◌, refl, sym, ap, ap₂, ◌∙◌}
use mathlib.Core.List.{List}
use Prim.Native.Nat.{ℕ, suc, ◌+◌, ◌-◌, ◌*◌, ◌%◌, ◌^◌, ◌≤◌, ◌<◌}
use native.Mathlib.Nat.{mod-lt, mul-le-mul_left}
use native.Mathlib.Omega.{arith}
use lib.IntN.{ℤ, pos, ◌+ℤ◌, ◌*ℤ◌, nat_abs}
use mir.Syntax.{w64}
use mir.Val.{SFits}
use mir.Facts.{to_z-of_z}
use Rattle.maths.specs.Vector.{at}
use Rattle.maths.specs.Integer.{sum_ℤ, centre}
use Rattle.maths.proofs.Sum.{sum_const}
use Rattle.maths.proofs.Integer.{nat_abs_centre, sum_ℤ_none, sum_ℤ_last}
use Rattle.maths.proofs.Size.{sum_ℤ_most, nat_abs-*ℤ_most}
use Rattle.calls.proofs.Region.{vector_fits}
use Rattle.sets.specs.declared.Parameters.{Parameters}
use Rattle.sets.specs.Rules.{Rules, ByteRules}
use Rattle.sets.specs.Derived.{half_modulus_of, multiplier_count_of, error_draw_bytes_of, error_count_of}
use Rattle.packing.specs.Dropped.{chop}
use Rattle.sheet_noise.specs.Centred.{Residues, centred_term, centred_correlation, centred_part, centred_product, centred_dropped}
use Rattle.maths.proofs.SignedWord.{stored}

-- a number with its low bits cleared is no larger
pub chop_most : (cmp x : ℕ) → chop cmp x ≤ x
unfolding chop
chop_most cmp x = omega arith

-- a remainder is below the modulus
pub remainder_below : (r x q : ℕ) → r ≡ x % q → 1 < q → r < q
remainder_below r x q e h = rw e (mod-lt x (omega arith))

-- terms of bounded size
sum_most : (n most : ℕ) (f : ℕ → ℤ) → ((i : ℕ) → nat_abs (f i) ≤ most) → nat_abs (sum_ℤ n f) ≤ n * most
sum_most n most f each = rw (← sum_const n most) (sum_ℤ_most n f (λ i. most) (λ i h. each i))

-- the sum of the first l of n terms
pub record Summing (f : ℕ → ℤ) (n l : ℕ) (sum : ℤ) : Type 0 where
  pub within : l ≤ n
  pub value : sum ≡ sum_ℤ l f

module _ (f : ℕ → ℤ) (n : ℕ) where
  -- before the first term
  pub summing_none : Summing f n 0 (pos 0)
  summing_none = record { within = omega arith; value = sym (sum_ℤ_none f) }

  -- one term more, as a word holds it
  pub summing_more : {l : ℕ} {sum : ℤ} (r z : ℤ) → Summing f n l sum → l < n → SFits w64 r → SFits w64 z → r ≡ sum +ℤ stored z → z ≡ f l
      → Summing f n (l + 1) (stored r)
  summing_more {l} r z s h fr fz e is =
      let next : suc l ≡ l + 1 = omega arith in
      record {
        within = omega arith;
        value = to_z-of_z fr ∙ e ∙ ap₂ ◌+ℤ◌ s.value (to_z-of_z fz ∙ is) ∙ sym (sum_ℤ_last l f) ∙ ap (λ (m : ℕ). sum_ℤ m f) next;
      }

  -- after the last
  pub summing_all : {l : ℕ} {sum : ℤ} → Summing f n l sum → n ≤ l → sum ≡ sum_ℤ n f
  summing_all {l} s h = let all : l ≡ n = omega (arith, s.within) in s.value ∙ ap (λ (m : ℕ). sum_ℤ m f) all

  -- the sums on the way are small
  pub summing_small : {l : ℕ} {sum : ℤ} (most : ℕ) → Summing f n l sum → ((i : ℕ) → nat_abs (f i) ≤ most) → n * most < 2 ^ 61 → nat_abs sum < 2 ^ 61
  summing_small {l} most s each room =
      let fewer : most * l ≤ most * n = mul-le-mul_left most s.within in
      rw s.value (omega (arith, sum_most l most f each))

module _ (half : ℕ) (r : List ℕ) (first : ℕ) (e : List ℕ) (place : ℕ) where
  -- one product
  pub term_is : (l : ℕ) → centre half (at r (first + l)) *ℤ centre half (at e (place + l)) ≡ centred_term half r first e place l
  unfolding centred_term
  term_is l = refl

  module _ (small : half < 2 ^ 23) (rs : Residues (2 * half + 1) r) (es : Residues (2 * half + 1) e) where
    -- its size
    pub term_most : (l : ℕ) → nat_abs (centred_term half r first e place l) ≤ 2 ^ 46
    unfolding centred_term
    term_most l =
        let one : nat_abs (centre half (at r (first + l))) ≤ half = nat_abs_centre half (at r (first + l)) (rs.each (first + l)) in
        let other : nat_abs (centre half (at e (place + l))) ≤ half = nat_abs_centre half (at e (place + l)) (es.each (place + l)) in
        omega (arith, nat_abs-*ℤ_most (centre half (at r (first + l))) (centre half (at e (place + l))) (2 ^ 23) (2 ^ 23) (omega arith) (omega arith))

    -- the size of a sum
    pub correlation_most : (n : ℕ) → n ≤ 1024 → nat_abs (centred_correlation half n r first e place) ≤ 2 ^ 56
    unfolding centred_correlation
    correlation_most n few = omega (arith, sum_most n (2 ^ 46) (centred_term half r first e place) term_most)

-- one polynomial's part
pub part_is : (p : Parameters) (half : ℕ) (r e : List ℕ) (j i : ℕ) → half ≡ half_modulus_of p
    → centred_correlation half (p.k + 1) r ((p.k + 1) * i) e ((p.d + p.k) * i + j) ≡ centred_part p r e j i
unfolding centred_part
part_is p half r e j i h = rw h

-- a term as the code holds it is small
pub held_small : {z y : ℤ} → SFits w64 z → z ≡ y → nat_abs y ≤ 2 ^ 60 → nat_abs (stored z) < 2 ^ 61
held_small fits e h = rw (to_z-of_z fits, e) (omega arith)

-- where the numbers of one polynomial stand
pub record Room (p : Parameters) (i j : ℕ) : Type 0 where
  pub multipliers_in : (p.k + 1) * i + (p.k + 1) ≤ multiplier_count_of p
  pub errors_in : (p.d + p.k) * i + j + (p.k + 1) ≤ error_count_of p
  pub few_multipliers : multiplier_count_of p ≤ 8192
  pub few_errors : error_count_of p ≤ 10240

module _ (p : Parameters) (kept : Rules p) (bytes : ByteRules p) where
  -- there are few errors
  pub errors_few : error_count_of p ≤ 10240
  unfolding error_count_of error_draw_bytes_of
  errors_few = omega (arith, bytes.most_error_bytes)

  -- half the modulus
  pub half_small : half_modulus_of p < 2 ^ 23
  half_small = omega (arith, kept.odd, kept.small)

  -- all of them are within
  pub room : (i j : ℕ) → i < p.t → j < p.d → Room p i j
  unfolding error_count_of multiplier_count_of
  room i j h l =
      record {
        multipliers_in = vector_fits (p.k + 1) p.t i h;
        errors_in = omega (arith, vector_fits (p.d + p.k) p.t i h);
        few_multipliers = kept.most_multipliers;
        few_errors = errors_few;
      }

  module _ (r e : List ℕ) (rs : Residues p.q r) (es : Residues p.q e) where
    -- residues, by half the modulus
    pub by_half : (xs : List ℕ) → Residues p.q xs → Residues (2 * half_modulus_of p + 1) xs
    by_half xs below = record { each = λ k. omega (arith, below.each k, kept.odd) }

    -- the size of one polynomial's part
    pub part_most : (j i : ℕ) → nat_abs (centred_part p r e j i) ≤ 2 ^ 56
    unfolding centred_part
    part_most j i =
        correlation_most (half_modulus_of p) r ((p.k + 1) * i) e ((p.d + p.k) * i + j) half_small (by_half r rs) (by_half e es) (p.k + 1)
        (omega (arith, kept.most_k))

    -- the size of the products' part
    pub product_most : (j : ℕ) → nat_abs (centred_product p r e j) ≤ 2 ^ 60
    unfolding centred_product
    product_most j = omega (arith, sum_most p.t (2 ^ 56) (centred_part p r e j) (part_most j), kept.most_t)

  -- the size of the part of the bits dropped
  pub dropped_most : (before : ℕ) → nat_abs (centred_dropped p before) ≤ 2 ^ 60
  unfolding centred_dropped
  dropped_most before =
      omega (
        arith,
        nat_abs_centre (half_modulus_of p) ((chop p.cmp before + (p.q - before)) % p.q)
            (rw (sym kept.odd) (mod-lt (chop p.cmp before + (p.q - before)) (omega (arith, kept.prime.above)))),
        half_small,
      )
