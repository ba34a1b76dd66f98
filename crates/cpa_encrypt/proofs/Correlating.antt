-- The second part of a ciphertext: the products with the stored b_i added up, the correlations they recover to, and the message.
-- Assumes nothing.
use mathlib.Core.Path.{◌≡◌, refl, sym, ap, ◌∙◌}
use mathlib.Core.List.{List}
use Prim.Native.Nat.{ℕ, ◌+◌, ◌*◌, ◌%◌, ◌≤◌, ◌<◌}
use native.Mathlib.Nat.{mod-lt}
use native.Mathlib.Omega.{arith}
use lib.ListN.{length, replicate}
use lib.Seq.{get_or-take}
use Rattle.maths.specs.Vector.{at, tabulate, AllBelow}
use Rattle.maths.specs.Sum.{sum}
use Rattle.maths.specs.Product.{correlation}
use Rattle.maths.proofs.Vector.{tabulate_length, tabulate_at, tabulate_cong}
use Rattle.maths.proofs.Sum.{sum_cong}
use Rattle.maths.proofs.Congruence.{mod_refl, mod_add, mod_remainder}
use Rattle.calls.specs.Region.{vector}
use Rattle.calls.proofs.Region.{region_entry, region_length}
use Rattle.sets.specs.declared.Parameters.{Parameters}
use Rattle.sets.specs.Table.{Listed}
use Rattle.sets.specs.Derived.{half_modulus_of, transform_size_of}
use Rattle.sets.specs.Rules.{Rules}
use Rattle.sets.proofs.Rules.{listed_rules}
use Rattle.packing.specs.Digits.{Digit}
use Rattle.packing.specs.Dropped.{pack_dropping_of}
use Rattle.packing.specs.Message.{message_bits_of}
use Rattle.ntt_products.specs.Stored.{sent, unscaled, recovered_inverse, accumulated, totals, summed_correlations}
use Rattle.ntt_products.specs.Placed.{SentScaled}
use Rattle.ntt_products.proofs.Laws.{accumulated_length, Stored, addends, totals_none, totals_more, totals_placed}
use Rattle.ntt_products.proofs.Laws.{totals_recovered_inverse, recovered_inverse_take}
use Rattle.scheme.specs.Encryption.{second_numbers_of, second_bytes}
use Rattle.cpa_encrypt.specs.Parts.{Multipliers, KeyResidues, message_added, second_sums, packed_second}
use Rattle.sets.proofs.Transforms.{first_size}
use Rattle.cpa_encrypt.proofs.Multiplied.{residue_digits, vector_within, vector_room}

-- remainders are digits of a set's width
pub reduced_digits : (p : Parameters) → Rules p → (xs : List ℕ) (n : ℕ) (f : ℕ → ℕ) → xs ≡ tabulate n (λ j. f j % p.q) → Digit p.width xs
reduced_digits p kept xs n f made =
    let long : length xs ≡ n = rw made (tabulate_length n (λ j. f j % p.q)) in
    residue_digits p xs kept
    (record { each = λ k h. rw (made, tabulate_at n (λ j. f j % p.q) k (omega arith)) (mod-lt (f k) (omega (arith, kept.prime.above))) })

-- where b̂_i stands
pub record KeyRoom (p : Parameters) (i count : ℕ) : Type 0 where
  pub within : p.d1 * i + p.d1 ≤ count
  pub few : count ≤ 10240

-- the products of the first i polynomials are added up
pub record Correlating (p : Parameters) (numbers ms : List ℕ) (size : ℕ) (total x : List ℕ) (i : ℕ) : Type 0 where
  pub total_size : length total ≡ size
  pub within : i ≤ p.t
  pub sum : total ≡ totals p.q (transform_size_of p 1) i (λ j. sent p 1 (vector (p.k + 1) ms j)) (λ j. vector p.d1 numbers j)
  pub x_size : length x ≡ transform_size_of p 1

module _ (p : Parameters) (known : Listed p) where
  -- b̂_i lies within all of them
  pub key_room : (i : ℕ) → i < p.t → KeyRoom p i (p.d1 * p.t)
  key_room i h = record { within = vector_within p.d1 i p.t h; few = (listed_rules p known).most_public }

  -- d numbers fit the first transform
  message_fits : p.d ≤ transform_size_of p 1
  message_fits = omega (arith, first_size p, (listed_rules p known).holds1)

  module _ (numbers ms : List ℕ) where
    -- b̂_i has all places of its transform
    pub key_stored : KeyResidues p numbers → (i : ℕ) → i < p.t → Stored p 1 (vector p.d1 numbers i)
    key_stored b i h =
        let size = first_size p in
        let room = key_room i h in
        record {
          size = region_length numbers (p.d1 * i) p.d1 (omega (arith, b.size, room.within)) ∙ sym size;
          inside = omega arith;
          residues = record {
            each = λ k l. let inside : k < p.d1 = rw size at l in
                rw (region_entry numbers (p.d1 * i) p.d1 k 0 inside) (b.residues.each (p.d1 * i + k) (omega (arith, room.within)));
          };
        }

    -- before the first polynomial
    pub correlating_none : (total x : List ℕ) → total ≡ replicate (transform_size_of p 1) 0 → length x ≡ transform_size_of p 1
        → Correlating p numbers ms (length total) total x 0
    correlating_none total x zeros size =
        record {
          total_size = refl;
          within = omega arith;
          sum = zeros ∙ sym (totals_none p.q (transform_size_of p 1) _ _ (omega (arith, (listed_rules p known).prime.above)));
          x_size = size;
        }

    -- one polynomial more
    pub correlating_more : {size : ℕ} {total x₀ : List ℕ} {i : ℕ} (new x y : List ℕ) → Correlating p numbers ms size total x₀ i → i < p.t
        → SentScaled p 1 (vector (p.k + 1) ms i) x → y ≡ vector p.d1 numbers i → new ≡ accumulated p.q total (unscaled p.q x) y
        → Correlating p numbers ms size new x (i + 1)
    correlating_more {total = total} {i = i} new x y a h scaled y_is made =
        record {
          total_size = ap length made ∙ accumulated_length p.q total _ y ∙ a.total_size;
          within = omega arith;
          sum =
              made ∙ rw (a.sum, scaled.unscaled_is, y_is)
              (totals_more p.q (transform_size_of p 1) (λ j. sent p 1 (vector (p.k + 1) ms j)) (λ j. vector p.d1 numbers j) i);
          x_size = scaled.placed.size;
        }

    -- the total and the vectors of one turn may be accumulated
    pub correlating_addends : {size : ℕ} {total x₀ x y : List ℕ} {i : ℕ} → KeyResidues p numbers
        → Correlating p numbers ms size total x₀ i → i < p.t → SentScaled p 1 (vector (p.k + 1) ms i) x → y ≡ vector p.d1 numbers i
        → (length x ≡ length total) × (length y ≡ length total) × AllBelow p.q (length total) total × AllBelow p.q (length total) x
    correlating_addends {total = total} {y = y} {i = i} b a h scaled y_is =
        let stored : Stored p 1 total =
        rw a.sum (totals_placed p known 1 i (λ j. sent p 1 (vector (p.k + 1) ms j)) (λ j. vector p.d1 numbers j)) in
        let other : Stored p 1 y = rw y_is (key_stored b i h) in
        addends p known 1 stored scaled.placed other

    -- the total over all polynomials may be recovered
    pub total_stored : (total : List ℕ)
        → total ≡ totals p.q (transform_size_of p 1) p.t (λ j. sent p 1 (vector (p.k + 1) ms j)) (λ j. vector p.d1 numbers j) → Stored p 1 total
    total_stored total made = rw made (totals_placed p known 1 p.t (λ j. sent p 1 (vector (p.k + 1) ms j)) (λ j. vector p.d1 numbers j))

    -- after the last polynomial
    pub correlating_all : {size : ℕ} {total x : List ℕ} {i : ℕ} → Correlating p numbers ms size total x i → p.t ≤ i
        → total ≡ totals p.q (transform_size_of p 1) p.t (λ j. sent p 1 (vector (p.k + 1) ms j)) (λ j. vector p.d1 numbers j)
    correlating_all {i = i} a h = let all : i ≡ p.t = omega arith in rw all at a.sum

    module _ (message sums : List ℕ) where
      -- which are digits of the set's width
      pub second_digits : sums ≡ second_sums p numbers ms message → Digit p.width sums
      unfolding second_sums second_numbers_of
      second_digits made = reduced_digits p (listed_rules p known) sums _ _ made

      -- packed, they are the second part
      pub second_packed : (len : ℕ) → len ≡ second_bytes p → sums ≡ second_sums p numbers ms message
          → pack_dropping_of p.width p.cmp len sums ≡ packed_second p numbers ms message
      unfolding packed_second
      second_packed len l made = rw (l, made)

    module _ (m : Multipliers p ms) where
      -- a multiplier polynomial has k + 1 numbers
      multiplier_length : (i : ℕ) → i < p.t → length (vector (p.k + 1) ms i) ≡ p.k + 1
      multiplier_length i h = region_length ms ((p.k + 1) * i) (p.k + 1) (omega (arith, m.size, (vector_room p known i h).within))

      -- place j of the correlation with b_i, of which only d + k numbers count
      correlation_short : (i j : ℕ) → i < p.t → j < p.d
          → correlation (length (vector (p.k + 1) ms i)) (at (vector (p.k + 1) ms i))
          (at (recovered_inverse p 1 (transform_size_of p 1) (vector p.d1 numbers i))) j
          ≡ correlation (p.k + 1) (at (vector (p.k + 1) ms i)) (at (recovered_inverse p 1 (p.d + p.k) (vector p.d1 numbers i))) j
      unfolding correlation
      correlation_short i j h l =
          rw (multiplier_length i h)
          (sum_cong (p.k + 1) _ _ (λ o b.
          let short : p.d + p.k ≤ transform_size_of p 1 = omega (arith, first_size p, (listed_rules p known).holds1) in
          ap (λ (y : ℕ). at (vector (p.k + 1) ms i) o * y)
          (sym (get_or-take (p.d + p.k) (recovered_inverse p 1 (transform_size_of p 1) (vector p.d1 numbers i)) (j + o) 0 (omega arith))
          ∙ ap (λ (ys : List ℕ). at ys (j + o)) (recovered_inverse_take p 1 (p.d + p.k) (vector p.d1 numbers i) short))))

      -- the first d numbers recovered are the correlations added up
      sums_at : (j : ℕ) → j < p.d
          → at (recovered_inverse p 1 p.d
          (totals p.q (transform_size_of p 1) p.t (λ i. sent p 1 (vector (p.k + 1) ms i)) (λ i. vector p.d1 numbers i))) j
          ≡ sum p.t
          (λ i. correlation (p.k + 1) (at (vector (p.k + 1) ms i)) (at (recovered_inverse p 1 (p.d + p.k) (vector p.d1 numbers i))) j) % p.q
      unfolding summed_correlations
      sums_at j h =
          let fits = message_fits in
          ap (λ (ys : List ℕ). at ys j)
          (totals_recovered_inverse p known 1 p.t (λ i. vector (p.k + 1) ms i) (λ i. vector p.d1 numbers i) p.d fits
          (λ i b. omega (arith, multiplier_length i b, first_size p, (listed_rules p known).holds1)))
          ∙ tabulate_at p.d _ j h
          ∙ ap (λ (s : ℕ). s % p.q) (sum_cong p.t _ _ (λ i b. correlation_short i j b h))

      -- with the message added, they are c2'
      pub second_sums_lem : (message : List ℕ)
          → message_added p (recovered_inverse p 1 p.d
          (totals p.q (transform_size_of p 1) p.t (λ i. sent p 1 (vector (p.k + 1) ms i)) (λ i. vector p.d1 numbers i))) message
          ≡ second_sums p numbers ms message
      unfolding message_added second_sums second_numbers_of
      second_sums_lem message =
          tabulate_cong p.d _ _
          (λ j h. rw (sums_at j h)
          (mod_add (mod_remainder p.q _) (mod_refl (half_modulus_of p * at (message_bits_of p.d message) j))).same)
