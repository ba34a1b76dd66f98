-- No size of noise exceeds the ceiling, whatever the key seed, the message and the sealing seed are, and 2^cmp − 1 is the largest size that packing can
-- drop at one place (02, No. 5). The laws hold for refused draws too.
-- Assumes nothing.
use mathlib.Core.Path.{◌≡◌, ap, ◌∙◌}
use mathlib.Core.List.{List}
use Prim.Native.Nat.{ℕ, ◌+◌, ◌-◌, ◌%◌, ◌^◌, ◌≤◌, ◌<◌}
use native.Mathlib.Nat.{mod-eq_of_lt}
use native.Mathlib.Omega.{arith}
use lib.IntN.{ℤ, pos, nat_abs}
use lib.ListN.{length, replicate, length-replicate, get_or-replicate}
use lib.Pow.{pow_pos}
use Rattle.maths.specs.Vector.{at}
use Rattle.maths.proofs.Integer.{nat_abs_neg_ℤ, nat_abs-+ℤ}
use Rattle.maths.proofs.Size.{correlation_ℤ_most}
use Rattle.calls.specs.Region.{vector}
use Rattle.sets.specs.declared.Parameters.{Parameters}
use Rattle.sets.specs.Derived.{multiplier_bound_of}
use Rattle.packing.proofs.Laws.{dropped_below}
use Rattle.ceiling.specs.Ceiling.{most_products_of, most_dropped_of, ceiling}
use Rattle.ceiling.proofs.Laws.{vector_bound, InRange, parts_most, multiplier_most, error_most}
use Rattle.samplers.specs.Seeded.{multipliers_drawn, secret_state}
use Rattle.samplers.proofs.Laws.{errors_drawn_most, multipliers_drawn_most}
use Rattle.scheme.specs.Encryption.{secret_seed, public_key, errors, encrypted_numbers, ciphertext, cipher_second}
use Rattle.scheme.specs.Noise.{product_noise_of, dropped_noise_of, noise}
use Rattle.scheme.specs.Dropped.{packing_noise, LargestDropped}
use Rattle.scheme.specs.Conditions.{Conditions}
use Rattle.scheme.proofs.Conditions.{positive}
use Rattle.scheme.proofs.Places.{encrypted_numbers_length}
use Rattle.scheme.proofs.Bytes.{below_everywhere, encrypted_numbers_below, cipher_second_unpacked}
use Rattle.scheme.proofs.Noise.{packing_noise_is}

-- the products' part of the noise of numbers in range
product_noise_most : (p : Parameters) {r e : List ℤ} → InRange p r e → (j : ℕ) → j < p.d → nat_abs (product_noise_of p r e j) ≤ most_products_of p
unfolding product_noise_of
product_noise_most p {r} {e} given j inside =
    parts_most p _ (λ i h.
    correlation_ℤ_most (p.k + 1) (vector (p.k + 1) r i) (vector (p.d + p.k) e i) (vector_bound p i) p.eta
    (λ l k. multiplier_most p given i l h k) j (λ l k. error_most p given i (j + l) h (omega arith)))

module _ {p : Parameters} (c : Conditions p) where
  -- the size of what packing drops
  packing_size : (c2 : List ℕ) → length c2 ≡ p.d → ((j : ℕ) → at c2 j < p.q) → (j : ℕ) → j < p.d → nat_abs (packing_noise p c2 j) ≡ at c2 j % 2 ^ p.cmp
  packing_size c2 size below j inside = ap nat_abs (packing_noise_is c c2 size below j inside) ∙ nat_abs_neg_ℤ (pos (at c2 j % 2 ^ p.cmp))

  packing_most : (c2 : List ℕ) → length c2 ≡ p.d → ((j : ℕ) → at c2 j < p.q) → (j : ℕ) → j < p.d → nat_abs (packing_noise p c2 j) ≤ most_dropped_of p
  unfolding most_dropped_of
  packing_most c2 size below j inside = omega (arith, packing_size c2 size below j inside, dropped_below p.cmp (at c2 j))

  -- most_dropped_of is the largest
  pub largest_dropped : LargestDropped p (most_dropped_of p)
  unfolding most_dropped_of
  largest_dropped =
      let most : ℕ = 2 ^ p.cmp - 1 in
      let some : 0 < 2 ^ p.cmp = pow_pos p.cmp in
      let residue : most < p.q = omega (arith, c.rules.dropped, c.rules.odd) in
      record {
        at_most = packing_most;
        is_residue = residue;
        reached = λ j inside.
            packing_size (replicate p.d most) (length-replicate p.d most)
            (below_everywhere p.d p.q (replicate p.d most) (positive c) (length-replicate p.d most)
            (λ i h. rw (get_or-replicate p.d i most 0 h) residue)) j inside
            ∙ ap (λ (x : ℕ). x % 2 ^ p.cmp) (get_or-replicate p.d j most 0 inside) ∙ mod-eq_of_lt (omega arith);
      }

  module _ (seed message seedr : List ℕ) (j : ℕ) (inside : j < p.d) where
    -- what is drawn is in range
    drawn_in_range : InRange p (multipliers_drawn p seedr) (errors p (secret_seed p seed))
    unfolding errors multiplier_bound_of
    drawn_in_range =
        record {
          multipliers = multipliers_drawn_most p seedr;
          errors = λ i h. omega (arith, errors_drawn_most p (secret_state p (secret_seed p seed)) i h, c.bytes.four_bits);
        }

    -- the part of the bits dropped
    dropped_part :
        let pk = public_key p seed in
        nat_abs (dropped_noise_of p (cipher_second p (ciphertext p pk message seedr)) (encrypted_numbers p pk message seedr) j) ≤ most_dropped_of p
    unfolding packing_noise
    dropped_part =
        let pk : List ℕ = public_key p seed in
        rw (cipher_second_unpacked c pk message seedr)
        (packing_most (encrypted_numbers p pk message seedr) (encrypted_numbers_length p pk message seedr) (encrypted_numbers_below c pk message seedr) j
        inside)

    -- the noise
    pub noise_most : nat_abs (noise p seed message seedr j) ≤ ceiling p
    unfolding noise ceiling
    noise_most =
        let pk : List ℕ = public_key p seed in
        let products : ℤ = product_noise_of p (multipliers_drawn p seedr) (errors p (secret_seed p seed)) j in
        let dropped : ℤ = dropped_noise_of p (cipher_second p (ciphertext p pk message seedr)) (encrypted_numbers p pk message seedr) j in
        omega (arith, nat_abs-+ℤ products dropped, product_noise_most p drawn_in_range j inside, dropped_part)
