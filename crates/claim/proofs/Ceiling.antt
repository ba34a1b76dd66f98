-- The noise of what is handed in is within the ceiling: one theorem for every set from 0 to 12 and everything that fits (02, No. 5).
-- Assumes nothing.
use mathlib.Core.Path.{◌≡◌}
use mathlib.Core.List.{List}
use Prim.Native.Nat.{ℕ, ◌+◌, ◌-◌, ◌≤◌, ◌<◌}
use native.Mathlib.Omega.{arith}
use borrow.Author.Tests.{leb-true}
use lib.Dec.{leb}
use lib.IntN.{ℤ, pos, nat_abs}
use lib.ListN.{get_or}
use Rattle.maths.proofs.Tests.{both_true}
use Rattle.maths.proofs.Size.{product_ℤ_most}
use Rattle.calls.specs.Outcome.{accepted}
use Rattle.calls.specs.Region.{vector}
use Rattle.calls.proofs.Outcome.{and_then_accepted}
use Rattle.calls.proofs.Region.{vector_length_lem}
use Rattle.sets.specs.declared.Parameters.{Parameters}
use Rattle.sets.specs.Table.{set_of, IsSet}
use Rattle.sets.specs.Derived.{multiplier_count_of, multiplier_bound_of}
use Rattle.sets.proofs.Schemes.{encryption_some, exchange_some}
use Rattle.ceiling.specs.Ceiling.{most_products_of, ceiling}
use Rattle.ceiling.proofs.Laws.{vector_bound, InRange, parts_most, multiplier_most, error_most}
use Rattle.numbers.specs.Noise.{numbers_noise}
use Rattle.scheme.specs.Exchange.{inner_seed, sealing_seed}
use Rattle.scheme.proofs.Conditions.{set_conditions}
use Rattle.scheme.proofs.Sizes.{noise_most}
use Rattle.claim.specs.Claim.{Handed, on_numbers, encryption, exchange, Fits, key_answered, sealing_answered, drawn}
use Rattle.claim.specs.Ceiling.{WithinCeiling}
use Rattle.claim.proofs.Numbers.{Inputs, inputs_told}

module _ (p : Parameters) {a s : List ℕ} {e r : List ℤ} {m : List ℕ} (given : Inputs p a s e r m) where
  -- errors and multipliers that the calls accept are in range
  accepted_in_range : InRange p r e
  accepted_in_range =
      record {
        multipliers = λ i h.
            let size : ℕ = nat_abs (get_or r i (pos 0)) in
            leb-true size (multiplier_bound_of p i)
            (both_true (leb 1 size) (leb size (multiplier_bound_of p i)) (given.multipliers i (omega (arith, given.multipliers_length)))).1;
        errors = λ i h. leb-true _ _ (given.errors i (omega (arith, given.errors_length)));
      }

  -- the noise on them
  numbers_noise_most : (j : ℕ) → j < p.d → nat_abs (numbers_noise p e r j) ≤ most_products_of p
  unfolding numbers_noise multiplier_count_of
  numbers_noise_most j inside =
      parts_most p _ (λ i h.
      product_ℤ_most (p.k + 1) (vector (p.k + 1) r i) (vector (p.d + p.k) e i) (vector_bound p i) p.eta
      (λ l k. multiplier_most p accepted_in_range i l h k) (vector_length_lem (p.k + 1) p.t i r given.multipliers_length h) (p.k + j) (omega arith)
      (λ l k. error_most p accepted_in_range i (p.k + j - l) h (omega arith)))

  -- so it is within the ceiling
  numbers_within : (j : ℕ) → j < p.d → nat_abs (numbers_noise p e r j) ≤ ceiling p
  unfolding ceiling
  numbers_within j inside = omega (arith, numbers_noise_most j inside)

pub within_ceiling : (set : ℕ) (x : Handed) → IsSet set → Fits set x → drawn set x ≡ accepted → WithinCeiling set x
within_ceiling set (on_numbers a s e r m) low fits taken =
    let both = and_then_accepted (key_answered set (on_numbers a s e r m)) (sealing_answered set (on_numbers a s e r m)) taken in
    numbers_within (set_of set) (inputs_told set low a s e r m both.0 both.1)
within_ceiling set (encryption seed message sealing) low fits taken =
    noise_most (set_conditions set (encryption_some set fits.0) low) seed message sealing
within_ceiling set (exchange seed message) low fits taken =
    noise_most (set_conditions set (exchange_some set fits.0) low) (inner_seed (set_of set) seed) message (sealing_seed message)
