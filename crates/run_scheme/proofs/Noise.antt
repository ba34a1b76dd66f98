-- Noise that stays small when a small number is stored, and what a byte stands for.
-- Assumes nothing.
use mathlib.Core.List.{List}
use Prim.Native.Nat.{ℕ, ◌<◌, ◌^◌}
use native.Mathlib.Decide.{ℕ_discrete}
use native.Mathlib.Omega.{arith}
use lib.IntN.{ℤ, pos, ◌-ℤ◌, nat_abs}
use lib.ListN.{length, set, replicate, length-replicate, get_or-replicate}
use lib.Seq.{get_or-set_same, get_or-set_other}
use mir.Syntax.{w64}
use mir.Val.{to_z}
use Rattle.maths.proofs.Integer.{nat_abs_neg_ℤ}
use Rattle.maths.proofs.SignedWord.{stored, number_kept, small_fits, natural_is, opposite_is}
use Rattle.sheet_order.specs.Order.{size_at, Sizes}
use Rattle.sheet_order.proofs.Laws.{sizes_small}

-- the number that a byte gives, and its opposite, are small
module _ (n : ℕ) (low : n < 2 ^ 32) where
  pub natural_small : nat_abs (to_z w64 n) < 2 ^ 62
  natural_small = rw (natural_is n low) (omega arith)

  pub opposite_small : nat_abs (stored (pos 0 -ℤ to_z w64 n)) < 2 ^ 62
  opposite_small = rw (opposite_is n low, nat_abs_neg_ℤ (pos n)) (omega arith)

-- a small number stored
pub sizes_stored : (noise : List ℤ) (j : ℕ) (z : ℤ) → j < length noise → nat_abs z < 2 ^ 62 → Sizes noise → Sizes (set noise j (stored z))
unfolding size_at
sizes_stored noise j z inside low sizes = rw (number_kept z (small_fits (omega arith))) (record { small = small })
  where
    small : (place : ℕ) → size_at (set noise j z) place < 2 ^ 62
    small place =
        elim (ℕ_discrete place j) [
          | yes same ↦ rw (same, get_or-set_same noise j z (pos 0) inside) low
          | no other ↦ rw (get_or-set_other noise j place z (pos 0) other) (sizes.small place)
        ]

-- zeros are small
pub sizes_zeros : (n : ℕ) → Sizes (replicate n (pos 0))
sizes_zeros n =
    sizes_small (replicate n (pos 0))
    (λ place inside. rw (get_or-replicate n place (pos 0) (pos 0) (rw length-replicate at inside)) (omega arith))
