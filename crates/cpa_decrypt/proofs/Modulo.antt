-- Numbers taken modulo q: their places, and that what a stored vector recovers to depends only on its numbers modulo q.
-- Assumes nothing.
use mathlib.Core.Path.{◌≡◌, sym, ◌∙◌}
use mathlib.Core.List.{List}
use Prim.Native.Nat.{ℕ, ◌%◌, ◌≤◌, ◌<◌}
use native.Mathlib.Nat.{mod-lt}
use native.Mathlib.Decide.{dec_lt}
use native.Mathlib.Omega.{arith}
use lib.ListN.{length, length-map}
use Rattle.maths.specs.Vector.{at, AllBelow}
use Rattle.maths.specs.Congruence.{Mod}
use Rattle.maths.proofs.Vector.{at_past, map_at}
use Rattle.maths.proofs.Congruence.{mod_eq, mod_remainder}
use Rattle.maths.proofs.Transform.{recover_mod}
use Rattle.sets.specs.declared.Parameters.{Parameters}
use Rattle.sets.specs.Table.{Listed}
use Rattle.sets.specs.Derived.{transform_size_of}
use Rattle.ntt_products.specs.Stored.{row_count, root_inverse_of, size_inverse_of, recovered}
use Rattle.ntt_products.specs.Placed.{Placed}
use Rattle.ntt_products.proofs.Laws.{size_rows, some_modulus}
use Rattle.cpa_decrypt.specs.Decrypted.{reduced}

module _ (q : ℕ) (xs : List ℕ) where
  -- as many numbers as before
  pub reduced_length : length (reduced q xs) ≡ length xs
  unfolding reduced
  reduced_length = length-map xs _

  -- the number at a place
  pub reduced_at : (j : ℕ) → j < length xs → at (reduced q xs) j ≡ at xs j % q
  unfolding reduced
  reduced_at j h = map_at (λ x. x % q) xs j h

  -- each is a residue
  pub reduced_below : 0 < q → AllBelow q (length xs) (reduced q xs)
  reduced_below some = record { each = λ j h. rw (reduced_at j h) (mod-lt _ some) }

  -- it is congruent to the number that was there, past the end too
  reduced_mod : (j : ℕ) → Mod q (at (reduced q xs) j) (at xs j)
  reduced_mod j =
      elim (dec_lt j (length xs)) [
        | yes inside ↦ rw (reduced_at j inside) (mod_remainder q _)
        | no past ↦ mod_eq (at_past (reduced q xs) j (omega (arith, reduced_length)) ∙ sym (at_past xs j (omega arith)))
      ]

-- numbers of q or more count modulo q
pub recovered_reduced : (p : Parameters) → Listed p → (i m : ℕ) (xs : List ℕ) → m ≤ transform_size_of p i
    → recovered p i m (reduced p.q xs) ≡ recovered p i m xs
unfolding recovered
recovered_reduced p known i m xs fits =
    recover_mod p.q p.row (row_count p i) (root_inverse_of p i) (size_inverse_of p i) m (reduced p.q xs) xs (omega (arith, size_rows p known i))
    (reduced_mod p.q xs)

-- a vector with the places of a transform may be recovered once its numbers are taken modulo q
pub reduced_placed : (p : Parameters) → Listed p → (i : ℕ) (xs : List ℕ) → length xs ≡ transform_size_of p i
    → Placed p i (transform_size_of p i) (reduced p.q xs)
reduced_placed p known i xs size =
    record {
      size = reduced_length p.q xs ∙ size;
      inside = omega arith;
      residues = rw size at (reduced_below p.q xs (omega (arith, some_modulus p known i)));
    }
