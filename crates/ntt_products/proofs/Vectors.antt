-- Vectors with the places of a transform: what may be sent, recovered, multiplied and accumulated, and what comes of it.
-- Assumes nothing.
use mathlib.Core.Path.{◌≡◌, sym, ◌∙◌}
use mathlib.Core.List.{List}
use Prim.Native.Nat.{ℕ, ◌≤◌, ◌<◌}
use native.Mathlib.Omega.{arith}
use lib.ListN.{length}
use Rattle.maths.specs.Transform.{send, recover}
use Rattle.maths.proofs.Transform.{send_length, recover_length}
use Rattle.maths.specs.Vector.{AllBelow}
use Rattle.ntt.proofs.Whole.{send_below, recover_below}
use Rattle.sets.specs.declared.Parameters.{Parameters}
use Rattle.sets.specs.Table.{Listed}
use Rattle.sets.specs.Derived.{transform_size_of}
use Rattle.ntt_products.specs.Stored.{row_count, sent, sent_inverse, recovered_inverse, recovered, products}
use Rattle.ntt_products.specs.Placed.{Placed}
use Rattle.ntt_products.proofs.Pointwise.{products_length, products_below}
use Rattle.ntt_products.proofs.Sizes.{size_rows, some_modulus}

-- xs has all places of transform number i, with a residue at each
abbrev pub Stored : Parameters → ℕ → List ℕ → Type 0
Stored p i xs = Placed p i (transform_size_of p i) xs

module _ (p : Parameters) (known : Listed p) (i : ℕ) where
  -- there is a modulus
  some_residue : 0 < p.q
  some_residue = omega (arith, some_modulus p known i)

  -- what is sent with any root
  send_stored : (w : ℕ) (xs : List ℕ) → Stored p i (send p.q p.row (row_count p i) w xs)
  send_stored w xs =
      record {
        size = send_length p.q p.row (row_count p i) w xs ∙ size_rows p known i;
        inside = omega arith;
        residues = rw (size_rows p known i) at (send_below p.q p.row (row_count p i) w xs some_residue);
      }

  -- what is recovered with any root
  recover_stored : (w e : ℕ) (xs : List ℕ)
      → Stored p i (recover p.q p.row (row_count p i) w e (transform_size_of p i) xs)
  recover_stored w e xs =
      record {
        size = recover_length p.q p.row (row_count p i) w e (transform_size_of p i) xs;
        inside = omega arith;
        residues = recover_below p.q p.row (row_count p i) w e (transform_size_of p i) xs some_residue
            (omega (arith, size_rows p known i));
      }

  -- a vector that is sent
  pub sent_placed : (xs : List ℕ) → Stored p i (sent p i xs)
  unfolding sent
  sent_placed xs = send_stored _ xs

  -- with the inverse of the root
  pub sent_inverse_placed : (xs : List ℕ) → Stored p i (sent_inverse p i xs)
  unfolding sent_inverse
  sent_inverse_placed xs = send_stored _ xs

  -- a vector that is recovered
  pub recovered_inverse_placed : (xs : List ℕ) → Stored p i (recovered_inverse p i (transform_size_of p i) xs)
  unfolding recovered_inverse
  recovered_inverse_placed xs = recover_stored _ _ xs

  -- with the inverse of the root
  pub recovered_placed : (xs : List ℕ) → Stored p i (recovered p i (transform_size_of p i) xs)
  unfolding recovered
  recovered_placed xs = recover_stored _ _ xs

  -- the first m of the numbers that are recovered are residues
  pub recovered_below : (m : ℕ) (xs : List ℕ) → m ≤ transform_size_of p i → AllBelow p.q m (recovered p i m xs)
  unfolding recovered
  recovered_below m xs fits = recover_below _ _ _ _ _ m xs some_residue (rw (size_rows p known i) fits)

  -- the products with another vector
  pub products_placed : {x : List ℕ} (y : List ℕ) → Stored p i x → Stored p i (products p.q x y)
  products_placed {x} y placed =
      record {
        size = products_length p.q x y ∙ placed.size;
        inside = omega arith;
        residues = rw placed.size at (products_below p.q x y some_residue);
      }

  -- two vectors that may be multiplied
  pub factors : {x y new : List ℕ} → new ≡ x → Stored p i x → Stored p i y → (length y ≡ length new) × AllBelow p.q (length new) y
  factors same x y = rw same (y.size ∙ sym x.size, rw x.size y.residues)

  -- a total to which products may be added, of which x has one factor in scaled form and y the other
  pub addends : {total x y : List ℕ} → Stored p i total → Stored p i x → Stored p i y
      → (length x ≡ length total) × (length y ≡ length total) × AllBelow p.q (length total) total
      × AllBelow p.q (length total) x
  addends total x y =
      (x.size ∙ sym total.size, y.size ∙ sym total.size, rw total.size total.residues, rw total.size x.residues)
