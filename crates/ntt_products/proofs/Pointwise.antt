-- Laws of products and totals place by place: lengths, the number at a place, residues.
-- Assumes nothing.
use mathlib.Core.Path.{◌≡◌, sym, ◌∙◌}
use mathlib.Core.List.{List}
use Prim.Native.Nat.{ℕ, ◌+◌, ◌*◌, ◌%◌, ◌<◌}
use native.Mathlib.Nat.{mul_comm, mod-lt}
use lib.ListN.{length, length-map}
use Rattle.maths.specs.Vector.{at, AllBelow}
use Rattle.maths.proofs.Vector.{tabulate_length, tabulate_at, map_at}
use Rattle.maths.proofs.Congruence.{mod_refl, mod_add, mod_remainder}
use Rattle.montgomery.specs.Scaled.{unscale}
use Rattle.ntt_products.specs.Stored.{products, unscaled, accumulated}

module _ (q : ℕ) (x y : List ℕ) where
  -- there are as many products as x has numbers
  pub products_length : length (products q x y) ≡ length x
  unfolding products
  products_length = tabulate_length (length x) _

  -- the product at a place
  pub products_at : (k : ℕ) → k < length x → at (products q x y) k ≡ at x k * unscale q (at y k) % q
  unfolding products
  products_at k h = tabulate_at (length x) _ k h

  -- each is a residue
  pub products_below : 0 < q → AllBelow q (length x) (products q x y)
  products_below some = record { each = λ k h. rw (products_at k h) (mod-lt _ some) }

module _ (q : ℕ) (x : List ℕ) where
  -- unscaled, a vector keeps its length
  pub unscaled_length : length (unscaled q x) ≡ length x
  unfolding unscaled
  unscaled_length = length-map x (unscale q)

  -- the number at a place
  pub unscaled_at : (k : ℕ) → k < length x → at (unscaled q x) k ≡ unscale q (at x k)
  unfolding unscaled
  unscaled_at k h = map_at (unscale q) x k h

module _ (q : ℕ) (total x y : List ℕ) where
  -- a total keeps its length
  pub accumulated_length : length (accumulated q total x y) ≡ length total
  unfolding accumulated
  accumulated_length = tabulate_length (length total) _

  -- the number at a place
  pub accumulated_at : (k : ℕ) → k < length total → at (accumulated q total x y) k ≡ (at total k + at x k * at y k) % q
  unfolding accumulated
  accumulated_at k h = tabulate_at (length total) _ k h

-- the number at a place where x is unscaled: y is multiplied by a number in scaled form
pub accumulated_scaled : (q : ℕ) (total x y : List ℕ) (k : ℕ) → k < length total → k < length x
    → at (accumulated q total (unscaled q x) y) k ≡ (at total k + at y k * unscale q (at x k) % q) % q
accumulated_scaled q total x y k h l =
    accumulated_at q total (unscaled q x) y k h
    ∙ rw (unscaled_at q x k l, mul_comm (unscale q (at x k))) (sym (mod_add (mod_refl (at total k)) (mod_remainder q (at y k * unscale q (at x k)))).same)
