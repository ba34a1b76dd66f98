-- The middle product as the correlation of the reversed a with the stored b (003 algorithm 35).
-- Assumes nothing.
use mathlib.Core.Path.{◌≡◌, ◌∙◌}
use mathlib.Core.List.{List}
use Prim.Native.Nat.{ℕ, ◌+◌, ◌-◌, ◌≤◌, ◌<◌}
use native.Mathlib.Omega.{arith}
use lib.ListN.{length, take}
use Rattle.maths.specs.Vector.{at, tabulate, AllBelow}
use Rattle.maths.specs.Product.{middle_product_of}
use Rattle.maths.proofs.Vector.{tabulate_length, tabulate_at, tabulate_cong}
use Rattle.maths.proofs.Congruence.{mod_eq, mod_remainder}
use Rattle.maths.proofs.Product.{reversed, correlation_mod, middle_correlation}
use Rattle.calls.specs.Region.{region, over}
use Rattle.sets.specs.declared.Parameters.{Parameters}
use Rattle.sets.specs.Table.{Listed}
use Rattle.sets.specs.Derived.{transform_size_of}
use Rattle.ntt_products.specs.Stored.{sent_inverse, recovered_inverse, correlations}
use Rattle.ntt_products.specs.Placed.{Placed}
use Rattle.ntt_products.proofs.Recovered.{recovered_inverse_at}
use Rattle.calls.proofs.Parts.{front}
use Rattle.ntt_products.proofs.Front.{front_placed}

module _ (p : Parameters) (known : Listed p) where
  -- so may the reversed a, where a has residues
  pub reversed_placed : (a x : List ℕ) → length x ≡ transform_size_of p 3 → length a ≤ transform_size_of p 3 → AllBelow p.q (length a) a
      → Placed p 3 (length a) (over x 0 (tabulate (length a) (reversed a)))
  reversed_placed a x size fits below =
      let residue : (k : ℕ) → k < length a
      → at (tabulate (length a) (reversed a)) k < p.q = λ k h. rw (tabulate_at (length a) (reversed a) k h)
      (below.each (length a - 1 - k) (omega arith)) in
      rw (tabulate_length (length a) (reversed a)) at
      (front_placed p 3 x (tabulate (length a) (reversed a)) size (rw tabulate_length fits) (record { each = λ k h. residue k (rw tabulate_length at h) }))

  module _ (a b : List ℕ) (d : ℕ) (some : 0 < length a) (fits : length b + 1 ≡ length a + d) (room : length b ≤ transform_size_of p 3) where
    -- the correlations of the reversed a with what is stored of b
    middle_stored : correlations p.q (tabulate (length a) (reversed a))
        (recovered_inverse p 3 (transform_size_of p 3) (sent_inverse p 3 b)) d ≡ middle_product_of p.q a b d
    unfolding correlations
    middle_stored =
        rw (middle_correlation p.q a b d some, tabulate_length)
        (tabulate_cong d _ _ (λ i h.
        (correlation_mod (length a) _ _ _ _ i (λ j l. mod_eq (tabulate_at (length a) (reversed a) j l))
        (λ j l. rw (recovered_inverse_at p known 3 (transform_size_of p 3) b (i + j) (omega arith) (omega arith)) (mod_remainder p.q _))).same))

    -- the places of the correlations
    pub middle_correlated : (x y : List ℕ) → length a ≤ length x
        → take d y ≡ correlations p.q (take (length a) (over x 0 (tabulate (length a) (reversed a))))
        (recovered_inverse p 3 (transform_size_of p 3) (sent_inverse p 3 b)) d
        → region y 0 d ≡ middle_product_of p.q a b d
    unfolding region
    middle_correlated x y inside correlated =
        let numbers : take (length a) (over x 0 (tabulate (length a) (reversed a))) ≡ tabulate (length a)
        (reversed a) = rw (tabulate_length (length a) (reversed a)) at (front x (tabulate (length a) (reversed a)) (rw tabulate_length inside)) in
        correlated ∙ rw numbers middle_stored
