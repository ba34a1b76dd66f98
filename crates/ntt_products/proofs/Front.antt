-- A slice with residues at its front may be sent.
-- Assumes nothing.
use mathlib.Core.Path.{◌≡◌, ◌∙◌}
use mathlib.Core.List.{List}
use Prim.Native.Nat.{ℕ, ◌+◌, ◌≤◌}
use native.Mathlib.Nat.{zero-add}
use native.Mathlib.Omega.{arith}
use lib.ListN.{length}
use Rattle.calls.specs.Region.{over}
use Rattle.calls.proofs.Region.{over_inside, over_length}
use Rattle.maths.specs.Vector.{AllBelow}
use Rattle.sets.specs.declared.Parameters.{Parameters}
use Rattle.sets.specs.Derived.{transform_size_of}
use Rattle.ntt_products.specs.Placed.{Placed}

pub front_placed : (p : Parameters) (i : ℕ) (xs ys : List ℕ) → length xs ≡ transform_size_of p i → length ys ≤ transform_size_of p i
    → AllBelow p.q (length ys) ys
    → Placed p i (length ys) (over xs 0 ys)
front_placed p i xs ys size fits below =
    let room : 0 + length ys ≤ length xs = omega arith in
    record {
      size = over_length xs 0 ys room ∙ size;
      inside = fits;
      residues = record { each = λ k h. rw (rw zero-add at (over_inside xs 0 ys room k 0 h)) (below.each k h) };
    }
