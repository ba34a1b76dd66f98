-- What is stored with the inverse of a set's root comes back with the root, and the first of the numbers that are recovered.
-- Assumes nothing.
use mathlib.Core.Path.{◌≡◌}
use mathlib.Core.List.{List}
use Prim.Native.Nat.{ℕ, ◌%◌, ◌≤◌, ◌<◌}
use native.Mathlib.Omega.{arith}
use lib.ListN.{take}
use Rattle.maths.specs.Vector.{at}
use Rattle.maths.specs.Transform as transforms
use Rattle.maths.proofs.Vector.{tabulate_take}
use Rattle.maths.proofs.Transform.{recover_send_at}
use Rattle.sets.specs.declared.Parameters.{Parameters}
use Rattle.sets.specs.Table.{Listed}
use Rattle.sets.specs.Derived.{transform_size_of}
use Rattle.ntt_products.specs.Stored.{row_count, sent_inverse, recovered_inverse, recovered}
use Rattle.ntt_products.proofs.Sizes.{size_rows, rows_root_inverse}

module _ (p : Parameters) (known : Listed p) (i m : ℕ) (xs : List ℕ) where
  -- a number of a vector that was stored with the inverse of the root
  pub recovered_inverse_at : (j : ℕ) → j < m → j < transform_size_of p i
      → at (recovered_inverse p i m (sent_inverse p i xs)) j ≡ at xs j % p.q
  unfolding sent_inverse recovered_inverse
  recovered_inverse_at j h k =
      recover_send_at p.row (row_count p i) (rows_root_inverse p known i) m xs j h (omega (arith, size_rows p known i))

-- the first m of all numbers that are recovered
module _ (p : Parameters) (i m : ℕ) (xs : List ℕ) (fits : m ≤ transform_size_of p i) where
  pub recovered_inverse_take : take m (recovered_inverse p i (transform_size_of p i) xs) ≡ recovered_inverse p i m xs
  unfolding recovered_inverse transforms.recover
  recovered_inverse_take = tabulate_take m (transform_size_of p i) _ fits

  pub recovered_take : take m (recovered p i (transform_size_of p i) xs) ≡ recovered p i m xs
  unfolding recovered transforms.recover
  recovered_take = tabulate_take m (transform_size_of p i) _ fits
