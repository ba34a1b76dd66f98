-- Laws of the finished c2.
-- Assumes nothing.
use mathlib.Core.Path.{◌≡◌}
use mathlib.Core.List.{List}
use Prim.Native.Nat.{ℕ, ◌+◌, ◌*◌, ◌%◌, ◌<◌}
use lib.ListN.{length}
use Rattle.maths.specs.Vector.{at}
use Rattle.maths.proofs.Vector.{tabulate_length, tabulate_at}
use Rattle.packing.specs.Message.{message_bits_of}
use Rattle.ntt.specs.Rows.{first_row_at}
use Rattle.c2_walk.specs.Finished.{finished}

module _ (q by half δ d : ℕ) (rows message : List ℕ) where
  -- the length
  pub finished_length : length (finished q by half δ d rows message) ≡ d
  unfolding finished
  finished_length = tabulate_length d _

  -- the number at a place
  pub finished_at : (j : ℕ) → j < d → at (finished q by half δ d rows message) j ≡ (first_row_at q by δ rows j + half * at (message_bits_of d message) j) % q
  unfolding finished
  finished_at j h = tabulate_at d _ j h
