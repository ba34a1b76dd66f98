-- c2 as the walk over it finishes it (003, algorithm 2, line 9), from the rows of an inverse transform.
-- Assumes nothing.
use Rattle.std.specs.Prelude.{◌≡◌, refl, List, [], ◌∷◌, ℕ, ◌+◌, ◌*◌, ◌%◌, ◌≤◌, ◌<◌, length}
use Rattle.maths.specs.Vector as vectors
use Rattle.maths.specs.Vector.{at, tabulate, AllBelow}
use Rattle.maths.specs.Sum as sums
use Rattle.montgomery.specs.Scaled as scaled
use Rattle.packing.specs.Digits as packed
use Rattle.packing.specs.Message as messages
use Rattle.packing.specs.Message.{message_bits_of}
use Rattle.ntt.specs.Rows as row_sums
use Rattle.ntt.specs.Rows.{first_row_at}

-- what the walk asks beside a modulus: the scale of the inverse transform and half the modulus as residues, δ rows of 256 numbers, and d places for c2
pub record WalkReady (q by half δ : ℕ) (rows : List ℕ) (d : ℕ) : Type 0 where
  pub by_below : by < q
  pub half_below : half < q
  pub few_rows : δ ≤ 16
  pub size : length rows ≡ δ * 256
  pub below : AllBelow (2 * q) (δ * 256) rows
  pub one_row : d ≤ 256

-- d numbers: those of the first row, each with half times its message bit
unfoldable pub finished : ℕ → ℕ → ℕ → ℕ → ℕ → List ℕ → List ℕ → List ℕ
finished q by half δ d rows message = tabulate d (λ j. (first_row_at q by δ rows j + half * at (message_bits_of d message) j) % q)

-- 2^32 is 1 modulo 5, and the bits of 1 are 1, 0, ..
finished_example : finished 5 1 2 1 2 (1 ∷ 2 ∷ []) (1 ∷ []) ≡ 3 ∷ 2 ∷ []
unfolding finished vectors.tabulate row_sums.first_row_at sums.sum scaled.unscale messages.message_bits_of packed.unpack packed.digits packed.value
finished_example = refl
