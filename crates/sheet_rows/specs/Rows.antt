-- What the slices of a sheet's rows hold, in the contracts of the inner functions (01, The bench sheet).
-- Assumes nothing.
use Rattle.std.specs.Prelude.{◌≡◌, List, ℕ, ℤ}
use Rattle.sets.specs.declared.Parameters.{Parameters}
use Rattle.packing.specs.Message.{message_bits_of}
use Rattle.draws.specs.Calls.{in_turn}
use Rattle.scheme.specs.Noise.{noise}
use Rattle.scheme.specs.Bits.{message_read}
use Rattle.sheet_order.specs.Order.{Sizes}
use Rattle.sheet_rows.specs.Input.{row_noise, row_sent, row_read}

-- the rows of an encryption set, from a key seed, a message and a sealing seed: the noise of every place, the bits sent, and the bits that decrypt reads
unfoldable pub seeded_noise : Parameters → List ℕ → List ℕ → List ℕ → List ℤ
seeded_noise p seed message sealing = in_turn (noise p seed message sealing) 0 p.d

unfoldable pub seeded_sent : Parameters → List ℕ → List ℕ
seeded_sent p message = message_bits_of p.d message

unfoldable pub seeded_read : Parameters → List ℕ → List ℕ → List ℕ → List ℕ
seeded_read p seed message sealing = message_bits_of p.d (message_read p seed message sealing)

-- noise, sent and read are these lists, and every size of noise is small enough to be printed
pub record Rows (noises : List ℤ) (bits_sent bits_read : List ℕ) (noise : List ℤ) (sent read : List ℕ) : Type 0 where
  pub noise_is : noise ≡ noises
  pub sizes : Sizes noise
  pub sent_is : sent ≡ bits_sent
  pub read_is : read ≡ bits_read

-- these lists are the rows of a key seed, a message and a sealing seed
abbrev pub SeededRows : Parameters → List ℕ → List ℕ → List ℕ → List ℤ → List ℕ → List ℕ → Type 0
SeededRows p seed message sealing noise sent read =
    Rows (seeded_noise p seed message sealing) (seeded_sent p message) (seeded_read p seed message sealing) noise sent read

-- these lists are the rows of an input
abbrev pub InputRows : ℕ → List ℕ → List ℤ → List ℕ → List ℕ → Type 0
InputRows set input noise sent read = Rows (row_noise set input) (row_sent set input) (row_read set input) noise sent read
