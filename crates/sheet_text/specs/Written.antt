-- What a function that appends to a text leaves there, and what a sheet's slices must be.
-- Assumes nothing.
use Rattle.std.specs.Prelude.{◌≡◌, ◌++◌, List, ℕ, ℤ, length}
use Rattle.sheet_order.specs.Order.{Sizes}

-- new is the text old with another one behind it
pub record Appended (old text new : List ℕ) : Type 0 where
  pub is : new ≡ old ++ text

-- noise, bits sent and bits read of one sealing
pub record Sealing (noise : List ℤ) (sent read : List ℕ) : Type 0 where
  pub sizes : Sizes noise
  pub sent_length : length sent ≡ length noise
  pub read_length : length read ≡ length noise
