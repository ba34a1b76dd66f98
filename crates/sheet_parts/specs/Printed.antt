-- What a function that prints a text into a lent slice answers and leaves there.
-- Assumes nothing.
use Rattle.std.specs.Prelude.{◌≡◌, List, ℕ, ◌≤◌, length}
use Rattle.calls.specs.Region.{over}

-- new is old with the text at its front, and count is the text's length, at most 1024
pub record Printed (old text new : List ℕ) (count : ℕ) : Type 0 where
  pub count_is : count ≡ length text
  pub short : count ≤ 1024
  pub text_is : new ≡ over old 0 text
