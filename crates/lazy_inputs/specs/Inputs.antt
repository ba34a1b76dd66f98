-- For each set an input at which the smallest reduction step gives q or more (02, No. 4): a number below 2 · q and a residue, as a butterfly may hand it both.
-- Assumes nothing.
use Rattle.std.specs.Prelude.{List, [], ◌∷◌, ℕ, ◌*◌, ◌≤◌, ◌<◌, get_or}
use Rattle.montgomery.specs.Scaled.{lazy}

-- a number and a multiplier, whose product is reduced
pub record Input : Type 0 where
  pub number : ℕ
  pub multiplier : ℕ

-- a product in range, and the step gives q or more
pub record ReachesModulus (q : ℕ) (x : Input) : Type 0 where
  pub number_below : x.number < 2 * q
  pub multiplier_below : x.multiplier < q
  pub reaches : q ≤ lazy q (x.number * x.multiplier)

abbrev input : ℕ → ℕ → Input
input a w = record { number = a; multiplier = w }

-- one input for each set, set 0 first
unfoldable pub inputs : List Input
inputs =
    input 17 1 ∷
    input 481050 240612 ∷
    input 168624 84396 ∷
    input 171663 85966 ∷
    input 601844 301054 ∷
    input 1474227 737231 ∷
    input 2395835 1198061 ∷
    input 941868 471037 ∷
    input 228709 115166 ∷
    input 234972 118272 ∷
    input 859765 430047 ∷
    input 1566465 783354 ∷
    input 2395835 1198061 ∷
    []

-- the input of a set
unfoldable pub input_of : ℕ → Input
input_of set = get_or inputs set (input 0 0)
