-- The walk over c2 that finishes one place after the other, in both sealings (01, Sealing; 003, algorithm 2, line 9).
-- Assumes nothing.
use Rattle.std.specs.Prelude.{◌≡◌, refl, List, [], ◌∷◌, ◌++◌, ℕ, ◌≤◌, length, take, drop}
use Rattle.std.proofs.Common.{arith}

-- c2 after j places of the walk: the places done hold the finished numbers, the rest what they held before the walk
pub record Walked (finished before : List ℕ) (j : ℕ) (c2 : List ℕ) : Type 0 where
  pub size : length before ≡ length finished
  pub within : j ≤ length finished
  pub places : c2 ≡ take j finished ++ drop j before

-- two places of three
walked_example : Walked (7 ∷ 8 ∷ 9 ∷ []) (1 ∷ 2 ∷ 3 ∷ []) 2 (7 ∷ 8 ∷ 3 ∷ [])
walked_example = record { size = refl; within = omega arith; places = refl }
