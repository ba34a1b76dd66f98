-- What the two calls have checked before they work.
-- Assumes nothing.
use Rattle.std.specs.Prelude.{◌≡◌, List, ℕ, ◌*◌, ◌≤◌, length}
use Rattle.maths.specs.Vector.{AllBelow}
use Rattle.sets.specs.declared.Parameters.{Parameters}
use Rattle.sets.specs.Derived.{transform_size_of}

-- the places of transform number i as D1 rows of D2 residues, of which m are read or written
pub record Split (p : Parameters) (i D1 D2 m : ℕ) (input : List ℕ) : Type 0 where
  pub size : D1 * D2 ≡ transform_size_of p i
  pub some : 1 ≤ m
  pub within : m ≤ D1
  pub places : length input ≡ D1 * D2
  pub residues : AllBelow p.q (length input) input

-- the same for rows of 256 numbers, whatever their number
pub record Wide (p : Parameters) (i m : ℕ) (input : List ℕ) : Type 0 where
  pub places : length input ≡ transform_size_of p i
  pub within : m * 256 ≤ length input
  pub residues : AllBelow p.q (length input) input
