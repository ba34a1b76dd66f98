-- The steps by which the tables of a transform are made in place.
-- Assumes nothing.
use Rattle.std.specs.Prelude.{◌≡◌, List, ℕ, ◌+◌, ◌*◌, ◌≤◌, ◌<◌, length}
use Rattle.maths.specs.Vector.{at}
use Rattle.montgomery.specs.Scaled.{unscale}

-- place start + i of new, for the first n, has the scaled form of what stands at the place that i names; all other places are as in old
pub record Filled (q start n : ℕ) (place : ℕ → ℕ) (old new : List ℕ) : Type 0 where
  pub size : length new ≡ length old
  pub values : (i : ℕ) → i < n → unscale q (at new (start + i)) ≡ at old (place i)
  pub below : (i : ℕ) → i < n → at new (start + i) < q
  pub before : (i : ℕ) → i < start → at new i ≡ at old i
  pub after : (i : ℕ) → start + n ≤ i → at new i ≡ at old i

-- row r of new has what stands in old at the products of r and the columns; all other places are as in old
pub record TwistedRow (r : ℕ) (old new : List ℕ) : Type 0 where
  pub size : length new ≡ length old
  pub values : (c : ℕ) → c < 256 → at new (r * 256 + c) ≡ at old (r * c)
  pub before : (i : ℕ) → i < r * 256 → at new i ≡ at old i
  pub after : (i : ℕ) → r * 256 + 256 ≤ i → at new i ≡ at old i

-- the same for each row
pub record Twisted (δ : ℕ) (old new : List ℕ) : Type 0 where
  pub size : length new ≡ length old
  pub values : (r c : ℕ) → r < δ → c < 256 → at new (r * 256 + c) ≡ at old (r * c)
  pub after : (i : ℕ) → δ * 256 ≤ i → at new i ≡ at old i
