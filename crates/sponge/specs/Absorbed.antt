-- A sponge between two calls: a state, a block of 136 bytes whose first bytes wait, and how many of them wait.
-- Assumes nothing.
use Rattle.std.specs.Prelude.{◌≡◌, List, ◌++◌, ℕ, ◌+◌, ◌*◌, ◌%◌, ◌<◌, length, take, drop}
use Rattle.sponge.specs.Sponge.{absorbed}

-- the block is whole, and not all of its bytes wait
pub record Ready (block : List ℕ) (at : ℕ) : Type 0 where
  pub whole : length block ≡ 136
  pub below : at < 136

-- the sponge has taken in m: the state after its whole blocks, and its other bytes wait
pub record Absorbed (m : List ℕ) (a : List (List ℕ)) (block : List ℕ) (at : ℕ) : Type 0 where
  pub blocks : ℕ
  pub size : length m ≡ 136 * blocks + at
  pub after : a ≡ absorbed m blocks
  pub waiting : take at block ≡ drop (136 * blocks) m

-- from one sponge to the next: whatever was taken in, these bytes are taken in after it
pub record Fed (a : List (List ℕ)) (block : List ℕ) (at : ℕ) (bytes : List ℕ) (a' : List (List ℕ)) (block' : List ℕ) (at' : ℕ) : Type 0 where
  pub ready : Ready block' at'
  pub place : at' ≡ (at + length bytes) % 136
  pub takes : (m : List ℕ) → Absorbed m a block at → Absorbed (m ++ bytes) a' block' at'
