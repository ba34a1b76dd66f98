-- The lengths of a set's slices for callers in C.
-- Assumes nothing.
use Rattle.std.specs.Prelude.{cond, ℕ}
use Rattle.sets.specs.Table.{no_set}

-- a length of a set, and 0 where there is no such set
unfoldable pub length_of : (ℕ → ℕ) → ℕ → ℕ
length_of bytes set = cond (no_set set) 0 (bytes set)
