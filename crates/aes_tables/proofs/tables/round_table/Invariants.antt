-- `aes_tables::tables::round_table` meets its contract: after i turns the first i entries are right.
-- Assumes nothing.
use mathlib.Core.Path.{◌≡◌}
use Prim.Native.Nat.{ℕ, ◌≤◌, ◌<◌}
use lib.ListN.{length}
use Rattle.maths.specs.Vector.{at}
use Rattle.aes_tables.specs.Substitution.{sbox}
use Rattle.aes_tables.specs.Words.{word, mixed_byte_of}
use Rattle.aes_tables.proofs.tables.round_table.Given as goal

abbrev pub invariant-loop-i : goal.invariant-loop-i
invariant-loop-i l = (l.i ≤ 256) × (length l.entry-items ≡ 256) × ((b : ℕ) → b < l.i → word (at l.entry-items b) ≡ mixed_byte_of (sbox b))
