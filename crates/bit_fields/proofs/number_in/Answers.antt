-- `bit_fields::number_in` (003, algorithms 20 and 22) meets its contract: a mask of ones takes the bits that a division by a power of two leaves over.
-- Assumes nothing.
use mathlib.Core.Path.{◌≡◌, ◌∙◌}
use Prim.Native.Nat.{ℕ, ◌+◌, ◌-◌, ◌*◌, ◌/◌, ◌%◌, ◌^◌, ◌≤◌}
use native.Mathlib.Nat.{one-mul, mod-lt}
use native.Mathlib.Omega.{arith}
use lib.Bits.{bit_and, and_mask}
use lib.Pow.{shl_exact, pow_pos}
use Rattle.bit_fields.proofs.number_in.Goals as goal

-- a one moved up by fewer bits than a word has
one_moved : (kept : ℕ) → kept ≤ 24 → 1 * 2 ^ kept % 2 ^ 32 ≡ 2 ^ kept
one_moved kept h = shl_exact {a = 1} 1 kept 32 (omega arith) (omega arith) ∙ one-mul (2 ^ kept)

-- the bits under the mask, moved up within the width
masked : (x kept cmp : ℕ) → kept + cmp ≤ 24 → bit_and x (1 * 2 ^ kept % 2 ^ 32 - 1) * 2 ^ cmp % 2 ^ 32 ≡ x % 2 ^ kept * 2 ^ cmp
masked x kept cmp h = rw (one_moved kept (omega arith), and_mask x kept) (shl_exact kept cmp 32 (mod-lt x (pow_pos kept)) (omega arith))

pub overflow_sub-ones : goal.overflow_sub-ones
overflow_sub-ones c = let k = c.args.kept in omega (arith, one_moved k (omega arith), pow_pos k)

pub returns : goal.returns
returns c = let a = c.args in masked (a.word / 2 ^ a.bit) a.kept a.cmp (omega arith)
