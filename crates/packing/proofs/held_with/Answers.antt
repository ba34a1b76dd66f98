-- `packing::held_with` meets its contract: at most 31 bits and 32 more fit a word.
-- Assumes nothing.
use mathlib.Core.Path.{◌≡◌, ap}
use Prim.Native.Nat.{ℕ, ◌+◌, ◌*◌, ◌/◌, ◌%◌, ◌^◌, ◌≤◌, ◌<◌}
use native.Mathlib.Nat.{lt_of_lt_of_le, lt_of_le_of_lt}
use native.Mathlib.Omega.{arith}
use lib.Pow.{shl_lt, shl_exact, shr_le, pow_mono}
use Rattle.packing.proofs.held_with.Goals as goal

-- a high part moved up by less than 32 bits loses none of its own
moved : (number cmp bits : ℕ) → number < 2 ^ 32 → bits < 32 → number / 2 ^ cmp * 2 ^ bits % 2 ^ 64 ≡ number / 2 ^ cmp * 2 ^ bits
moved number cmp bits h b = shl_exact 32 bits 64 (lt_of_le_of_lt (shr_le number cmp) h) (omega arith)

-- and is below 2^63
below : (number cmp bits : ℕ) → number < 2 ^ 32 → bits < 32 → number / 2 ^ cmp * 2 ^ bits < 2 ^ 63
below number cmp bits h b = lt_of_lt_of_le (shl_lt 32 bits (lt_of_le_of_lt (shr_le number cmp) h)) (pow_mono {i = 32 + bits} {j = 63} (omega arith))

pub overflow_add-result : goal.overflow_add-result
overflow_add-result c =
    let a = c.args in
    let low : 2 ^ a.bits ≤ 2 ^ 32 = pow_mono {i = a.bits} {j = 32} (omega arith) in
    omega (arith, moved a.number a.cmp a.bits c.requires.3 c.requires.0, below a.number a.cmp a.bits c.requires.3 c.requires.0)

pub returns : goal.returns
returns c =
    let a = c.args in
    ap (λ (x : ℕ). a.held + x) (moved a.number a.cmp a.bits c.requires.3 c.requires.0)
