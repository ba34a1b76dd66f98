-- `packing::byte_of` (003, algorithms 17 and 19) meets its contract: both numbers together have at most 56 bits, so that none is lost.
-- Assumes nothing.
use Prim.Native.Nat.{ℕ, ◌+◌, ◌*◌, ◌/◌, ◌^◌, ◌≤◌, ◌<◌}
use native.Mathlib.Nat.{mul_comm, mod-eq_of_lt, lt_of_lt_of_le, lt_of_le_of_lt}
use native.Mathlib.Omega.{arith}
use lib.Pow.{shl_lt, shr_le, pow_mono}
use Rattle.packing.proofs.byte_of.Goals.{After-number_at-2}
use Rattle.packing.proofs.byte_of.Goals as goal

-- a high part, moved up
moved : (x cmp kept : ℕ) → x < 2 ^ 32 → kept ≤ 24 → x / 2 ^ cmp * 2 ^ kept < 2 ^ 56
moved x cmp kept h k =
    lt_of_lt_of_le (shl_lt 32 kept (lt_of_le_of_lt (shr_le x cmp) h)) (pow_mono {i = 32 + kept} {j = 56} (omega arith))

-- the second number, moved up
second : (c : After-number_at-2) → c.number_at-2.result / 2 ^ c.args.cmp * 2 ^ c.args.kept < 2 ^ 56
second c = moved c.number_at-2.result c.args.cmp c.args.kept c.number_at-2.ensures.1
    (omega arith)

pub overflow_add-result : goal.overflow_add-result
overflow_add-result c = omega (arith, second c, shr_le c.number_at.result c.args.cmp)

pub returns : goal.returns
returns c =
    rw (
      ← c.number_at.ensures.0,
      ← c.number_at-2.ensures.0,
      mul_comm (2 ^ c.args.kept),
      mod-eq_of_lt {m = 2 ^ 64}
          (lt_of_lt_of_le (second c) (omega arith)),
    )
