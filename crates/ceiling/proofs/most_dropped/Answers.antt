-- 2^cmp is at least 1, so that 1 can be subtracted.
-- Assumes nothing.
use mathlib.Core.Path.{ap}
use Prim.Native.Nat.{ℕ, ◌-◌}
use native.Mathlib.Omega.{arith}
use lib.Pow.{pow_pos}
use Rattle.ceiling.specs.Ceiling.{most_dropped_of}
use Rattle.ceiling.proofs.most_dropped.Goals as goal

pub power-requires : goal.power-requires
power-requires c = omega (arith, c.requires.kept, c.requires.width_most)

pub overflow_sub-result : goal.overflow_sub-result
overflow_sub-result c = omega (arith, c.power.ensures, pow_pos c.args.p.cmp)

pub returns : goal.returns
unfolding most_dropped_of
returns c = ap (λ (n : ℕ). n - 1) c.power.ensures
