-- `montgomery::step` meets its contract: the remainder of q by 2^31 is q, and the sum is a multiple of 2^32 below 2 · q · 2^32.
-- Assumes nothing.
use mathlib.Core.Path.{◌≡◌}
use Prim.Native.Nat.{ℕ, ◌+◌, ◌*◌, ◌%◌, ◌^◌, ◌<◌}
use native.Mathlib.Nat.{mod-lt, mod-eq_of_lt}
use native.Mathlib.Omega.{arith}
use Rattle.montgomery.specs.Scaled.{Modulus}
use Rattle.montgomery.proofs.Reduction.{product_below, multiplier, sum_below, quotient_below, quotient_is}
use Rattle.montgomery.proofs.Lazy.{quotient_lazy}
use Rattle.montgomery.proofs.step.Goals as goal

-- q is below 2^31
whole : {q k : ℕ} → Modulus q k → q % 2147483648 ≡ q
whole m = mod-eq_of_lt (omega (arith, m.modulus.small))

-- the sum that is divided
below : {q k : ℕ} (x : ℕ) → Modulus q k → x < q * 2 ^ 32 → x + multiplier 4294967296 k x * q < 2 * q * 4294967296
below {q} {k} x m h = sum_below 4294967296 q k m.inverse x (omega arith) h

pub overflow_mul-m : goal.overflow_mul-m
overflow_mul-m c = record { fits = product_below {b = 4294967296} {d = 4294967296} (mod-lt c.args.x (omega arith)) (omega arith) }

pub overflow_mul-result : goal.overflow_mul-result
overflow_mul-result c = rw (whole c.args.reducer.modulus) (omega (arith, below c.args.x c.args.reducer.modulus c.requires))

pub overflow_add-result : goal.overflow_add-result
overflow_add-result c = rw (whole c.args.reducer.modulus) (omega (arith, below c.args.x c.args.reducer.modulus c.requires))

pub overflow_cast-result-2 : goal.overflow_cast-result-2
overflow_cast-result-2 c =
    rw (whole c.args.reducer.modulus)
    (omega (arith, quotient_below 4294967296 c.args.reducer.q c.args.reducer.k c.args.reducer.modulus.inverse c.args.x (omega arith) c.requires))

pub returns : goal.returns
returns c =
    rw (whole c.args.reducer.modulus) (
      quotient_is c.args.x c.args.reducer.modulus,
      quotient_below 4294967296 c.args.reducer.q c.args.reducer.k c.args.reducer.modulus.inverse c.args.x (omega arith) c.requires,
      quotient_lazy c.args.x c.args.reducer.modulus,
    )
