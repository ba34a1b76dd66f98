-- Four values of a transform from four numbers: two steps of a transform whose size is halved at each, in one.
-- Assumes nothing.
use Rattle.std.specs.Prelude.{ℕ, ◌+◌, ◌-◌, ◌*◌}
use Rattle.maths.specs.Congruence.{Mod}

-- a − b modulo q
unfoldable pub difference : ℕ → ℕ → ℕ → ℕ
difference q a b = a + (q - 1) * b

-- the first step takes a with c and b with d, and multiplies the differences by t and u; the second multiplies its differences by v
pub record Butterfly (q t u v a b c d z₀ z₁ z₂ z₃ : ℕ) : Type 0 where
  pub zeroth : Mod q z₀ (a + c + (b + d))
  pub first : Mod q z₁ (difference q a c * t + difference q b d * u)
  pub second : Mod q z₂ (difference q (a + c) (b + d) * v)
  pub third : Mod q z₃ (difference q (difference q a c * t) (difference q b d * u) * v)
