-- Butterflies, two steps of the transform in one (003 section 3.2.2), with lazy reduction (02, No. 4): congruent values with a bound instead of residues.
-- Assumes nothing.
use Rattle.std.specs.Prelude.{◌≡◌, ℕ, ◌*◌, ◌%◌, ◌^◌, ◌≤◌, ◌<◌}
use Rattle.maths.specs.Butterfly.{Butterfly}

-- a multiple of q that numbers below 2 · q are below, with room for four of itself in 32 bits
pub record Lift (q lift : ℕ) : Type 0 where
  pub multiple : lift % q ≡ 0
  pub two_q : 2 * q ≤ lift
  pub room : 4 * lift < 2 ^ 32

-- four numbers below lift
pub record ButterflyReady (q lift a b c d : ℕ) : Type 0 where
  pub lifted : Lift q lift
  pub a_below : a < lift
  pub b_below : b < lift
  pub c_below : c < lift
  pub d_below : d < lift

-- a butterfly whose values are below 4 · lift
pub record LazyButterfly (q lift t u v a b c d z₀ z₁ z₂ z₃ : ℕ) : Type 0 where
  pub values : Butterfly q t u v a b c d z₀ z₁ z₂ z₃
  pub zeroth_below : z₀ < 4 * lift
  pub first_below : z₁ < 4 * lift
  pub second_below : z₂ < 4 * lift
  pub third_below : z₃ < 4 * lift
