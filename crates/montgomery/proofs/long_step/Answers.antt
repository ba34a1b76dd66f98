-- `montgomery::long_step` meets its contract: the upper 32 bits are replaced by a number below 2 · q, which leaves room for the lower ones.
-- Assumes nothing.
use mathlib.Core.Path.{◌≡◌, ap, ◌∙◌}
use Prim.Native.Nat.{ℕ, ◌+◌, ◌*◌, ◌/◌, ◌%◌, ◌^◌}
use native.Mathlib.Nat.{mod-lt}
use native.Mathlib.Omega.{arith}
use Rattle.montgomery.specs.Scaled as scaled
use Rattle.montgomery.specs.Scaled.{unscale, lazy, lazy_long, Odd}
use Rattle.montgomery.proofs.Lazy.{upper_kept}
use Rattle.montgomery.proofs.long_step.Goals as goal

-- two steps are `lazy_long`
two_steps : (q x s r t : ℕ) → s ≡ 2 ^ 64 % q → r ≡ lazy q (x / 2 ^ 32 * s) → t ≡ lazy q (r + x % 2 ^ 32) → t ≡ lazy_long q x
unfolding scaled.lazy_long
two_steps q x s r t e h l = l ∙ ap (λ (y : ℕ). lazy q (y + x % 2 ^ 32)) (h ∙ ap (λ (y : ℕ). lazy q (x / 2 ^ 32 * y)) e)

-- the step's remainder
kept : (q x s r t : ℕ) → Odd q → s ≡ 2 ^ 64 % q → r % q ≡ x / 2 ^ 32 * unscale q s % q → t % q ≡ unscale q (r + x % 2 ^ 32) → t % q ≡ unscale q x
kept q x s r t o e h l = l ∙ upper_kept o x r (h ∙ ap (λ (y : ℕ). x / 2 ^ 32 * unscale q y % q) e)

pub product-upper-requires : goal.product-upper-requires
product-upper-requires c =
    rw c.requires (mod-lt (2 ^ 64) (omega (arith, c.args.reducer.modulus.modulus.some)))

pub step-requires : goal.step-requires
step-requires c =
    omega (arith, c.product-upper.ensures.1, c.args.reducer.modulus.modulus)

pub returns : goal.returns
returns c =
    let upper = c.product-upper in
    let args = c.args in (
      kept args.reducer.q args.x args.s upper.result _ c.args.reducer.modulus.modulus c.requires upper.ensures.0 c.step.ensures.0,
      c.step.ensures.1,
      two_steps args.reducer.q args.x args.s upper.result _ c.requires upper.ensures.2 c.step.ensures.2,
    )
