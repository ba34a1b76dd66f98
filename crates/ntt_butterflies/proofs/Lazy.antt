-- The numbers inside a butterfly: the difference that is multiplied, the values of both butterflies, and their bounds.
-- Assumes nothing.
use mathlib.Core.Path.{◌≡◌, sym, ◌∙◌}
use Prim.Native.Nat.{ℕ, ◌+◌, ◌-◌, ◌*◌, ◌%◌, ◌≤◌, ◌<◌}
use native.Mathlib.Nat.{mul-one, zero-mod}
use native.Mathlib.Omega.{arith}
use Rattle.maths.specs.Congruence.{Mod}
use Rattle.maths.specs.Butterfly.{difference}
use Rattle.maths.proofs.Congruence.{mod_refl, mod_trans, mod_add, mod_mul}
use Rattle.maths.proofs.Fourfold.{difference_mod, difference_lift}
use Rattle.montgomery.specs.Scaled.{Modulus}
use Rattle.ntt_butterflies.specs.Lazy.{ButterflyReady, LazyButterfly}

-- there is a modulus
pub some_modulus : {q k : ℕ} → Modulus q k → 0 < q
some_modulus m = omega (arith, m.modulus.some)

-- the product with a difference
pub difference_product : (q a b lift u : ℕ) {r : ℕ} → 0 < q → lift % q ≡ 0 → b ≤ lift → r % q ≡ (a + (lift - b)) * u % q → Mod q r (difference q a b * u)
difference_product q a b lift u some multiple h e =
    mod_trans (record { same = e }) (mod_mul (difference_lift q a b lift some multiple h) (mod_refl u))

-- twice a multiple of q is a multiple of q
pub twice : (q lift : ℕ) → lift % q ≡ 0 → 2 * lift % q ≡ 0
twice q lift multiple =
    let none : Mod q lift 0 = record { same = multiple ∙ sym (zero-mod q) } in
    (mod_mul (mod_refl 2) none).same ∙ zero-mod q

-- a number congruent to the product with a difference, below 2 · q
abbrev pub TurnedBy : ℕ → ℕ → ℕ → ℕ → ℕ → Type 0
TurnedBy q r a b w = Mod q r (difference q a b * w) × (r < 2 * q)

module _ {q lift a b c d : ℕ} (ready : ButterflyReady q lift a b c d) where
  -- with three multipliers
  pub twiddled_values : (t u v f h z₂ z₃ : ℕ) → TurnedBy q f a c t → TurnedBy q h b d u → TurnedBy q z₂ (a + c) (b + d) v → TurnedBy q z₃ f h v
      → LazyButterfly q lift t u v a b c d (a + c + (b + d)) (f + h) z₂ z₃
  twiddled_values t u v f h z₂ z₃ f-is h-is z₂-is z₃-is =
      record {
        values = record {
          zeroth = mod_refl _;
          first = mod_add f-is.0 h-is.0;
          second = z₂-is.0;
          third = mod_trans z₃-is.0 (mod_mul (difference_mod f-is.0 h-is.0) (mod_refl v));
        };
        zeroth_below = omega arith;
        first_below = omega arith;
        second_below = omega arith;
        third_below = omega arith;
      }

  -- with one: the difference of a and c, times 1
  plain_difference : 0 < q → Mod q (a + (lift - c)) (difference q a c * 1)
  plain_difference some = rw mul-one (difference_lift q a c lift some ready.lifted.multiple (omega arith))

  pub plain_values : 0 < q → (u h : ℕ) → TurnedBy q h b d u
      → LazyButterfly q lift 1 u 1 a b c d (a + c + (b + d)) (a + (lift - c) + h) (a + c + (2 * lift - (b + d))) (a + (lift - c) + (2 * lift - h))
  plain_values some u h h-is =
      let double = twice q lift ready.lifted.multiple in
      record {
        values = record {
          zeroth = mod_refl _;
          first = mod_add (plain_difference some) h-is.0;
          second = rw mul-one (difference_lift q (a + c) (b + d) (2 * lift) some double (omega arith));
          third = rw (mul-one (difference q (difference q a c * 1) (difference q b d * u)))
              (mod_trans (difference_lift q (a + (lift - c)) h (2 * lift) some double (omega arith)) (difference_mod (plain_difference some) h-is.0));
        };
        zeroth_below = omega arith;
        first_below = omega arith;
        second_below = omega arith;
        third_below = omega arith;
      }
