-- The inverse of the size times 2^32, as the definition of the scaled form has it.
-- Assumes nothing.
use mathlib.Core.Path.{◌∙◌}
use native.Mathlib.Nat.{mod-lt}
use native.Mathlib.Omega.{arith}
use Rattle.maths.proofs.Congruence.{mod_refl, mod_mul, mod_remainder}
use Rattle.montgomery.specs.Scaled.{scale}
use Rattle.ntt_products.proofs.Sizes.{inverse_below, rules_odd}
use Rattle.ntt_products.proofs.scaled_inverse_of.Goals as goal

pub scaled_one-requires : goal.scaled_one-requires
scaled_one-requires c = rules_odd c.args.p c.requires

pub multiply-requires : goal.multiply-requires
multiply-requires c =
    let p = c.args.p in (
      rw c.size_inverse_of.ensures (inverse_below p c.requires c.args.i),
      rw c.scaled_one.ensures (mod-lt _ (omega (arith, c.requires.prime.above))),
      c.requires.small,
    )

pub returns : goal.returns
unfolding scale
returns c =
    c.multiply.ensures
    ∙ rw (c.scaled_one.ensures, c.size_inverse_of.ensures) (mod_mul (mod_refl _) (mod_remainder _ _)).same
