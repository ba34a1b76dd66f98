-- Both parts are small, so their sum fits.
-- Assumes nothing.
use lib.IntN.{◌+ℤ◌}
use mathlib.Core.Path.{ap₂, ◌∙◌}
use mir.Syntax.{w64}
use mir.Val.{SFits}
use mir.Facts.{to_z-of_z}
use Rattle.sheet_noise.specs.Centred.{centred_noise}
use Rattle.sheet_noise.proofs.Sums.{product_most, dropped_most, held_small}
use borrow.Author.Rules.{rules}
use Rattle.sheet_noise.proofs.noise_at.Goals as goal

pub product_noise-product-requires : goal.product_noise-product-requires
product_noise-product-requires c = let pre = c.requires in (pre.0, pre.1, c.half_modulus-half.ensures, pre.2, pre.3, pre.4, pre.5, pre.7)

pub dropped_noise-dropped-requires : goal.dropped_noise-dropped-requires
dropped_noise-dropped-requires c = (c.requires.0, c.half_modulus-half.ensures, c.requires.6)

pub plus-requires : goal.plus-requires
plus-requires c =
    let pre = c.requires in
    let one : SFits w64 c.product_noise-product.result = search rules in
    let other : SFits w64 c.dropped_noise-dropped.result = search rules in (
      held_small one c.product_noise-product.ensures
          (product_most c.args.p pre.0 pre.1 c.args.multipliers.now c.args.errors.now pre.4 pre.5 c.args.j),
      held_small other c.dropped_noise-dropped.ensures (dropped_most c.args.p pre.0 pre.1 c.args.before),
    )

pub returns : goal.returns
unfolding centred_noise
returns c =
    let one : SFits w64 c.product_noise-product.result = search rules in
    let other : SFits w64 c.dropped_noise-dropped.result = search rules in
    let fits : SFits w64 c.plus.result = search rules in
    to_z-of_z fits ∙ c.plus.ensures ∙ ap₂ ◌+ℤ◌ (to_z-of_z one ∙ c.product_noise-product.ensures) (to_z-of_z other ∙ c.dropped_noise-dropped.ensures)
