-- `montgomery::product` meets its contract: the whole product is below q · 2^32.
-- Assumes nothing.
use mathlib.Core.Path.{ap, ◌∙◌}
use native.Mathlib.Omega.{arith}
use Rattle.montgomery.specs.Scaled.{unscale, lazy}
use Rattle.montgomery.proofs.Reduction.{product_below}
use Rattle.montgomery.proofs.Scaled.{unscale_product}
use Rattle.montgomery.proofs.product.Goals as goal

pub step-requires : goal.step-requires
step-requires c =
    omega (arith, product_below c.requires c.ranges.a.fits, c.whole_product.ensures)

pub returns : goal.returns
returns c =
    let q = c.args.reducer.q in
    let whole = c.whole_product.ensures in (
      c.step.ensures.0 ∙ ap (unscale q) whole ∙ unscale_product q c.args.a c.args.w,
      c.step.ensures.1,
      c.step.ensures.2 ∙ ap (lazy q) whole,
    )
