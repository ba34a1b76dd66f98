-- `ntt_butterflies::turned_difference` meets its contract: with a multiple of q added, no difference falls below 0.
-- Assumes nothing.
use native.Mathlib.Omega.{arith}
use Rattle.montgomery.specs.Scaled.{unscale}
use Rattle.ntt_butterflies.proofs.Lazy.{some_modulus, difference_product}
use Rattle.ntt_butterflies.proofs.turned_difference.Goals as goal

pub returns : goal.returns
returns c =
    let pre = c.requires in
    let args = c.args in
    let made = c.product.ensures in (
      difference_product args.reducer.q args.a args.b args.lift (unscale args.reducer.q args.w) (some_modulus args.reducer.modulus) pre.1 (omega arith) made.0,
      made.1,
    )
