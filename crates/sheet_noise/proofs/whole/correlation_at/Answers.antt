-- Each turn adds one product.
-- Assumes nothing.
use mathlib.Core.Path.{◌∙◌}
use native.Mathlib.Omega.{arith}
use mir.Syntax.{w64}
use mir.Val.{SFits}
use Rattle.sheet_noise.specs.Centred.{centred_correlation}
use Rattle.sheet_noise.proofs.Sums.{summing_none, summing_more, summing_all, summing_small, term_is, term_most, held_small}
use borrow.Author.Rules.{rules}
use Rattle.sheet_noise.proofs.whole.correlation_at.Goals as goal

pub loop-l-init : goal.loop-l-init
loop-l-init c = summing_none _ _

pub term-product-requires : goal.term-product-requires
term-product-requires c = let pre = c.requires in (pre.6.each _, pre.7.each _, pre.5)

pub plus-sum-requires : goal.plus-sum-requires
plus-sum-requires c =
    let pre = c.requires in
    let each =
    term_most c.args.half c.args.multipliers.now c.args.first c.args.errors.now c.args.place pre.5 pre.6
    pre.7 in
    let fits : SFits w64 c.term-product.result = search rules in (
      summing_small _ _ 70368744177664 c.loop-l.invariant each (omega (arith, pre.2)),
      held_small fits (c.term-product.ensures
          ∙ term_is c.args.half c.args.multipliers.now c.args.first c.args.errors.now c.args.place
          c.loop-l.l) (omega (arith, each c.loop-l.l)),
    )

pub loop-l-preserved : goal.loop-l-preserved
loop-l-preserved c =
    let one : SFits w64 c.term-product.result = search rules in
    let fits : SFits w64 c.plus-sum.result = search rules in
    summing_more _ _ c.plus-sum.result c.term-product.result c.loop-l.invariant (omega arith) fits one
    c.plus-sum.ensures (c.term-product.ensures
    ∙ term_is c.args.half c.args.multipliers.now c.args.first c.args.errors.now c.args.place
    c.loop-l.l)

pub returns : goal.returns
unfolding centred_correlation
returns c = summing_all _ _ c.loop-l.invariant (omega arith)
