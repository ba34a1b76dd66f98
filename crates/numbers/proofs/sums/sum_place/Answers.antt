-- `numbers::sums::sum_place` meets its contract: each turn adds the product of one pair of vectors.
-- Assumes nothing.
use mathlib.Core.Path.{ap, ◌∙◌}
use Prim.Native.Nat.{ℕ, ◌-◌, ◌%◌}
use native.Mathlib.Omega.{arith}
use Rattle.residues.proofs.Laws.{remainder_below}
use Rattle.numbers.proofs.SealingLaws.{summed_none, summed_more, summed_all, sum_of_products_terms}
use Rattle.numbers.proofs.sums.sum_place.Goals as goal

pub loop-i-init : goal.loop-i-init
loop-i-init c = summed_none

pub add-sum-requires : goal.add-sum-requires
add-sum-requires c =
    let kept = c.requires.0 in (
      remainder_below _ c.loop-i.invariant.exact (omega (arith, kept.prime.above)),
      remainder_below _ c.term_place.ensures
          (omega (arith, kept.prime.above)),
      kept.small,
    )

pub loop-i-preserved : goal.loop-i-preserved
loop-i-preserved c = summed_more c.loop-i.invariant (omega arith) c.term_place.ensures c.add-sum.ensures

pub returns : goal.returns
returns c =
    summed_all c.loop-i.invariant (omega arith)
    ∙ ap (λ (x : ℕ). x % c.args.p.q)
    (sum_of_products_terms c.args.p.t c.args.m c.args.xs.now c.args.n c.args.ys.now c.args.place)
