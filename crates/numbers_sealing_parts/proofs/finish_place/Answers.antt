-- `numbers_sealing_parts::finish_place` meets its contract: a place of the sum of the middle products, and h times a message bit.
-- Assumes nothing.
use native.Mathlib.Omega.{arith}
use Rattle.residues.proofs.Laws.{remainder_below}
use Rattle.numbers_sealing_parts.proofs.Finished.{finished_at}
use Rattle.numbers_sealing_parts.proofs.finish_place.Goals as goal

pub sum_place-sum-requires : goal.sum_place-sum-requires
sum_place-sum-requires c =
    let pre = c.requires in
    let kept = pre.0 in (
      kept,
      pre.1,
      pre.2,
      omega (arith, kept.most_k),
      omega (arith, kept.most_d, kept.most_k),
      omega (arith, pre.3, kept.most_d, kept.most_k),
    )

pub finish-requires : goal.finish-requires
finish-requires c =
    let pre = c.requires in
    let kept = pre.0 in (
      omega (arith, pre.3, pre.6),
      remainder_below _ c.sum_place-sum.ensures (omega (arith, kept.prime.above)),
      pre.5,
      omega (arith, c.half_modulus-h.ensures, kept.odd, kept.prime.above),
      kept.small,
    )

pub returns : goal.returns
returns c before walked =
    let pre = c.requires in
    let args = c.args in
    c.finish.ensures _ before
    (finished_at args.p args.rs.now args.b.now args.m.now args.j _ _ pre.3 pre.1.size c.sum_place-sum.ensures
    c.half_modulus-h.ensures) walked
