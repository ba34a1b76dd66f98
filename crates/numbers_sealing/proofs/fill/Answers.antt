-- `numbers_sealing::fill` meets its contract: both parts come from the residues of the multipliers.
-- Assumes nothing.
use mathlib.Core.Path.{◌∙◌}
use Prim.Native.Nat.{◌+◌}
use native.Mathlib.Omega.{arith}
use Rattle.sets.specs.Derived.{multiplier_count_of}
use Rattle.numbers.proofs.SealingLaws.{residues_family, first_part_from, second_part_from}
use Rattle.numbers_sealing_parts.specs.Finished.{finished}
use Rattle.numbers_sealing.proofs.fill.Goals as goal

pub fill_first-requires : goal.fill_first-requires
unfolding multiplier_count_of
fill_first-requires c =
    let kept = c.requires.0 in
    let given = c.requires.1 in (
      kept,
      rw c.residues_of.ensures
          (residues_family c.args.p.q (c.args.p.k + 1) c.args.p.t c.args.r.now (omega (arith, kept.prime.above))
          given.multipliers_length),
      given.public,
      c.requires.3,
    )

pub fill_second-requires : goal.fill_second-requires
unfolding multiplier_count_of
fill_second-requires c =
    let kept = c.requires.0 in
    let given = c.requires.1 in (
      kept,
      rw c.residues_of.ensures
          (residues_family c.args.p.q (c.args.p.k + 1) c.args.p.t c.args.r.now (omega (arith, kept.prime.above))
          given.multipliers_length),
      given.key,
      given.message_length,
      given.message_bits,
      c.requires.4,
    )

pub returns : goal.returns
unfolding finished
returns c =
    let residues = c.residues_of.ensures in (
      c.fill_first.ensures
          ∙ first_part_from c.args.p c.args.a.now c.args.r.now residues,
      c.fill_second.ensures
          ∙ second_part_from c.args.p c.args.b.now c.args.r.now c.args.m.now residues,
    )
