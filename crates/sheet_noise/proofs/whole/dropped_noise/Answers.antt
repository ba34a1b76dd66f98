-- The number recovered is no larger than the one before packing.
-- Assumes nothing.
use mathlib.Core.Path.{◌∙◌}
use native.Mathlib.Omega.{arith}
use mir.Syntax.{w64}
use mir.Val.{SFits}
use mir.Facts.{to_z-of_z}
use Rattle.sheet_noise.specs.Centred.{centred_dropped}
use Rattle.sheet_noise.proofs.Sums.{chop_most, remainder_below}
use borrow.Author.Rules.{rules}
use Rattle.sheet_noise.proofs.whole.dropped_noise.Goals as goal

pub chopped-recovered-requires : goal.chopped-recovered-requires
chopped-recovered-requires c = omega (arith, c.requires.0.kept, c.requires.0.width_most)

pub subtract-requires : goal.subtract-requires
subtract-requires c =
    (omega (arith, chop_most c.args.p.cmp c.args.before, c.chopped-recovered.ensures, c.requires.2), c.requires.2, c.requires.0.small)

pub centred-requires : goal.centred-requires
centred-requires c =
    let kept = c.requires.0 in (
      omega (arith, remainder_below _ _ _ c.subtract.ensures kept.prime.above, kept.odd, c.requires.1),
      omega (arith, kept.odd, kept.small, c.requires.1),
    )

pub returns : goal.returns
unfolding centred_dropped
returns c =
    let fits : SFits w64 c.centred.result = search rules in
    to_z-of_z fits ∙ c.centred.ensures ∙ rw (c.subtract.ensures, c.chopped-recovered.ensures, c.requires.1)
