-- Centred residues are small, so their product fits.
-- Assumes nothing.
use lib.IntN.{◌*ℤ◌}
use mathlib.Core.Path.{ap₂, ◌∙◌}
use mir.Syntax.{w64}
use mir.Val.{SFits}
use mir.Facts.{to_z-of_z}
use Rattle.sheet_noise.proofs.Words.{centred_small}
use borrow.Author.Rules.{rules}
use Rattle.sheet_noise.proofs.whole.term.Goals as goal

pub times-requires : goal.times-requires
times-requires c =
    let one : SFits w64 c.centred.result = search rules in
    let other : SFits w64 c.centred-2.result = search rules in (
      centred_small _ _ _ one c.centred.ensures c.requires.0 c.requires.2,
      centred_small _ _ _ other c.centred-2.ensures c.requires.1 c.requires.2,
    )

pub returns : goal.returns
returns c =
    let one : SFits w64 c.centred.result = search rules in
    let other : SFits w64 c.centred-2.result = search rules in
    let fits : SFits w64 c.times.result = search rules in
    to_z-of_z fits ∙ c.times.ensures ∙ ap₂ ◌*ℤ◌ (to_z-of_z one ∙ c.centred.ensures) (to_z-of_z other ∙ c.centred-2.ensures)
