-- `sheet_bench::steps::fill_noise` meets its contract: both places are written.
-- Assumes nothing.
use mathlib.Core.Path.{ap₂, ◌∙◌}
use mathlib.Core.List.{[], ◌∷◌}
use lib.IntN.{ℤ}
use mir.Syntax.{w64}
use mir.Val.{SFits}
use mir.Facts.{to_z-of_z}
use Rattle.sheet_bench.proofs.NoiseLaws.{both_written}
use borrow.Author.Rules.{rules}
use Rattle.sheet_bench.proofs.steps.fill_noise.Goals as goal

pub returns : goal.returns
returns c =
    let first : SFits w64 c.noise_place.result = search rules in
    let second : SFits w64 c.noise_place-2.result = search rules in
    both_written c.args.noise.now _ _ c.requires.1
    ∙ ap₂ (λ (x : ℤ) (y : ℤ). x ∷ y ∷ []) (to_z-of_z first ∙ c.noise_place.ensures) (to_z-of_z second ∙ c.noise_place-2.ensures)
