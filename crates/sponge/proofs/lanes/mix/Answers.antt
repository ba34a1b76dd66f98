-- `sponge::lanes::mix` mixes a block in, row by row.
-- Assumes nothing.
use mathlib.Core.List.{[], ◌∷◌}
use Rattle.sponge.specs.Sponge.{mixed}
use Rattle.sponge.proofs.lanes.mix.Goals as goal

pub returns : goal.returns
unfolding mixed
returns c =
    λ i.
    c.mix_row.ensures i
    ∷ c.mix_row-2.ensures i
    ∷ c.mix_row-3.ensures i
    ∷ c.mix_row-4.ensures i
    ∷ c.mix_row-5.ensures i
    ∷ []
