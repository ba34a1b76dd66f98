-- `sponge::lanes::mix_row` meets its contract, lane by lane.
-- Assumes nothing.
use mathlib.Core.List.{[], ◌∷◌}
use Rattle.maths.specs.Vector.{at}
use Rattle.keccak.specs.Lane.{◌⊕◌}
use Rattle.sponge.proofs.lanes.mix_row.Goals as goal

pub returns : goal.returns
returns c =
    let a = c.args.a in
    λ i.
    (at a 0 ⊕ c.lane_of.ensures i)
    ∷ (at a 1 ⊕ c.lane_of-2.ensures i)
    ∷ (at a 2 ⊕ c.lane_of-3.ensures i)
    ∷ (at a 3 ⊕ c.lane_of-4.ensures i)
    ∷ (at a 4 ⊕ c.lane_of-5.ensures i)
    ∷ []
