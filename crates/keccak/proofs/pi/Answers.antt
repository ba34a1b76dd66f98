-- `keccak::pi` is π, row by row.
-- Assumes nothing.
use mathlib.Core.List.{[], ◌∷◌}
use Rattle.keccak.specs.Keccak.{π}
use Rattle.keccak.proofs.pi.Goals as goal

pub returns : goal.returns
unfolding π
returns c =
    λ i.
    c.pi_row.ensures i
    ∷ c.pi_row-2.ensures i
    ∷ c.pi_row-3.ensures i
    ∷ c.pi_row-4.ensures i
    ∷ c.pi_row-5.ensures i
    ∷ []
