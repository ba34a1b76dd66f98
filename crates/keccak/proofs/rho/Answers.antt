-- `keccak::rho` is ρ, row by row.
-- Assumes nothing.
use mathlib.Core.List.{[], ◌∷◌}
use Rattle.keccak.specs.Keccak.{offsets, ρ}
use Rattle.keccak.proofs.rho.Goals as goal

pub returns : goal.returns
unfolding offsets ρ
returns c =
    λ i.
    c.rotate_row.ensures i
    ∷ c.rotate_row-2.ensures i
    ∷ c.rotate_row-3.ensures i
    ∷ c.rotate_row-4.ensures i
    ∷ c.rotate_row-5.ensures i
    ∷ []
