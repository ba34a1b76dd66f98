-- `keccak::mix_row` meets its contract: the rotated row is what `rotate_row` gives.
-- Assumes nothing.
use Rattle.keccak.specs.Keccak.{D}
use Rattle.keccak.proofs.mix_row.Goals as goal

pub returns : goal.returns
unfolding D
returns c =
    rw c.rotate_row-r.ensures
