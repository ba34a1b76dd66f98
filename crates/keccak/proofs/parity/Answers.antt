-- `keccak::parity` meets its contract: four sums of rows are the parities of the columns.
-- Assumes nothing.
use Rattle.keccak.specs.Keccak.{C}
use Rattle.keccak.proofs.parity.Goals as goal

pub returns : goal.returns
unfolding C
returns c =
    rw (
      c.xor_row-4.ensures,
      c.xor_row-3.ensures,
      c.xor_row-2.ensures,
      c.xor_row.ensures,
    )
