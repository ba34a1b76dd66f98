-- `keccak::chi_row` meets its contract, as it computes.
-- Assumes nothing.
use mathlib.Core.Path.{refl}
use Rattle.keccak.proofs.chi_row.Goals as goal

pub returns : goal.returns
returns c = refl
