-- `keccak::iota` is ι.
-- Assumes nothing.
use mathlib.Core.Path.{refl}
use Rattle.keccak.specs.Keccak.{ι}
use Rattle.keccak.proofs.iota.Goals as goal

pub returns : goal.returns
unfolding ι
returns c = refl
