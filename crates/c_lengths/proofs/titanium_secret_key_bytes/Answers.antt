-- `c_lengths::titanium_secret_key_bytes` is the set's length, or 0.
-- Assumes nothing.
use mathlib.Core.Path.{refl}
use Rattle.c_lengths.proofs.Found.{found}
use Rattle.c_lengths.proofs.titanium_secret_key_bytes.Goals as goal

pub map_or-requires : goal.map_or-requires
map_or-requires c = λ p e. (rw e at c.record_of.ensures).2

pub returns : goal.returns
returns c = found _ _ c.record_of.result refl c.record_of.ensures c.map_or.ensures
