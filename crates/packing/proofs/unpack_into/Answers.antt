-- `packing::unpack_into` (003, algorithm 21) meets its contract: nothing was dropped.
-- Assumes nothing.
use mathlib.Core.Path.{◌∙◌}
use Rattle.packing.proofs.Dropped.{unpack_dropped_none}
use Rattle.packing.proofs.unpack_into.Goals as goal

pub returns : goal.returns
returns c = c.unpack_dropped.ensures ∙ unpack_dropped_none _ _ _
