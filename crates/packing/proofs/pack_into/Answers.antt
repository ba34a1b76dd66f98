-- `packing::pack_into` (003, algorithm 18) meets its contract: nothing is dropped.
-- Assumes nothing.
use mathlib.Core.Path.{◌∙◌}
use Rattle.packing.proofs.Dropped.{pack_dropping_none}
use Rattle.packing.proofs.pack_into.Goals as goal

pub returns : goal.returns
returns c = c.pack_dropping.ensures ∙ pack_dropping_none _ _ _
