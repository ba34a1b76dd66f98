-- `sponge::shake256_into` takes the input in and gives the sponge's bytes.
-- Assumes nothing.
use mathlib.Core.List.{[]}
use Rattle.sponge.specs.Sponge.{shake256}
use Rattle.sponge.proofs.shake256_into.Goals as goal

pub returns : goal.returns
unfolding shake256
returns c = c.finish.ensures _ (c.feed.ensures.takes [] c.new-sponge.ensures)
