-- `sponge::shake256_of_two` takes both inputs in and gives the sponge's bytes.
-- Assumes nothing.
use mathlib.Core.List.{[]}
use Rattle.sponge.specs.Sponge.{shake256}
use Rattle.sponge.proofs.Absorbing.{fed_then}
use Rattle.sponge.proofs.shake256_of_two.Goals as goal

pub returns : goal.returns
unfolding shake256
returns c = c.finish.ensures _ ((fed_then c.feed.ensures c.feed-2.ensures).takes [] c.new-sponge.ensures)
