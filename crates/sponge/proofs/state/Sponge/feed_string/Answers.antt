-- `sponge::state::Sponge::feed_string` takes encode_string in: the length, then the string.
-- Assumes nothing.
use Rattle.sponge.specs.Kmac.{encode_string}
use Rattle.sponge.proofs.Absorbing.{fed_then}
use Rattle.sponge.proofs.state.Sponge.feed_string.Goals as goal

pub returns : goal.returns
unfolding encode_string
returns c = fed_then c.feed_left.ensures c.feed.ensures
