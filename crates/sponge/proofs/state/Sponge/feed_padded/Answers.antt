-- `sponge::state::Sponge::feed_padded` takes bytepad in, piece by piece.
-- Assumes nothing.
use Rattle.sponge.specs.Kmac.{bytepad}
use Rattle.sponge.proofs.Absorbing.{fed_then}
use Rattle.sponge.proofs.Encoding.{fed_up}
use Rattle.sponge.proofs.state.Sponge.feed_padded.Goals as goal

pub returns : goal.returns
unfolding bytepad
returns c =
    fed_up c.requires.0 (fed_then c.feed_left.ensures (fed_then c.feed.ensures c.feed_string.ensures)) c.fill_up.ensures
