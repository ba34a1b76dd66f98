-- `sponge::state::Sponge::feed_left` takes left_encode in: the digits, after their number.
-- Assumes nothing.
use Rattle.sponge.proofs.Absorbing.{fed_then}
use Rattle.sponge.proofs.Encoding.{fed_as, left_parts}
use Rattle.sponge.proofs.state.Sponge.feed_left.Goals as goal

pub returns : goal.returns
returns c =
    fed_as (left_parts c.args.x c.first_digit-first.result c.to_be_bytes.ensures c.first_digit-first.ensures.1) (fed_then c.feed.ensures c.feed-2.ensures)
