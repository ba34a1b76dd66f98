-- `sponge::state::Sponge::feed_right` takes right_encode in: the digits, before their number.
-- Assumes nothing.
use Rattle.sponge.proofs.Absorbing.{fed_then}
use Rattle.sponge.proofs.Encoding.{fed_as, right_parts}
use Rattle.sponge.proofs.state.Sponge.feed_right.Goals as goal

pub returns : goal.returns
returns c =
    fed_as (right_parts c.args.x c.first_digit-first.result c.to_be_bytes.ensures c.first_digit-first.ensures.1) (fed_then c.feed.ensures c.feed-2.ensures)
