-- `sponge::kmac::kmac` takes the parts in, one after the other, and gives the sponge's bytes.
-- Assumes nothing.
use mathlib.Core.Path.{◌≡◌, ◌∙◌}
use native.Mathlib.Omega.{arith}
use mathlib.Core.List.{[]}
use lib.ListN.{length}
use Rattle.sponge.proofs.Absorbing.{fed_then}
use Rattle.sponge.proofs.Encoding.{padded_place, kmac_parts}
use Rattle.sponge.proofs.kmac.kmac.Goals as goal

pub feed_padded-requires : goal.feed_padded-requires
feed_padded-requires c = (omega (arith, c.new-sponge.ensures.size), c.requires.1)

pub feed_padded-requires-2 : goal.feed_padded-requires-2
feed_padded-requires-2 c =
    let start : c.new-sponge.result.waiting ≡ 0 = omega (arith, c.new-sponge.ensures.size) in
    (padded_place _ _ (rw start at c.feed_padded.ensures.place), c.requires.0)

pub returns : goal.returns
returns c =
    let args = c.args in
    let front = fed_then c.feed_padded.ensures c.feed_padded-2.ensures in
    let all = fed_then (fed_then front c.feed.ensures) c.feed_right.ensures in
    c.finish.ensures _ (all.takes [] c.new-sponge.ensures)
    ∙ kmac_parts args.key.now args.input.now args.customization.now args.bits (length args.out.now)
