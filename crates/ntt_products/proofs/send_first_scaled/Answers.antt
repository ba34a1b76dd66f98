-- `ntt_products::send_first_scaled` meets its contract: sending is linear, so that numbers in scaled form are sent to scaled forms.
-- Assumes nothing.
use native.Mathlib.Omega.{arith}
use Rattle.sets.proofs.Rules.{listed_rules}
use Rattle.ntt_products.proofs.Sizes.{rules_odd}
use Rattle.ntt_products.proofs.SentScaled.{scaled_placed, sent_scaled}
use Rattle.ntt_products.proofs.send_first_scaled.Goals as goal

pub scale_first-requires : goal.scale_first-requires
scale_first-requires c =
    let placed = c.requires.2 in
    (rules_odd c.args.p (listed_rules c.args.p c.requires.0), omega (arith, placed.size, placed.inside))

pub send_first-requires : goal.send_first-requires
send_first-requires c = (
  c.requires.0,
  c.requires.1.lent,
  rw c.scale_first.ensures
      (scaled_placed c.args.p c.requires.0 c.args.i c.args.n c.args.x.now c.requires.2),
)

pub returns : goal.returns
returns c =
    sent_scaled c.args.p c.requires.0 c.args.i c.args.n c.args.x.now c.requires.2 _
    (rw c.scale_first.ensures at (c.send_first.ensures.root c.requires.1))
