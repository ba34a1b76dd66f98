-- The numbers of b are copied to the front of the work slice and sent with the inverse of the root.
-- Assumes nothing.
use mathlib.Core.Path.{ap, ◌∙◌}
use native.Mathlib.Omega.{arith}
use Rattle.ntt_products.specs.Stored.{sent_inverse}
use Rattle.calls.proofs.Parts.{front}
use Rattle.ntt_products.proofs.Front.{front_placed}
use Rattle.ntt_middle.proofs.store.Goals as goal

pub send_first-requires : goal.send_first-requires
send_first-requires c =
    let pre = c.requires in (
      pre.0,
      c.load_tables.ensures.lent,
      rw c.copy_in.ensures
          (front_placed c.args.p 3 c.args.work.now c.args.b.now pre.2 pre.3 pre.4),
    )

pub returns : goal.returns
returns c =
    c.send_first.ensures.inverse c.load_tables.ensures
    ∙ rw c.copy_in.ensures
    (ap (sent_inverse c.args.p 3) (front c.args.work.now c.args.b.now (omega (arith, c.requires.2, c.requires.3))))
