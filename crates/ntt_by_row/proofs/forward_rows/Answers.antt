-- `ntt_by_row::forward_rows` meets its contract: the rest of the last row that is used is cleared, and the rows that are used are sent.
-- Assumes nothing.
use mathlib.Core.Path.{◌∙◌}
use Prim.Native.Nat.{◌*◌, ◌≤◌, ◌<◌}
use native.Mathlib.Omega.{arith}
use lib.ListN.{length}
use Rattle.ntt_by_row.proofs.Padded.{padded_send, padded_below}
use Rattle.ntt_by_row.proofs.forward_rows.Goals as goal

pub forward-requires : goal.forward-requires
forward-requires c =
    let cleared = c.clear_at in
    let fits : c.rows_used-m.result * 256 ≤ length c.args.x.now = omega (arith, c.requires.1, c.rows_used-m.ensures) in
    let some : 0 < c.args.q = omega (arith, c.requires.0.modulus.some) in (
      c.requires.0,
      c.rows_used-m.ensures.0,
      cleared.auto.work ∙ c.requires.1,
      rw cleared.ensures
          (padded_below c.args.x.now c.args.n _ c.rows_used-m.ensures.1 fits c.args.q some c.requires.3),
    )

pub returns : goal.returns
returns c w made =
    let cleared = c.clear_at in
    let fits : c.rows_used-m.result * 256 ≤ length c.args.x.now = omega (arith, c.requires.1, c.rows_used-m.ensures) in
    c.forward.ensures w made
    ∙ rw cleared.ensures
    (padded_send c.args.x.now c.args.n _ c.rows_used-m.ensures.1 fits c.args.q 256 c.args.rows w)
