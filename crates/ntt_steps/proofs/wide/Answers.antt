-- `ntt_steps::wide` meets its contract: after i turns the first i butterflies are written.
-- Assumes nothing.
use Prim.Native.Nat.{◌+◌, ◌*◌, ◌≤◌}
use lib.ListN.{length}
use native.Mathlib.Nat.{zero-add}
use native.Mathlib.Omega.{arith}
use Rattle.ntt_steps.proofs.FourWritten.{four_more}
use Rattle.ntt_steps.proofs.Halves.{quarters_all}
use Rattle.ntt_steps.proofs.wide.Goals as goal

pub loop-i-preserved : goal.loop-i-preserved
loop-i-preserved c =
    let room : 0 + 4 * 64 ≤ length c.args.to.now = omega (arith, c.requires.to_size) in
    rw c.write_apart.ensures
    (rw zero-add at (four_more c.loop-i.invariant _ _ _ _ c.loop-i-test.true room c.plain_butterfly-z.ensures))

pub returns : goal.returns
returns c = quarters_all c.loop-i.invariant c.loop-i-test.false
