-- `ntt_steps::narrow_part` meets its contract: after i turns the first i butterflies are written.
-- Assumes nothing.
use Prim.Native.Nat.{◌+◌, ◌*◌, ◌≤◌}
use lib.ListN.{length}
use native.Mathlib.Omega.{arith}
use Rattle.ntt_steps.proofs.FourWritten.{four_more}
use Rattle.ntt_steps.proofs.Halves.{part_all}
use Rattle.ntt_steps.proofs.narrow_part.Goals as goal

pub loop-i-preserved : goal.loop-i-preserved
loop-i-preserved c =
    let room : 64 * c.args.part + 4 * 16 ≤ length c.args.to.now = omega (arith, c.requires.0.to_size, c.requires.1) in
    rw c.write_apart.ensures
    (four_more c.loop-i.invariant _ _ _ _ c.loop-i-test.true room c.twiddled_butterfly-z.ensures)

pub returns : goal.returns
returns c = part_all c.loop-i.invariant c.loop-i-test.false
