-- `ntt_tables::fill_powers` meets its contract: after i turns the first i powers are written.
-- Assumes nothing.
use mathlib.Core.Path.{◌≡◌}
use native.Mathlib.Omega.{arith}
use Rattle.ntt_tables.proofs.Fill.{filled_more}
use Rattle.ntt_tables.proofs.fill_powers.Goals as goal

pub loop-i-preserved : goal.loop-i-preserved
loop-i-preserved g c =
    let turn = c.loop-i in
    let taken = c.loop-i-test.true in
    filled_more turn.invariant taken c.place.ensures (c.requires.before _ _ taken c.place.ensures) (omega (arith, c.requires.numbers.1))
    c.scaled.ensures.0 c.scaled.ensures.1

pub returns : goal.returns
returns g c from same =
    let turn = c.loop-i in
    let done : turn.i ≡ c.args.n = omega (arith, turn.auto, c.loop-i-test.false) in
    rw done at (turn.invariant.filled from same)
