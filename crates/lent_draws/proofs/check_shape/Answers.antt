-- `lent_draws::check_shape` meets its contract, by its tests in order.
-- Assumes nothing.
use native.Mathlib.Omega.{arith}
use borrow.Author.Tests.{lt-ltb, le-ltb}
use Rattle.sets.specs.Table.{last_set}
use Rattle.lent_draws.specs.Calls.{refuse_shape}
use Rattle.lent_draws.proofs.check_shape.Goals as goal

pub returns-then-set-lt1 : goal.returns-then-set-lt1
unfolding refuse_shape
returns-then-set-lt1 c = rw (lt-ltb c.args.set 1 (omega arith))

pub returns-then-set-gt-LAST : goal.returns-then-set-gt-LAST
unfolding refuse_shape
returns-then-set-gt-LAST c =
    let set = c.args.set in
    rw (le-ltb set 1 (omega arith), lt-ltb last_set set (omega arith))

pub returns-then-wanted-gt4096 : goal.returns-then-wanted-gt4096
unfolding refuse_shape
returns-then-wanted-gt4096 c =
    let args = c.args in
    rw (le-ltb args.set 1 (omega arith), le-ltb last_set args.set (omega arith), lt-ltb 4096 args.wanted (omega arith))

pub returns : goal.returns
unfolding refuse_shape
returns c =
    let args = c.args in
    rw (le-ltb args.set 1 (omega arith), le-ltb last_set args.set (omega arith), le-ltb 4096 args.wanted (omega arith))
