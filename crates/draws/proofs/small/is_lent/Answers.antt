-- `draws::small::is_lent` meets its contract, by its two tests in order.
-- Assumes nothing.
use native.Mathlib.Omega.{arith}
use borrow.Author.Tests.{le-leb, lt-leb}
use Rattle.sets.specs.Derived.{multiplier_bytes_of}
use Rattle.draws.specs.Calls.{lent}
use Rattle.draws.proofs.Positions.{place_most, signs_most}
use Rattle.draws.proofs.small.is_lent.Goals as goal

pub overflow_mul-position : goal.overflow_mul-position
overflow_mul-position c =
    let place = place_most c.args.position (multiplier_bytes_of c.args.p) (omega arith) c.requires.1.most_size in
    rw c.multiplier_bytes-width.ensures (omega arith)

pub overflow_add-position : goal.overflow_add-position
overflow_add-position c =
    let place = place_most c.args.position (multiplier_bytes_of c.args.p) (omega arith) c.requires.1.most_size in
    rw c.multiplier_bytes-width.ensures (omega arith)

pub overflow_add-result : goal.overflow_add-result
overflow_add-result c =
    omega (arith, signs_most c.args.p c.requires.0 c.requires.1)

pub returns-then-position-width : goal.returns-then-position-width
unfolding lent
returns-then-position-width c =
    let sizes = c.if-position-width.true in
    rw (c.signs_at-signs.ensures, le-leb _ _ (rw c.multiplier_bytes-width.ensures at sizes))

pub returns-else-position-width : goal.returns-else-position-width
unfolding lent
returns-else-position-width c =
    let sizes = c.if-position-width.false in
    rw (c.multiplier_bytes-width.ensures, lt-leb _ _ (rw c.multiplier_bytes-width.ensures at sizes))
