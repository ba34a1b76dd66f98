-- What the correlation asks was looked at.
-- Assumes nothing.
use native.Mathlib.Omega.{arith}
use Rattle.run_arithmetic.proofs.vectors.correlate.Goals as goal

pub settled-m-requires : goal.settled-m-requires
settled-m-requires g c =
    let ok = c.ready.ensures c.if-ready.true in
    let other = c.ready-then-ready.ensures c.if-ready-2.true in
    omega (arith, ok.1.inside, other.1.size)

pub load_tables-requires : goal.load_tables-requires
load_tables-requires g c =
    (c.requires, (c.ready.ensures c.if-ready.true).0)

pub correlate-requires : goal.correlate-requires
correlate-requires g c =
    let ok = c.ready.ensures c.if-ready.true in
    let other = c.ready-then-ready.ensures c.if-ready-2.true in
    let size = other.1.size in
    let settled = c.settled-m.ensures in
    (c.requires, c.load_tables.ensures, ok.1, omega arith, rw size at other.1, omega (arith, settled, size))
