-- `ntt_by_row::forward` meets its contract, for rows of 256 numbers and for rows of one number.
-- Assumes nothing.
use native.Mathlib.Omega.{arith}
use lib.ListN.{take}
use Rattle.ntt_by_row.proofs.Lent.{powers, wide_forward, wide_sent, plain_forward, plain_sent}
use Rattle.ntt_by_row.proofs.forward.Goals as goal

pub forward_rows-requires : goal.forward_rows-requires
forward_rows-requires c = let pre = c.requires in wide_forward c.if-row-eq256.true pre.0 pre.1 pre.2 pre.3

pub returns-then-row-eq256 : goal.returns-then-row-eq256
returns-then-row-eq256 c w tables =
    wide_sent c.if-row-eq256.true (take c.args.n c.args.x.now) tables (c.forward_rows.ensures w)

pub slice_bounds-forward_numbers-end : goal.slice_bounds-forward_numbers-end
slice_bounds-forward_numbers-end c = let pre = c.requires in omega (arith, pre.0.size)

pub forward_numbers-requires : goal.forward_numbers-requires
forward_numbers-requires c =
    rw (powers c.args.tables.now c.args.rows) (plain_forward c.if-row-eq256.false c.requires.0 c.args.x.now
    c.requires.1 c.requires.2
    c.requires.3)

pub returns : goal.returns
returns c w tables =
    plain_sent c.if-row-eq256.false c.requires.0 c.args.x.now c.requires.1 tables
    (take c.args.n c.args.x.now)
    (rw (powers c.args.tables.now c.args.rows) at (c.forward_numbers.ensures w))
