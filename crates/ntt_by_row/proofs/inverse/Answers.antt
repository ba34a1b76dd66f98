-- `ntt_by_row::inverse` meets its contract, for rows of 256 numbers and for rows of one number.
-- Assumes nothing.
use native.Mathlib.Omega.{arith}
use Rattle.ntt_by_row.proofs.Lent.{powers, wide_inverse, wide_recovered, plain_inverse, plain_recovered}
use Rattle.ntt_by_row.proofs.inverse.Goals as goal

pub inverse_rows-requires : goal.inverse_rows-requires
inverse_rows-requires c =
    let pre = c.requires in
    wide_inverse c.if-row-eq256.true pre.0 pre.1 pre.2 pre.3 pre.4

pub returns-then-row-eq256 : goal.returns-then-row-eq256
returns-then-row-eq256 c w tables =
    let args = c.args in
    wide_recovered c.if-row-eq256.true args.e args.m args.x.now tables (c.inverse_rows.ensures w)

pub slice_bounds-inverse_numbers-end : goal.slice_bounds-inverse_numbers-end
slice_bounds-inverse_numbers-end c = let pre = c.requires in omega (arith, pre.0.size)

pub inverse_numbers-requires : goal.inverse_numbers-requires
inverse_numbers-requires c =
    rw (powers c.args.tables.now c.args.rows)
    (plain_inverse c.if-row-eq256.false c.requires.0 c.args.x.now c.requires.1 c.requires.2 c.requires.3)

pub returns : goal.returns
returns c w tables =
    plain_recovered c.if-row-eq256.false c.requires.0 c.args.x.now c.requires.1 tables c.args.e
    c.args.m c.requires.4 (rw (powers c.args.tables.now c.args.rows) at (c.inverse_numbers.ensures w))
