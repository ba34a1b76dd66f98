-- `ntt_by_row::fill_tables` meets its contract: for rows of one number, the powers are the tables.
-- Assumes nothing.
use Rattle.ntt_by_row.proofs.Lent.{wide_ready, wide_lent, wide_tables, plain_lent, plain_tables}
use Rattle.ntt_by_row.proofs.fill_tables.Goals as goal

pub fill_tables-requires : goal.fill_tables-requires
fill_tables-requires c = let pre = c.requires in wide_ready c.if-row-eq256.true pre.0 pre.1 pre.2

pub returns-then-row-eq256 : goal.returns-then-row-eq256
returns-then-row-eq256 c =
    let wide = c.if-row-eq256.true in
    let pre = c.requires in
    let made = c.fill_tables.ensures in record { lent = wide_lent wide pre.0 made.ready; tables = λ w powers. wide_tables wide powers (made.tables w) }

pub returns : goal.returns
returns c =
    let pre = c.requires in record { lent = plain_lent c.if-row-eq256.false pre.0 pre.1 pre.2; tables = λ w powers. plain_tables c.if-row-eq256.false powers }
