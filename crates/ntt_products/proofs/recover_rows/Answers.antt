-- `ntt_products::recover_rows` meets its contract: the rows of the inverse transform with the tables of the root.
-- Assumes nothing.
use Rattle.sets.proofs.Rules.{listed_rules}
use Rattle.ntt_products.proofs.RowsBack.{rows_recoverable, rows_recovered}
use Rattle.ntt_products.proofs.recover_rows.Goals as goal

pub rows_of-requires : goal.rows_of-requires
rows_of-requires c =
    listed_rules c.args.p c.requires.1

pub inverse_rows-requires : goal.inverse_rows-requires
inverse_rows-requires c =
    let pre = c.requires in
    rw (c.rows_of.ensures, c.new.ensures)
    (rows_recoverable c.args.p pre.0 pre.1 c.args.i pre.2 pre.3)

pub returns : goal.returns
returns c =
    let pre = c.requires in
    rows_recovered c.args.p pre.0 pre.1 c.args.i pre.2 pre.3
    (rw (c.rows_of.ensures, c.new.ensures) at c.inverse_rows.ensures)
