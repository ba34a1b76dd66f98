-- `ntt_rows::transform_row` meets its contract: columns, the exchange of columns and rows, twist and rows.
-- Assumes nothing.
use native.Mathlib.Omega.{arith}
use Rattle.ntt_rows.proofs.Rows.{part_of, columns_ready, twist_ready, rows_ready, row_steps}
use Rattle.ntt_rows.proofs.transform_row.Goals as goal

pub sixteen-requires : goal.sixteen-requires
sixteen-requires c =
    let ready = c.requires in
    columns_ready ready (part_of 256 264 _ (omega arith) (omega (arith, ready.tables_size))) (omega arith)

pub multiply-requires : goal.multiply-requires
multiply-requires c =
    let ready = c.requires in
    twist_ready ready (part_of 0 256 _ (omega arith) (omega (arith, ready.tables_size))) (omega (arith, c.exchange.auto.to))
    (omega (arith, c.sixteen.auto.to))

pub sixteen-requires-2 : goal.sixteen-requires-2
sixteen-requires-2 c =
    let ready = c.requires in
    rows_ready ready (part_of 256 264 _ (omega arith) (omega (arith, ready.tables_size))) (omega (arith, c.multiply.auto.to)) c.multiply.ensures

pub returns : goal.returns
returns c =
    let tables = c.args.tables.now in
    let roots = part_of 256 264 tables (omega arith) (omega (arith, c.requires.tables_size)) in
    let powers = part_of 0 256 tables (omega arith) (omega (arith, c.requires.tables_size)) in
    row_steps roots powers roots c.sixteen.ensures c.exchange.ensures c.multiply.ensures
    c.sixteen-2.ensures
