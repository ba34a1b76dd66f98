-- `ntt_tables::fill_tables` meets its contract: the four steps, one after the other.
-- Assumes nothing.
use Prim.Native.Nat.{◌+◌, ◌*◌, ◌/◌, ◌%◌, ◌^◌}
use mathlib.Core.Path.{◌≡◌}
use native.Mathlib.Nat.{add_assoc}
use native.Mathlib.Omega.{arith}
use Rattle.std.proofs.Common.{rules}
use Rattle.ntt_tables.specs.Steps.{Filled}
use Rattle.ntt_tables.proofs.Made.{filled_below, made_ready, made_tables}
use Rattle.ntt_tables.proofs.fill_tables.Goals.{After-scaled_scale-by, After-fill_powers, After-fill_powers-2, After-fill_powers-3}
use Rattle.ntt_tables.proofs.fill_tables.Goals as goal

-- the factor is the scaled form of 2^32 modulo what the numbers are reduced by
scaling : (c : After-scaled_scale-by) → c.scaled_scale-by.result ≡ 2 ^ 64 % c.new-reducer.result.q
scaling c = rw c.new-reducer.ensures c.scaled_scale-by.ensures

-- the twist within a row
twist : (c : After-fill_powers)
    → let args = c.args in Filled args.q (args.rows * 256) 256 (λ i. args.rows * (i / 16 * (i % 16))) args.tables.now c.fill_powers.new.tables
twist c = rw c.new-reducer.ensures at (c.fill_powers.ensures (λ i. c.args.rows * (i / 16 * (i % 16))) (λ i j h p. search rules))

-- the powers for the columns of a row
row_columns : (c : After-fill_powers-2)
    → let args = c.args in Filled args.q (args.rows * 256 + 256) 8 (λ i. 16 * args.rows * i) c.fill_powers.new.tables c.fill_powers-2.new.tables
row_columns c = rw c.new-reducer.ensures at (c.fill_powers-2.ensures (λ i. 16 * c.args.rows * i) (λ i j h p. search rules))

-- the powers for the columns
columns : (c : After-fill_powers-3)
    → let args = c.args in Filled args.q (args.rows * 256 + 264) args.rows (λ i. 256 * i) c.fill_powers-2.new.tables c.fill_powers-3.new.tables
columns c = rw c.new-reducer.ensures at (c.fill_powers-3.ensures (λ i. 256 * i) (λ i j h p. search rules))

pub fill_powers-requires-2-clause-numbers : goal.fill_powers-requires-2-clause-numbers
fill_powers-requires-2-clause-numbers c =
    let made = twist (goal.at.fill_powers-requires-2-clause-numbers c).After-fill_powers in (
      scaling (goal.at.fill_powers-requires-2-clause-numbers c).After-scaled_scale-by,
      omega (arith, c.requires.3, made.size),
      omega (arith, c.requires.2),
      rw c.new-reducer.ensures (filled_below made c.requires.4),
    )

pub fill_powers-requires-3-clause-numbers : goal.fill_powers-requires-3-clause-numbers
fill_powers-requires-3-clause-numbers c =
    let first = twist (goal.at.fill_powers-requires-3-clause-numbers c).After-fill_powers in
    let second = row_columns (goal.at.fill_powers-requires-3-clause-numbers c).After-fill_powers-2 in (
      scaling (goal.at.fill_powers-requires-3-clause-numbers c).After-scaled_scale-by,
      omega (arith, c.requires.3, first.size, second.size),
      omega (arith, c.requires.2),
      rw c.new-reducer.ensures (rw (add_assoc (c.args.rows * 256) 256 8) at (filled_below second (filled_below first c.requires.4))),
    )

pub returns-clause-ready : goal.returns-clause-ready
returns-clause-ready c =
    let pre = c.requires in
    let at = goal.at.returns-clause-ready c in
    made_ready pre.0 pre.1 pre.2 pre.3 pre.4 (twist at.After-fill_powers) (row_columns at.After-fill_powers-2) (columns at.After-fill_powers-3)
    c.twist_rows.ensures

pub returns-clause-tables : goal.returns-clause-tables
returns-clause-tables c w powers =
    let pre = c.requires in
    let at = goal.at.returns-clause-tables c in
    made_tables pre.0 pre.1 pre.2 pre.3 pre.4 (twist at.After-fill_powers) (row_columns at.After-fill_powers-2) (columns at.After-fill_powers-3)
    c.twist_rows.ensures powers
