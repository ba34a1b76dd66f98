-- `c_lengths::record_of` gives the record of a set of the table.
-- Assumes nothing.
use Prim.Native.Nat.{◌≤◌}
use native.Mathlib.Omega.{arith}
use borrow.Author.Tests.{lt-ltb, le-ltb}
use Rattle.sets.proofs.Rules.{rules_of}
use Rattle.sets.specs.Table.{last_set}
use Rattle.c_lengths.proofs.record_of.Goals as goal

pub returns-then-set-gt-LAST : goal.returns-then-set-gt-LAST
returns-then-set-gt-LAST c = lt-ltb last_set c.args.set c.if-set-gt-LAST.true

pub returns : goal.returns
returns c =
    let low : c.args.set ≤ last_set = omega (arith, c.if-set-gt-LAST.false) in
    (le-ltb last_set c.args.set low, c.parameters_of.ensures, rules_of c.args.set (omega (arith, low)) _ c.parameters_of.ensures)
