-- The record that is read is the one of the table in specs: both are written out, so they agree by computation, entry by entry. Past the table's end
-- stands none.
-- Assumes nothing.
use mathlib.Core.Path.{refl, sym}
use native.Mathlib.Omega.{arith}
use Rattle.sets.specs.Table.{none, table, set_of}
use Rattle.sets.proofs.Schemes.{past}
use Rattle.sets.proofs.parameters_of.Goals as goal

pub returns-then-set-gt-LAST : goal.returns-then-set-gt-LAST
unfolding none
returns-then-set-gt-LAST c = sym (past c.args.set (omega arith))

pub returns : goal.returns
unfolding none table set_of
returns c = refl
