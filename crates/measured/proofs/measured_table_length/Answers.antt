-- `measured::measured_table_length` meets its contract: the set's record is looked up, and so many places have its tables.
-- Assumes nothing.
use Rattle.sets.proofs.Rules.{listed_set}
use Rattle.measured.proofs.measured_table_length.Goals as goal

pub table_length-requires : goal.table_length-requires
table_length-requires c = rw c.parameters_of.ensures (listed_set c.args.set c.requires)

pub returns : goal.returns
returns c = rw (← c.parameters_of.ensures) c.table_length.ensures
