-- `measured::measured_inverse_tables` meets its contract: the set's record is looked up, and its tables are made.
-- Assumes nothing.
use Rattle.sets.proofs.Rules.{listed_set}
use Rattle.measured.proofs.measured_inverse_tables.Goals as goal

pub load_tables-requires : goal.load_tables-requires
load_tables-requires c =
    rw c.parameters_of.ensures (listed_set c.args.set c.requires.0, c.requires.1)

pub returns : goal.returns
returns c = rw (← c.parameters_of.ensures) c.load_tables.ensures
