-- `measured::measured_recover` meets its contract: the set's record is looked up, and the numbers are recovered.
-- Assumes nothing.
use Rattle.sets.proofs.Rules.{listed_set}
use Rattle.measured.proofs.measured_recover.Goals as goal

pub recover_first-requires : goal.recover_first-requires
recover_first-requires c =
    rw c.parameters_of.ensures (listed_set c.args.set c.requires.0, c.requires.1.lent, c.requires.2, c.requires.3)

pub returns : goal.returns
returns c = rw (← c.parameters_of.ensures) (c.recover_first.ensures.root (rw c.parameters_of.ensures c.requires.1))
