-- `measured::measured_send` meets its contract: the set's record is looked up, and the numbers are sent.
-- Assumes nothing.
use Rattle.sets.proofs.Rules.{listed_set}
use Rattle.measured.proofs.measured_send.Goals as goal

pub send_first-requires : goal.send_first-requires
send_first-requires c =
    rw c.parameters_of.ensures (listed_set c.args.set c.requires.0, c.requires.1.lent, c.requires.2)

pub returns : goal.returns
returns c = rw (← c.parameters_of.ensures) (c.send_first.ensures.root (rw c.parameters_of.ensures c.requires.1))
