-- `aes_tables::tables::substitute` reads the table at the byte.
-- Assumes nothing.
use Rattle.aes_tables.proofs.tables.substitute.Goals as goal

pub returns : goal.returns
returns c = c.requires.0.each c.args.b c.requires.1
