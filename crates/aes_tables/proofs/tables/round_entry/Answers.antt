-- `aes_tables::tables::round_entry` reads the table at the byte.
-- Assumes nothing.
use Rattle.aes_tables.proofs.tables.round_entry.Goals as goal

pub returns : goal.returns
returns c = c.requires.0.each c.args.b c.requires.1
