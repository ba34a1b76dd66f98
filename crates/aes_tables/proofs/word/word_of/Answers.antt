-- `aes_tables::word::word_of` meets its contract.
-- Assumes nothing.
use Rattle.aes_tables.proofs.Bytes.{word_of_bytes}
use borrow.Author.Rules.{rules}
use Rattle.aes_tables.proofs.word.word_of.Goals as goal

pub returns : goal.returns
returns c = rw c.from_le_bytes.ensures (word_of_bytes c.args.b0 c.args.b1 c.args.b2 c.args.b3 (search rules) (search rules) (search rules) (search rules))
