-- `aes::cipher::last_column` meets its contract: the word of the four substituted bytes, and the key added.
-- Assumes nothing.
use mathlib.Core.Path.{◌∙◌}
use Rattle.aes_tables.proofs.Bytes.{word_sum}
use borrow.Author.Rules.{rules}
use Rattle.aes.proofs.cipher.last_column.Goals as goal

pub substituted-requires : goal.substituted-requires
substituted-requires c = search rules

pub returns : goal.returns
returns c = word_sum c.substituted.result c.args.k ∙ rw c.substituted.ensures
