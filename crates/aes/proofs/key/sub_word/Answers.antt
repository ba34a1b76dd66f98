-- `aes::key::sub_word` meets its contract, byte by byte.
-- Assumes nothing.
use Rattle.aes.specs.Key.{sub_word_of}
use borrow.Author.Rules.{rules}
use Rattle.aes.proofs.key.sub_word.Goals as goal

pub substituted-requires : goal.substituted-requires
substituted-requires c = search rules

pub returns : goal.returns
unfolding sub_word_of
returns c = c.substituted.ensures
