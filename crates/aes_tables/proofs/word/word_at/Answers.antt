-- `aes_tables::word::word_at` meets its contract.
-- Assumes nothing.
use mathlib.Core.Path.{◌∙◌}
use native.Mathlib.Nat.{add-zero}
use borrow.Author.Rules.{rules}
use Rattle.aes_tables.proofs.word.word_at.Goals as goal

pub bounds-bytes-start : goal.bounds-bytes-start
bounds-bytes-start c = search rules

pub overflow_add-start : goal.overflow_add-start
overflow_add-start c = search rules

pub bounds-bytes-start-2 : goal.bounds-bytes-start-2
bounds-bytes-start-2 c = search rules

pub overflow_add-start-2 : goal.overflow_add-start-2
overflow_add-start-2 c = search rules

pub bounds-bytes-start-3 : goal.bounds-bytes-start-3
bounds-bytes-start-3 c = search rules

pub overflow_add-start-3 : goal.overflow_add-start-3
overflow_add-start-3 c = search rules

pub bounds-bytes-start-4 : goal.bounds-bytes-start-4
bounds-bytes-start-4 c = search rules

pub word_of-requires : goal.word_of-requires
word_of-requires c = search rules

pub returns : goal.returns
returns c = c.word_of.ensures ∙ rw (add-zero c.args.start)
