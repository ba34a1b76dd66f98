-- `aes_tables::tables::substituted` meets its contract, byte by byte.
-- Assumes nothing.
use mathlib.Core.Path.{◌∙◌}
use Rattle.aes_tables.specs.Words.{byte_of}
use borrow.Author.Rules.{rules}
use Rattle.aes_tables.proofs.tables.substituted.Goals as goal

pub substitute-first-requires : goal.substitute-first-requires
substitute-first-requires c = search rules

pub substitute-second-requires : goal.substitute-second-requires
substitute-second-requires c = search rules

pub substitute-third-requires : goal.substitute-third-requires
substitute-third-requires c = search rules

pub substitute-fourth-requires : goal.substitute-fourth-requires
substitute-fourth-requires c = search rules

pub word_of-requires : goal.word_of-requires
word_of-requires c = search rules

pub returns : goal.returns
unfolding byte_of
returns c =
    c.word_of.ensures
    ∙ rw (
      c.substitute-first.ensures,
      c.substitute-second.ensures,
      c.substitute-third.ensures,
      c.substitute-fourth.ensures,
    )
