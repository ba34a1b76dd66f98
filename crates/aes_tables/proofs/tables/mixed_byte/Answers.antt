-- `aes_tables::tables::mixed_byte` meets its contract: twice and three times the byte by its product with x.
-- Assumes nothing.
use mathlib.Core.Path.{◌∙◌}
use Rattle.aes_tables.specs.Words.{mixed_byte_of}
use Rattle.aes_tables.proofs.Substitution.{two_times, three_times}
use Rattle.aes_tables.proofs.tables.mixed_byte.Goals as goal

pub returns : goal.returns
unfolding mixed_byte_of
returns c = c.word_of.ensures ∙ rw (two_times, three_times, c.x_times-d.ensures)
