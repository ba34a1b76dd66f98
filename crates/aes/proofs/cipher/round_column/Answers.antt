-- `aes::cipher::round_column` meets its contract: the entries of the round table, turned, add up to the column mixed.
-- Assumes nothing.
use Rattle.aes_tables.specs.Words.{byte_of}
use Rattle.aes.proofs.Columns.{column_mixed, entry_one, entry_two, entry_three}
use Rattle.aes.proofs.cipher.round_column.Goals as goal

pub returns : goal.returns
unfolding byte_of
returns c =
    column_mixed _ _ _ _ _ _ _ _ _ c.round_entry-first.ensures
    (entry_one _ _ _ c.round_entry.ensures c.rotate-second.ensures)
    (entry_two _ _ _ c.round_entry-2.ensures c.rotate-third.ensures)
    (entry_three _ _ _ c.round_entry-3.ensures c.rotate-fourth.ensures)
