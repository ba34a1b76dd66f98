-- `aes::cipher::round` meets its contract, column by column.
-- Assumes nothing.
use mathlib.Core.List.{[], ◌∷◌}
use Rattle.aes.specs.Cipher.{sub_bytes, shift_rows, mix_column, mix_columns, add_round_key}
use Rattle.aes_tables.specs.State.{add_words}
use Rattle.aes.proofs.cipher.round.Goals as goal

pub returns : goal.returns
unfolding sub_bytes shift_rows mix_column mix_columns add_round_key add_words
returns c =
    λ i.
    c.round_column.ensures i
    ∷ c.round_column-2.ensures i
    ∷ c.round_column-3.ensures i
    ∷ c.round_column-4.ensures i
    ∷ []
