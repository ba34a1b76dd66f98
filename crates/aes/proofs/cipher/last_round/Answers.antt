-- `aes::cipher::last_round` meets its contract, column by column.
-- Assumes nothing.
use mathlib.Core.List.{[], ◌∷◌}
use Rattle.aes.specs.Cipher.{sub_bytes, shift_rows, add_round_key}
use Rattle.aes_tables.specs.State.{add_words}
use Rattle.aes.proofs.cipher.last_round.Goals as goal

pub returns : goal.returns
unfolding sub_bytes shift_rows add_round_key add_words
returns c =
    λ i.
    c.last_column.ensures i
    ∷ c.last_column-2.ensures i
    ∷ c.last_column-3.ensures i
    ∷ c.last_column-4.ensures i
    ∷ []
