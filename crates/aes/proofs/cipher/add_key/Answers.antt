-- `aes::cipher::add_key` meets its contract, column by column.
-- Assumes nothing.
use mathlib.Core.List.{[], ◌∷◌}
use Rattle.maths.specs.Vector.{at}
use Rattle.aes.specs.Cipher.{add_round_key}
use Rattle.aes_tables.specs.State.{add_words}
use Rattle.aes_tables.proofs.Bytes.{word_sum}
use Rattle.aes.proofs.cipher.add_key.Goals as goal

pub returns : goal.returns
unfolding add_round_key add_words
returns c =
    let s = c.args.s in
    let k = c.args.k in
    λ i.
    word_sum (at s 0) (at k 0) i
    ∷ word_sum (at s 1) (at k 1) i
    ∷ word_sum (at s 2) (at k 2) i
    ∷ word_sum (at s 3) (at k 3) i
    ∷ []
