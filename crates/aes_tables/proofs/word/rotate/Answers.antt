-- `aes_tables::word::rotate` meets its contract.
-- Assumes nothing.
use mathlib.Core.Path.{ap, ◌∙◌}
use Prim.Native.Nat.{ℕ}
use borrow.Author.Rules.{rules}
use Rattle.aes_tables.specs.Words.{word}
use Rattle.aes_tables.proofs.Bytes.{rotated}
use Rattle.aes_tables.proofs.word.rotate.Goals as goal

pub returns : goal.returns
returns c =
    ap (λ (w : ℕ). word w) c.rotate_left.ensures ∙ rotated c.args.w (search rules) c.args.places c.requires.0 c.requires.1
