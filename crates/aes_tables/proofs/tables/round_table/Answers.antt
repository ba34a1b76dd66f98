-- `aes_tables::tables::round_table` meets its contract: after i turns the first i entries are right.
-- Assumes nothing.
use mathlib.Core.Path.{◌≡◌, refl, ap, ◌∙◌}
use native.Mathlib.Omega.{arith}
use borrow.Author.Count.{below_more}
use lib.ListN.{set, length-set}
use lib.Seq.{get_or-set_same, get_or-set_other}
use Rattle.maths.specs.Vector.{at}
use Rattle.aes_tables.specs.Substitution.{sbox}
use Rattle.aes_tables.specs.Words.{word, mixed_byte_of}
use Rattle.aes_tables.proofs.tables.round_table.Goals as goal

pub loop-i-init : goal.loop-i-init
loop-i-init c = (omega arith, refl, λ b h. absurd (omega arith))

pub loop-i-preserved : goal.loop-i-preserved
loop-i-preserved c =
    let turn = c.loop-i in
    let v = c.mixed_byte.result in (
      omega arith,
      length-set turn.entry-items turn.i v ∙ turn.invariant.1,
      below_more (λ b. word (at (set turn.entry-items turn.i v) b) ≡ mixed_byte_of (sbox b)) turn.i
          (λ b h. rw (get_or-set_other turn.entry-items turn.i b v 0 (λ e. omega arith)) (turn.invariant.2 b h))
          (rw (get_or-set_same turn.entry-items turn.i v 0 (omega arith))
          (c.mixed_byte.ensures ∙ ap mixed_byte_of (c.requires.each turn.i (omega arith)))),
    )

pub returns : goal.returns
returns c =
    let last = c.loop-i in
    record { entries = last.invariant.1; each = λ b h. last.invariant.2 b (omega arith) }
