-- `aes::key::next_word` meets its contract: a word of the key, or the sum of algorithm 2.
-- Assumes nothing.
use mathlib.Core.Path.{◌∙◌}
use Prim.Native.Nat.{◌-◌}
use native.Mathlib.Omega.{arith}
use borrow.Author.Tests.{lt-ltb, le-ltb}
use Rattle.maths.specs.Vector.{at}
use Rattle.aes.specs.Key.{next_word_of}
use Rattle.aes_tables.proofs.Bytes.{word_sum}
use Rattle.aes.proofs.Schedule.{word_before}
use Rattle.aes.proofs.key.next_word.Goals as goal

pub returns-then-i-lt8 : goal.returns-then-i-lt8
unfolding next_word_of
returns-then-i-lt8 c = rw (lt-ltb _ _ c.if-i-lt8.true) c.word_at.ensures

pub returns : goal.returns
unfolding next_word_of
returns c =
    let i = c.args.i in
    let w = c.args.w.now in
    let key = c.args.key.now in
    rw (le-ltb _ _ c.if-i-lt8.false)
    (word_sum (at w (i - 8)) c.temp.result
    ∙ rw (c.temp.ensures, word_before key w i (i - 8) (omega arith) (omega arith), word_before key w i (i - 1) (omega arith) (omega arith)))
