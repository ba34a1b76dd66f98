-- `aes::key::temp` meets its contract: one of the three cases of algorithm 2.
-- Assumes nothing.
use mathlib.Core.Path.{◌∙◌}
use borrow.Author.Tests.{eq-eqb, ne_eqb}
use Rattle.aes.specs.Key.{rot_word, temp}
use Rattle.aes_tables.proofs.Bytes.{word_sum}
use Rattle.aes.proofs.key.temp.Goals as goal

pub returns-then-i-eq0 : goal.returns-then-i-eq0
unfolding temp rot_word
returns-then-i-eq0 c =
    rw (eq-eqb _ _ c.if-i-eq0.true)
    (word_sum c.sub_word.result c.round_constant.result
    ∙ rw (c.sub_word.ensures, c.rotate.ensures, c.round_constant.ensures))

pub returns-then-i-eq4 : goal.returns-then-i-eq4
unfolding temp
returns-then-i-eq4 c = rw (ne_eqb _ _ c.if-i-eq0.false, eq-eqb _ _ c.if-i-eq4.true) c.sub_word-then-i-eq4.ensures

pub returns : goal.returns
unfolding temp
returns c = rw (ne_eqb _ _ c.if-i-eq0.false, ne_eqb _ _ c.if-i-eq4.false)
