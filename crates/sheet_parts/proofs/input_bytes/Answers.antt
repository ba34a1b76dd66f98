-- Set 0 has an input of its own.
-- Assumes nothing.
use borrow.Author.Tests.{eq-eqb, ne_eqb}
use Rattle.sheet_parts.specs.Checks.{input_bytes_of}
use Rattle.sheet_parts.proofs.input_bytes.Goals as goal

pub returns-then-set-eq0 : goal.returns-then-set-eq0
unfolding input_bytes_of
returns-then-set-eq0 c = rw (eq-eqb c.args.set 0 c.if-set-eq0.true)

pub returns : goal.returns
unfolding input_bytes_of
returns c = rw (ne_eqb c.args.set 0 c.if-set-eq0.false)
