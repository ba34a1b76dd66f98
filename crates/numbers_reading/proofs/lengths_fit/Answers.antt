-- `numbers_reading::lengths_fit` meets its contract: each test of the code is one of the definition.
-- Assumes nothing.
use mathlib.Core.Path.{sym}
use borrow.Author.Tests.{eq-eqb, ne_eqb}
use Rattle.calls.proofs.Checks.{all_of_false, each_all_of}
use Rattle.numbers_reading.proofs.lengths_fit.Goals as goal

pub returns-then-c1-p : goal.returns-then-c1-p
returns-then-c1-p c = sym (all_of_false _ 0 (ne_eqb _ _ c.if-c1-p.true))

pub returns-then-c2-p : goal.returns-then-c2-p
returns-then-c2-p c = sym (all_of_false _ 1 (ne_eqb _ _ c.if-c2-p.true))

pub returns-then-s-p : goal.returns-then-s-p
returns-then-s-p c = sym (all_of_false _ 2 (ne_eqb _ _ c.if-s-p.true))

pub returns-then-bits-p : goal.returns-then-bits-p
returns-then-bits-p c = sym (all_of_false _ 3 (ne_eqb _ _ c.if-bits-p.true))

pub returns : goal.returns
returns c = sym (each_all_of _ (search eq-eqb))
