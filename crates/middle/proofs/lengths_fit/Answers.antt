-- `middle::lengths_fit` meets its contract: each test of the code is one of the definition.
-- Assumes nothing.
use mathlib.Core.Path.{sym}
use borrow.Author.Tests.{lt-leb, le-leb, eq-eqb, ne_eqb}
use Rattle.calls.proofs.Checks.{all_of_false, each_all_of}
use Rattle.middle.proofs.lengths_fit.Goals as goal

pub returns-then-a-lt1 : goal.returns-then-a-lt1
returns-then-a-lt1 c = sym (all_of_false _ 0 (lt-leb _ _ c.if-a-lt1.true))

pub returns-then-d-lt1 : goal.returns-then-d-lt1
returns-then-d-lt1 c = sym (all_of_false _ 1 (lt-leb _ _ c.if-d-lt1.true))

pub returns-then-a-gt4096 : goal.returns-then-a-gt4096
returns-then-a-gt4096 c = sym (all_of_false _ 2 (lt-leb _ _ c.if-a-gt4096.true))

pub returns-then-b-gt4096 : goal.returns-then-b-gt4096
returns-then-b-gt4096 c = sym (all_of_false _ 3 (lt-leb _ _ c.if-b-gt4096.true))

pub returns-then-d-gt4096 : goal.returns-then-d-gt4096
returns-then-d-gt4096 c = sym (all_of_false _ 4 (lt-leb _ _ c.if-d-gt4096.true))

pub returns-then-b-a : goal.returns-then-b-a
returns-then-b-a c = sym (all_of_false _ 5 (ne_eqb _ _ c.if-b-a.true))

pub returns : goal.returns
returns c = sym (each_all_of _ (search (le-leb, eq-eqb)))
