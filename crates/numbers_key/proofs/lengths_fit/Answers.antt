-- `numbers_key::lengths_fit` meets its contract: each test of the code is one of the definition.
-- Assumes nothing.
use mathlib.Core.Path.{sym, ◌∙◌}
use borrow.Author.Tests.{eq-eqb, ne_eqb}
use Rattle.calls.proofs.Checks.{all_of_false, each_all_of}
use Rattle.numbers_key.proofs.lengths_fit.Goals as goal

pub returns-then-a-product : goal.returns-then-a-product
returns-then-a-product c = sym (all_of_false _ 0 (ne_eqb _ _ (rw c.product.ensures at c.if-a-product.true)))

pub returns-then-s-p : goal.returns-then-s-p
returns-then-s-p c = sym (all_of_false _ 1 (ne_eqb _ _ c.if-s-p.true))

pub returns-then-e-count : goal.returns-then-e-count
returns-then-e-count c = sym (all_of_false _ 2 (ne_eqb _ _ (rw c.error_count-count.ensures.0 at c.if-e-count.true)))

pub returns-then-b-count : goal.returns-then-b-count
returns-then-b-count c = sym (all_of_false _ 3 (ne_eqb _ _ (rw c.error_count-count.ensures.0 at c.if-b-count.true)))

pub returns : goal.returns
returns c =
    let count = c.error_count-count.ensures.0 in
    let first = c.if-a-product.false ∙ c.product.ensures in
    sym (each_all_of _ (
      eq-eqb _ _ first,
      (eq-eqb _ _ c.if-s-p.false, (eq-eqb _ _ (c.if-e-count.false ∙ count), (eq-eqb _ _ (c.if-b-count.false ∙ count), tt))),
    ))
