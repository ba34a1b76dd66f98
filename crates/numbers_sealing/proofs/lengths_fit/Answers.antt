-- `numbers_sealing::lengths_fit` meets its contract: each test of the code is one of the definition.
-- Assumes nothing.
use mathlib.Core.Path.{sym, ◌∙◌}
use borrow.Author.Tests.{eq-eqb, ne_eqb}
use Rattle.calls.proofs.Checks.{all_of_false, each_all_of}
use Rattle.numbers_sealing.proofs.lengths_fit.Goals as goal

pub returns-then-a-product : goal.returns-then-a-product
returns-then-a-product c = sym (all_of_false _ 0 (ne_eqb _ _ (rw c.product.ensures at c.if-a-product.true)))

pub returns-then-b-error_count : goal.returns-then-b-error_count
returns-then-b-error_count c = sym (all_of_false _ 1 (ne_eqb _ _ (rw c.error_count.ensures.0 at c.if-b-error_count.true)))

pub returns-then-r-multiplier_count : goal.returns-then-r-multiplier_count
returns-then-r-multiplier_count c = sym (all_of_false _ 2 (ne_eqb _ _ (rw c.multiplier_count.ensures at c.if-r-multiplier_count.true)))

pub returns-then-m-p : goal.returns-then-m-p
returns-then-m-p c = sym (all_of_false _ 3 (ne_eqb _ _ c.if-m-p.true))

pub returns-then-c1-p : goal.returns-then-c1-p
returns-then-c1-p c = sym (all_of_false _ 4 (ne_eqb _ _ c.if-c1-p.true))

pub returns-then-c2-p : goal.returns-then-c2-p
returns-then-c2-p c = sym (all_of_false _ 5 (ne_eqb _ _ c.if-c2-p.true))

pub returns : goal.returns
returns c =
    let first = c.if-a-product.false ∙ c.product.ensures in
    let second = c.if-b-error_count.false ∙ c.error_count.ensures.0 in
    let third = c.if-r-multiplier_count.false ∙ c.multiplier_count.ensures in
    sym (each_all_of _ (
      eq-eqb _ _ first,
      (
        eq-eqb _ _ second,
        (
          eq-eqb _ _ third,
          (eq-eqb _ _ c.if-m-p.false, (eq-eqb _ _ c.if-c1-p.false, (eq-eqb _ _ c.if-c2-p.false, tt))),
        ),
      ),
    ))
