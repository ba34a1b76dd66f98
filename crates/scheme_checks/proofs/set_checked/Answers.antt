-- `scheme_checks::set_checked` meets its contract: each test of the code is one of the definition.
-- Assumes nothing.
use native.Mathlib.Omega.{arith}
use mathlib.Core.Path.{sym, ap, ◌∙◌}
use borrow.Author.Tests.{eq-eqb, ne_eqb}
use Rattle.calls.specs.Outcome.{accepted}
use Rattle.sets.specs.declared.Parameters.{Parameters}
use Rattle.sets.specs.Derived.{is_of}
use Rattle.sets.proofs.Rules.{rules_of}
use Rattle.scheme.proofs.Answers.{set_low, set_high, set_other, set_own}
use Rattle.scheme_checks.proofs.set_checked.Goals as goal

pub returns-then-set-lt1 : goal.returns-then-set-lt1
returns-then-set-lt1 c = sym (set_low (is_of c.args.number) c.args.set accepted (omega arith))

pub returns-then-set-gt-LAST : goal.returns-then-set-gt-LAST
returns-then-set-gt-LAST c = sym (set_high (is_of c.args.number) c.args.set accepted (omega arith) (omega arith))

pub returns-then-p-number : goal.returns-then-p-number
returns-then-p-number c =
    let args = c.args in
    let other = ne_eqb _ _ (λ e. c.if-p-number.true (ap (λ (p : Parameters). p.scheme) c.parameters_of-p.ensures ∙ e)) in
    sym (set_other (is_of args.number) args.set accepted (omega arith) (omega arith) other)

pub returns : goal.returns
returns c =
    let args = c.args in
    let same = eq-eqb _ _ (sym (ap (λ (p : Parameters). p.scheme) c.parameters_of-p.ensures) ∙ c.if-p-number.false) in
    let found = c.parameters_of-p.ensures in
    (found, sym (set_own (is_of args.number) args.set accepted (omega arith) (omega arith) same), rules_of args.set (omega arith) _ found)
