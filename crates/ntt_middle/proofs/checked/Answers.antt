-- The numbers are checked as the definition checks them, and only where all are residues is the product written.
-- Assumes nothing.
use mathlib.Core.Path.{◌≡◌, sym, ap, ◌∙◌}
use native.Mathlib.Omega.{arith}
use Rattle.calls.specs.Outcome.{outcome, accepted}
use Rattle.calls.proofs.Outcome.{refused_call, accepted_call, handed_call}
use Rattle.sets.proofs.Rules.{listed_rules}
use Rattle.middle.proofs.Chained.{accepted_two}
use Rattle.ntt_middle.specs.Calls.{numbers_checked_of}
use Rattle.ntt_middle.proofs.checked.Goals.{After-two_checked}
use Rattle.ntt_middle.proofs.checked.Goals as goal

-- the answer of the check is that of the definition
decided : (c : After-two_checked) → let args = c.args in
    numbers_checked_of args.p.q args.a.now args.b.now ≡ outcome c.two_checked.result
unfolding numbers_checked_of
decided c = sym c.two_checked.ensures

pub two_checked-requires : goal.two_checked-requires
two_checked-requires c =
    let pre = c.requires in
    omega (arith, pre.1.fit, pre.1.results, pre.1.room, (listed_rules c.args.p pre.0).most_d3)

pub fill-requires : goal.fill-requires
fill-requires c =
    let pre = c.requires in
    let numbers = accepted_two _ c.args.a.now c.args.b.now accepted
    (sym c.in_ok-two_checked.ensures) in
    (pre.0, pre.1, record { each = numbers.0 }, record { each = numbers.1 })

pub returns-in_err-two_checked : goal.returns-in_err-two_checked
returns-in_err-two_checked c =
    let whole = handed_call _ _ _ c.from_residual.result c.from_residual.ensures.1
    (decided (goal.at.returns-in_err-two_checked c).After-two_checked ∙ ap outcome c.in_err-two_checked.was) in
    record { answer = whole.0; left = whole.1 }

pub returns : goal.returns
returns c =
    let whole = accepted_call _ _ (decided (goal.at.returns c).After-two_checked
    ∙ ap outcome c.in_ok-two_checked.was) c.fill.ensures in record { answer = whole.0; left = whole.1 }
