-- After i turns the products of the first i polynomials are added up.
-- Assumes nothing.
use mathlib.Core.Path.{sym, ◌∙◌}
use Prim.Native.Nat.{◌<◌}
use native.Mathlib.Omega.{arith}
use Rattle.calls.proofs.Outcome.{accepted_refused, handed_as}
use Rattle.byte_source.specs.Source.{state_at}
use Rattle.sets.proofs.Rules.{listed_rules}
use Rattle.ntt_products.proofs.Laws.{rules_odd}
use Rattle.cpa_encrypt.proofs.Adding.{adding_none, adding_more, adding_addends, adding_all}
use Rattle.cpa_encrypt.proofs.Adding.{PolynomialSent, polynomial_sent, polynomial_refused, counter_small}
use Rattle.cpa_encrypt.proofs.first.sum_products.Goals.{In_ok-counter, In-loop-i}
use Rattle.cpa_encrypt.proofs.first.sum_products.Goals as goal

pub new-reducer-requires : goal.new-reducer-requires
new-reducer-requires c =
    rules_odd c.args.p (listed_rules c.args.p c.requires.1)

pub loop-i-init : goal.loop-i-init
loop-i-init c = adding_none c.args.p c.requires.1 _ _ _ _ _ c.requires.4 c.requires.5 c.requires.6

-- a turn is one of t
turn_below : (c : In-loop-i) → c.loop-i.i < c.args.p.t
turn_below c = omega arith

pub send_multipliers-requires : goal.send_multipliers-requires
send_multipliers-requires c =
    let pre = c.requires in
    (pre.1, pre.3, pre.2, turn_below (goal.at.send_multipliers-requires c).In-loop-i, c.loop-i.invariant.x_size)

pub send_drawn-requires : goal.send_drawn-requires
send_drawn-requires c =
    let pre = c.requires in
    let inv = c.loop-i.invariant in
    let small = counter_small c.args.p pre.1 c.args.seed.now c.args.multipliers.now pre.0 inv.within inv.reached in
    (pre.0, pre.1, pre.3, small, inv.y_size)

pub returns-in_err-counter : goal.returns-in_err-counter
returns-in_err-counter c =
    let this = c.loop-i in
    let none =
    polynomial_refused c.args.p c.requires.1 c.args.seed.now c.args.multipliers.now _ this.i this.invariant.reached _ c.requires.0
    (turn_below (goal.at.returns-in_err-counter c).In-loop-i) (sym c.in_err-counter.ensures.answer) in
    let answer = handed_as c.from_residual.result c.from_residual.ensures.1 ∙ none in
    record { answer = answer; result = λ e. absurd (accepted_refused e (handed_as c.from_residual.result c.from_residual.ensures.1)) }

-- the polynomial of a turn is drawn and sent
sent_here : (c : In_ok-counter) → PolynomialSent c.args.p c.args.seed.now c.loop-i.i
    (state_at c.args.seed.now c.in_ok-counter.counter) c.send_drawn.new.y
sent_here c =
    let this = c.loop-i in
    let draw = c.in_ok-counter.ensures in
    polynomial_sent c.args.p c.requires.1 c.args.seed.now c.args.multipliers.now _ this.i this.invariant.reached _ _
    (sym draw.answer) draw.result

pub accumulate-requires : goal.accumulate-requires
accumulate-requires c =
    rw c.new-reducer.ensures
    (adding_addends c.args.p c.requires.1 c.args.seed.now c.args.multipliers.now c.loop-i.invariant c.send_multipliers.ensures
    (sent_here (goal.at.accumulate-requires c).In_ok-counter).y_is)

pub loop-i-preserved : goal.loop-i-preserved
loop-i-preserved c =
    adding_more c.args.p c.requires.1 c.args.seed.now c.args.multipliers.now _ _ _ _ c.loop-i.invariant (turn_below (goal.at.loop-i-preserved c).In-loop-i)
    (sent_here (goal.at.loop-i-preserved c).In_ok-counter) c.send_multipliers.ensures (rw c.new-reducer.ensures at c.accumulate.ensures)

pub returns : goal.returns
returns c =
    let whole = adding_all c.args.p c.requires.1 c.args.seed.now c.args.multipliers.now c.loop-i.invariant (omega arith) in
    record { answer = whole.0; result = whole.1 }
