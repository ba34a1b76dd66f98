-- `sheet_text::append::Text::push_decimal` meets its contract: the digits of a tenth of the number, then the last digit.
-- Assumes nothing.
use mathlib.Core.Path.{sym, ap, ◌∙◌}
use mathlib.Core.List.{[], ◌∷◌, ◌++◌}
use Prim.Native.Nat.{ℕ, ◌+◌, ◌/◌, ◌%◌, ◌≤◌}
use native.Mathlib.Omega.{arith}
use lib.ListN.{length, length-append}
use Rattle.sheet_text.specs.Decimal.{decimal}
use Rattle.sheet_text.proofs.DecimalLaws.{decimal_small, decimal_large}
use Rattle.sheet_text.proofs.WrittenLaws.{appended, appended_as, room_next}
use Rattle.sheet_text.proofs.append.Text.+push_decimal.Goals as goal

pub push-requires : goal.push-requires
push-requires t c = omega (arith, c.requires, ap length (decimal_small c.args.n (omega (arith, c.if-n-lt10.true))))

pub returns-then-n-lt10 : goal.returns-then-n-lt10
returns-then-n-lt10 t c =
    appended_as (ap (λ (b : ℕ). b ∷ []) c.digit.ensures ∙ sym (decimal_small c.args.n (omega (arith, c.if-n-lt10.true)))) c.push.ensures

pub push_decimal-requires : goal.push_decimal-requires
push_decimal-requires t c =
    let large : 10 ≤ c.args.n = omega (arith, c.if-n-lt10.false) in
    let more = ap length (decimal_large c.args.n large) ∙ length-append (decimal (c.args.n / 10)) ((48 + c.args.n % 10) ∷ []) in
    (omega (arith, c.decreases), omega (arith, c.requires))

pub push-requires-2 : goal.push-requires-2
push-requires-2 t c =
    let large : 10 ≤ c.args.n = omega (arith, c.if-n-lt10.false) in
    room_next c.push_decimal.ensures ((48 + c.args.n % 10) ∷ []) (rw (decimal_large c.args.n large) at c.requires)

pub returns : goal.returns
returns t c =
    let large : 10 ≤ c.args.n = omega (arith, c.if-n-lt10.false) in
    appended_as (ap (λ (b : ℕ). decimal (c.args.n / 10) ++ (b ∷ [])) c.digit-2.ensures ∙ sym (decimal_large c.args.n large))
    (appended c.push_decimal.ensures c.push-2.ensures)
