-- The answer of the rows decides between the sheet and the refusal.
-- Assumes nothing.
use mathlib.Core.Path.{sym, ap, ◌∙◌}
use native.Mathlib.Omega.{arith}
use Rattle.calls.specs.Outcome.{outcome}
use Rattle.sets.proofs.Rules.{rules_of}
use Rattle.sheet_rows.proofs.Sets.{sheet_set}
use Rattle.sheet.specs.Sheet.{rows_text}
use Rattle.sheet_parts.proofs.Laws.{printed_as}
use Rattle.sheet.proofs.SheetLaws.{accepted_text, refused_text_lem}
use borrow.Author.Rules.{rules}
use Rattle.sheet.proofs.text.write_rows.Goals as goal

pub write_accepted-requires : goal.write_accepted-requires
write_accepted-requires c =
    let pre = c.requires in
    let made = c.fill-answer in
    let rows = made.ensures.rows (ap outcome c.in-Ok.is) in
    let rules = rules_of c.args.set (sheet_set c.args.set pre.0) _ pre.7 in
    let long = c.fill-answer.auto.noise ∙ pre.2 in (
      rules,
      record { sizes = rows.sizes; sent_length = c.fill-answer.auto.sent ∙ pre.3 ∙ sym long; read_length = c.fill-answer.auto.read ∙ pre.4 ∙ sym long },
      omega (arith, long, rules.most_d),
      pre.5,
    )

pub returns-in-Ok : goal.returns-in-Ok
returns-in-Ok c =
    let made = c.fill-answer.ensures in
    let done = ap outcome c.in-Ok.is in
    printed_as (accepted_text c.args.set c.args.p c.args.input.now c.requires.7 made.answer done (made.rows done))
    c.write_accepted.ensures

pub returns-in-Err : goal.returns-in-Err
returns-in-Err c =
    let made = rw (c.number.ensures, c.place.ensures) at c.write_refused.ensures in
    printed_as
    (refused_text_lem (rows_text c.args.set c.args.input.now) (sym c.fill-answer.ensures.answer ∙ ap outcome c.in-Err.is))
    (record { count_is = made.value; short = made.upper_bound; text_is = made.out_after })
