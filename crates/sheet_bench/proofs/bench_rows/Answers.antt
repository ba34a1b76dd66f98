-- `sheet_bench::bench_rows` meets its contract: the first byte out of range decides.
-- Assumes nothing.
use mathlib.Core.Path.{sym, ◌∙◌}
use Rattle.calls.proofs.Outcome.{leaves_accepted, leaves_refused}
use Rattle.sheet_bench.proofs.Rows.{rows_refused, rows_accepted}
use Rattle.sheet_bench.proofs.bench_rows.Goals as goal

pub returns-then-place-input : goal.returns-then-place-input
returns-then-place-input c =
    let e = rows_refused c.args.input.now c.first_unfit-place.result c.first_unfit-place.ensures c.if-place-input.true in
    record { answer = sym e; noises = sym (leaves_refused _ _ e); bits = sym (leaves_refused _ _ e); reading = sym (leaves_refused _ _ e) }

pub fill-requires : goal.fill-requires
fill-requires c = (
  c.requires.0,
  rows_accepted c.args.input.now c.first_unfit-place.result
      c.first_unfit-place.ensures c.if-place-input.false,
  c.requires.1,
  c.requires.2,
  c.requires.3,
)

pub returns : goal.returns
returns c =
    let input = c.args.input.now in
    let e = rows_accepted input c.first_unfit-place.result c.first_unfit-place.ensures c.if-place-input.false in
    let rows = c.fill.ensures in
    record {
      answer = sym e;
      noises = rows.0 ∙ sym (leaves_accepted _ _ e);
      bits = rows.1 ∙ sym (leaves_accepted _ _ e);
      reading = rows.2 ∙ sym
          (leaves_accepted _ _ e);
    }
