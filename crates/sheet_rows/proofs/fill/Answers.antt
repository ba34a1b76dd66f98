-- Set 0 has rows of its own; an encryption set takes the seeds and the message from their places.
-- Assumes nothing.
use mathlib.Core.Path.{◌≡◌, refl, ap, ◌∙◌}
use Prim.Native.Nat.{◌≤◌}
use native.Mathlib.Omega.{arith}
use lib.ListN.{length}
use Rattle.scheme.specs.Answers.{work_length_of}
use Rattle.calls.proofs.Parts.{part_length, front_length}
use Rattle.sets.specs.declared.Parameters.{Parameters}
use Rattle.sets.proofs.Rules.{rules_of, byte_rules_of}
use Rattle.sheet_rows.proofs.Sets.{sheet_set, work_most}
use Rattle.sheet_rows.proofs.RowLaws.{input_long, bench_lengths, bench_filled, seeded_filled}
use Rattle.sheet_rows.proofs.fill.Goals.{After-work_length-size}
use Rattle.sheet_rows.proofs.fill.Goals as goal

-- the input of an encryption set
long : (c : After-work_length-size) → length c.args.input.now ≡ 97
long c = c.requires.1 ∙ input_long c.args.set c.if-set-lt1.false

-- the work slice has room
room : (c : After-work_length-size) → c.work_length-size.result ≤ length c.args.work.now
room c =
    omega (arith, work_most c.args.set c.requires.0, c.work_length-size.ensures, ap work_length_of c.requires.6, c.requires.5)

pub bench_rows-requires : goal.bench_rows-requires
bench_rows-requires c =
    let pre = c.requires in
    let sizes = bench_lengths c.args.set c.if-set-lt1.true in
    let two = ap (λ (p : Parameters). p.d) pre.6 ∙ sizes.1 in
    (pre.1 ∙ sizes.0, pre.2 ∙ two, pre.3 ∙ two, pre.4 ∙ two)

pub returns-then-set-lt1 : goal.returns-then-set-lt1
returns-then-set-lt1 c =
    let args = c.args in
    let made = c.bench_rows.ensures in
    let whole = bench_filled args.set args.input.now _ args.noise.now _ args.sent.now _ args.read.now _ c.if-set-lt1.true c.requires.1
    made.answer made.noises made.bits made.reading in record { answer = whole.0; rows = whole.1 }

pub work_length-size-requires : goal.work_length-size-requires
work_length-size-requires c =
    rules_of c.args.set (sheet_set c.args.set c.requires.0) _ c.requires.6

pub slice_bounds-as_array-end : goal.slice_bounds-as_array-end
slice_bounds-as_array-end c = omega (arith, long c)

pub slice_bounds-as_array-end-2 : goal.slice_bounds-as_array-end-2
slice_bounds-as_array-end-2 c = omega (arith, long (goal.at.slice_bounds-as_array-end-2 c).After-work_length-size)

pub slice_bounds-as_array-end-3 : goal.slice_bounds-as_array-end-3
slice_bounds-as_array-end-3 c = omega (arith, long (goal.at.slice_bounds-as_array-end-3 c).After-work_length-size)

pub slice_bounds-seeded_rows-end : goal.slice_bounds-seeded_rows-end
slice_bounds-seeded_rows-end c = omega (arith, room (goal.at.slice_bounds-seeded_rows-end c).After-work_length-size)

pub unwrap-requires : goal.unwrap-requires
unwrap-requires c =
    c.as_array.ensures.variant.1 (part_length c.args.input.now 1 33 32 refl (rw (long (goal.at.unwrap-requires c).After-work_length-size) (omega arith)))

pub unwrap-requires-2 : goal.unwrap-requires-2
unwrap-requires-2 c =
    c.as_array-2.ensures.variant.1 (part_length c.args.input.now 65 97 32 refl (rw (long (goal.at.unwrap-requires-2 c).After-work_length-size) (omega arith)))

pub unwrap-requires-3 : goal.unwrap-requires-3
unwrap-requires-3 c =
    c.as_array-3.ensures.variant.1 (part_length c.args.input.now 33 65 32 refl (rw (long (goal.at.unwrap-requires-3 c).After-work_length-size) (omega arith)))

pub seeded_rows-requires : goal.seeded_rows-requires
seeded_rows-requires c =
    let pre = c.requires in
    let set = c.args.set in
    let low = sheet_set set pre.0 in (
      byte_rules_of set low _ pre.6 c.if-set-lt1.false,
      record { set = set; is_set = low; listed = pre.6 },
      pre.2,
      pre.3,
      pre.4,
      front_length c.args.work.now c.work_length-size.result (room (goal.at.seeded_rows-requires c).After-work_length-size) ∙ c.work_length-size.ensures,
    )

pub returns : goal.returns
returns c =
    let seed = (rw c.unwrap.ensures at c.as_array.ensures.cases).same in
    let message = (rw c.unwrap-2.ensures at c.as_array-2.ensures.cases).same in
    let sealing = (rw c.unwrap-3.ensures at c.as_array-3.ensures.cases).same in
    let made = rw (seed, message, sealing) at c.seeded_rows.ensures in
    let whole = seeded_filled c.args.set c.args.p c.args.input.now _ _ _ _ c.if-set-lt1.false c.requires.6 made.answer made.rows in
    record { answer = whole.0; rows = whole.1 }
