-- `numbers_reading::numbers_checked` meets its contract: c1 and c2 are checked before s.
-- Assumes nothing.
use mathlib.Core.Path.{sym, ◌∙◌}
use mathlib.Core.List.{◌++◌}
use Prim.Native.Nat.{◌+◌}
use lib.ListN.{length}
use Rattle.calls.specs.Outcome.{accepted}
use Rattle.calls.specs.Checks.{below, refuse_first}
use Rattle.calls.proofs.Outcome.{handed_on}
use Rattle.middle.proofs.Chained.{first_refused, first_accepted}
use Rattle.numbers.proofs.ReadingLaws.{three_slices}
use Rattle.numbers_reading.proofs.numbers_checked.Goals as goal

pub returns-in_err-two_checked : goal.returns-in_err-two_checked
returns-in_err-two_checked c =
    let q = c.args.q in
    let c1 = c.args.c1.now in
    let c2 = c.args.c2.now in
    let s = c.args.s.now in
    let later = refuse_first (below q) 0 (length c1 + length c2) s accepted in
    handed_on _ c.from_residual.result c.from_residual.ensures.1
    ∙ first_refused (below q) 0 (c1 ++ c2) later c.in_err-two_checked.ensures
    ∙ sym (three_slices q c1 c2 s accepted)

pub returns : goal.returns
returns c =
    let q = c.args.q in
    let c1 = c.args.c1.now in
    let c2 = c.args.c2.now in
    let s = c.args.s.now in
    let later = refuse_first (below q) 0 (length c1 + length c2) s accepted in
    c.one_checked.ensures ∙ first_accepted (below q) 0 (c1 ++ c2) later c.in_ok-two_checked.ensures
    ∙ sym (three_slices q c1 c2 s accepted)
