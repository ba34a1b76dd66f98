-- `sheet_bench::bytes::copy_signed` meets its contract: each turn writes the next number.
-- Assumes nothing.
use mathlib.Core.Path.{refl, sym, ◌∙◌}
use native.Mathlib.Omega.{arith}
use lib.ListN.{length}
use Rattle.calls.proofs.Filled.{filled_none, filled_more, filled_whole}
use lib.IntN.{pos}
use mir.Syntax.{w32}
use mir.Val.{SFits}
use mir.Facts.{to_z-of_z}
use Rattle.sheet_bench.proofs.Numbers.{signed_length, signed_entry}
use borrow.Author.Rules.{rules}
use Rattle.sheet_bench.proofs.bytes.copy_signed.Goals as goal

pub loop-i-init : goal.loop-i-init
loop-i-init c =
    filled_none (signed_length c.args.input.now c.args.from (length c.args.out.now) (omega arith)) (omega arith)

pub loop-i-preserved : goal.loop-i-preserved
loop-i-preserved c =
    let at = c.loop-i in
    let fits : SFits w32 c.signed.result = search rules in
    filled_more (pos 0) at.invariant (omega arith) (omega arith)
    (to_z-of_z fits ∙ c.signed.ensures
    ∙ sym (signed_entry c.args.input.now c.args.from (length c.args.out.now) at.i (omega arith)))

pub returns : goal.returns
returns c = filled_whole c.loop-i.invariant refl (omega arith)
