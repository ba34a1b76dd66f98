-- `sheet_bench::bytes::copy_numbers` meets its contract: each turn writes the next number.
-- Assumes nothing.
use mathlib.Core.Path.{refl, sym, ◌∙◌}
use native.Mathlib.Omega.{arith}
use lib.ListN.{length}
use Rattle.calls.proofs.Filled.{filled_none, filled_more, filled_whole}
use Rattle.calls.proofs.Region.{region_length, region_entry}
use Rattle.sheet_bench.proofs.bytes.copy_numbers.Goals as goal

pub loop-i-init : goal.loop-i-init
loop-i-init c =
    filled_none (region_length c.args.input.now c.args.from (length c.args.out.now) (omega arith)) (omega arith)

pub loop-i-preserved : goal.loop-i-preserved
loop-i-preserved c =
    let at = c.loop-i in
    filled_more 0 at.invariant (omega arith) (omega arith)
    (c.from.ensures ∙ sym (region_entry c.args.input.now c.args.from (length c.args.out.now) at.i 0 (omega arith)))

pub returns : goal.returns
returns c = filled_whole c.loop-i.invariant refl (omega arith)
