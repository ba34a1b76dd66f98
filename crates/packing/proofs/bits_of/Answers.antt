-- `packing::bits_of` (003, algorithm 27) meets its contract: after i turns the first i bits stand in place.
-- Assumes nothing.
use mathlib.Core.Path.{refl, sym, ◌∙◌}
use Prim.Native.Nat.{◌<◌}
use native.Mathlib.Omega.{arith}
use lib.ListN.{length}
use Rattle.calls.proofs.Filled.{filled_none, filled_more, filled_whole}
use Rattle.packing.proofs.Message.{message_bits_at, message_bits_length}
use Rattle.packing.proofs.bits_of.Goals as goal

pub loop-i-init : goal.loop-i-init
loop-i-init c = filled_none (message_bits_length _ _) (omega arith)

pub loop-i-preserved : goal.loop-i-preserved
loop-i-preserved c =
    let a = c.args in
    let now = c.loop-i in
    let more : now.i < length a.out.now = omega arith in
    filled_more 0 now.invariant more (omega arith)
    (c.bit_at.ensures ∙ sym (message_bits_at (length a.out.now) now.i a.message.now (λ k. (c.type_inv.message k).fits) more))

pub returns : goal.returns
returns c = filled_whole c.loop-i.invariant refl (omega arith)
