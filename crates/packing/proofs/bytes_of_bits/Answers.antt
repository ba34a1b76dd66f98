-- `packing::bytes_of_bits` (003, algorithm 28) meets its contract: after i turns the first i bytes stand in place.
-- Assumes nothing.
use mathlib.Core.Path.{refl, sym, ◌∙◌}
use Prim.Native.Nat.{◌<◌}
use native.Mathlib.Omega.{arith}
use lib.ListN.{length}
use Rattle.calls.proofs.Filled.{filled_none, filled_more, filled_whole}
use Rattle.packing.proofs.Message.{message_bytes_at, message_bytes_length}
use Rattle.packing.proofs.bytes_of_bits.Goals as goal

pub loop-i-init : goal.loop-i-init
loop-i-init c = filled_none (message_bytes_length _ _) (omega arith)

pub byte_of_bits-requires : goal.byte_of_bits-requires
byte_of_bits-requires c =
    record { from_bound = omega arith; digit = c.requires.digit }

pub loop-i-preserved : goal.loop-i-preserved
loop-i-preserved c =
    let a = c.args in
    let now = c.loop-i in
    let more : now.i < length a.out.now = omega arith in
    filled_more 0 now.invariant more (omega arith)
    (c.byte_of_bits.ensures ∙ sym (message_bytes_at (length a.out.now) now.i a.bits.now c.requires.digit more))

pub returns : goal.returns
returns c = filled_whole c.loop-i.invariant refl (omega arith)
