-- `ntt_plain::forward` meets its contract: the array has room for the largest transform.
-- Assumes nothing.
use lib.ListN.{length}
use Rattle.calls.proofs.Parts.{array_front}
use Rattle.ntt_plain.proofs.forward.Goals as goal

pub forward_with_buffer-requires : goal.forward_with_buffer-requires
forward_with_buffer-requires c =
    let pre = c.requires in
    (pre.0, pre.1, pre.2, pre.3, pre.4, array_front 3328 (length c.args.powers.now) pre.0.few)
