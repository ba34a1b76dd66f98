-- `ntt_plain::inverse` meets its contract: the array has room for the largest transform.
-- Assumes nothing.
use lib.ListN.{length}
use native.Mathlib.Nat.{le_trans}
use Rattle.calls.proofs.Parts.{array_front}
use Rattle.ntt_plain.proofs.inverse.Goals as goal

pub inverse_with_buffer-requires : goal.inverse_with_buffer-requires
inverse_with_buffer-requires c =
    let pre = c.requires in
    (pre.0, pre.1, pre.2, pre.3, pre.4, array_front 3328 (length c.args.x.now) (le_trans pre.0.size pre.0.few))
