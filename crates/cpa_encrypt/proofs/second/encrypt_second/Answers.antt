-- The array has room for the d numbers of every set.
-- Assumes nothing.
use native.Mathlib.Omega.{arith}
use Rattle.calls.proofs.Parts.{array_front}
use Rattle.sets.proofs.Rules.{listed_rules}
use Rattle.cpa_encrypt.proofs.second.encrypt_second.Goals as goal

pub slice_bounds-sums-end : goal.slice_bounds-sums-end
slice_bounds-sums-end c = omega (arith, (listed_rules c.args.p c.requires.1).most_d)

pub second_with_buffers-requires : goal.second_with_buffers-requires
second_with_buffers-requires c =
    let pre = c.requires in
    (pre.0, pre.1, pre.2, pre.3, pre.4, array_front 256 c.args.p.d (listed_rules c.args.p pre.1).most_d)
