-- The arrays have room for a seed and for the d numbers of every set.
-- Assumes nothing.
use native.Mathlib.Omega.{arith}
use Rattle.calls.proofs.Parts.{array_front}
use Rattle.sets.proofs.Rules.{listed_rules}
use Rattle.sheet_noise.proofs.Drawn.{noise_small}
use Rattle.sheet_noise.proofs.noise_of.Goals as goal

pub slice_bounds-before-end : goal.slice_bounds-before-end
slice_bounds-before-end c =
    omega (arith, (listed_rules c.args.p c.requires.1).most_d)

pub noise_with_buffers-requires : goal.noise_with_buffers-requires
noise_with_buffers-requires c =
    let pre = c.requires in
    let long = array_front 256 c.args.p.d (listed_rules c.args.p pre.1).most_d in
    (pre.0, pre.1, pre.2, pre.3, pre.4, pre.5, long)

pub returns : goal.returns
returns c =
    let made = c.noise_with_buffers.ensures in
    let args = c.args in record { values = made; sizes = noise_small args.p c.requires.0 c.requires.1 args.seed.now args.message.now args.sealing.now _ made }
