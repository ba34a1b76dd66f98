-- `run_scheme::made::fill_noise` meets its contract: each number that is stored is small.
-- Assumes nothing.
use mathlib.Core.Path.{refl, ◌∙◌}
use native.Mathlib.Omega.{arith}
use lib.ListN.{length-set}
use Rattle.run_scheme.proofs.Noise.{sizes_stored}
use Rattle.run_scheme.proofs.made.fill_noise.Goals as goal

pub loop-j-preserved : goal.loop-j-preserved
loop-j-preserved c =
    let at = c.loop-j in (
      sizes_stored at.noise at.j c.made_noise.result (omega arith) c.made_noise.ensures at.invariant.0,
      length-set at.noise at.j _ ∙ at.invariant.1,
    )

pub loop-j-init : goal.loop-j-init
loop-j-init c = (c.requires, refl)
