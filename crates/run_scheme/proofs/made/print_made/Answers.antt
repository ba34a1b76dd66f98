-- `run_scheme::made::print_made` meets its contract: sixteen zeros are small.
-- Assumes nothing.
use mathlib.Core.Path.{refl}
use native.Mathlib.Omega.{arith}
use Rattle.run_scheme.proofs.Noise.{sizes_zeros}
use Rattle.run_scheme.proofs.made.print_made.Goals as goal

pub print_noise-requires : goal.print_noise-requires
print_noise-requires g c = (sizes_zeros 16, refl, omega arith, omega arith)
