-- `numbers_sealing::fill_both` meets its contract: the array has room for the residues of all multipliers.
-- Assumes nothing.
use native.Mathlib.Omega.{arith}
use Rattle.numbers_sealing.proofs.fill_both.Goals as goal

pub slice_bounds-rs-end : goal.slice_bounds-rs-end
slice_bounds-rs-end c =
    omega (arith, c.requires.1.multipliers_length, c.requires.0.most_multipliers)

pub fill-requires : goal.fill-requires
fill-requires c = (
  c.requires.0,
  c.requires.1,
  omega (arith, c.requires.1.multipliers_length, c.requires.0.most_multipliers),
  c.requires.2,
  c.requires.3,
)
