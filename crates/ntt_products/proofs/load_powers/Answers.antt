-- Each arm loads the powers of its root.
-- Assumes nothing.
use Rattle.sets.specs.Derived.{root_powers}
use Rattle.ntt_products.specs.Stored.{inverse_powers}
use Rattle.ntt_products.proofs.load_powers.Goals as goal

pub returns-in-Own : goal.returns-in-Own
unfolding root_powers
returns-in-Own c = rw c.in-Own.is c.load_powers.ensures

pub returns-in-Inverse : goal.returns-in-Inverse
unfolding inverse_powers
returns-in-Inverse c = rw c.in-Inverse.is c.load_inverse_powers.ensures
