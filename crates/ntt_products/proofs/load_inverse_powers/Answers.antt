-- The table of the root, turned into that of its inverse.
-- Assumes nothing.
use Rattle.ntt_products.proofs.Sizes.{inverted_powers}
use Rattle.ntt_products.proofs.load_inverse_powers.Goals as goal

pub returns : goal.returns
returns c =
    inverted_powers c.args.p c.requires.0 c.args.i c.load_powers.ensures
    c.invert_powers.ensures
