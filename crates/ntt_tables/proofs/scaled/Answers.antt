-- `ntt_tables::scaled` meets its contract: the residue of the product with the scaled form of 2^32.
-- Assumes nothing.
use Rattle.ntt_tables.proofs.Fill.{scaled_back}
use Rattle.ntt_tables.proofs.scaled.Goals as goal

pub returns : goal.returns
returns c = scaled_back c.args.reducer.modulus.modulus c.requires.0 c.requires.1 c.settle_number.ensures
