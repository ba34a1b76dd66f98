-- `ntt_plain::settling_factor` meets its contract: each of the four products is one with 2^32.
-- Assumes nothing.
use Rattle.ntt_plain.proofs.Lazily.{settling}
use Rattle.ntt_plain.proofs.settling_factor.Goals as goal

pub returns : goal.returns
returns c =
    let once = c.product-once in
    let twice = c.product-twice in
    let thrice = c.product-thrice in
    settling c.args.e once.result twice.result thrice.result c.args.reducer.modulus.modulus c.requires once.ensures.0 twice.ensures.0
    thrice.ensures.0 c.settle_number.ensures
