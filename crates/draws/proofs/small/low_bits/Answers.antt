-- `draws::small::low_bits` meets its contract: a mask of low bits is a remainder.
-- Assumes nothing.
use Rattle.draws.proofs.Bits.{mask_some, mask_is, mask_most}
use Rattle.draws.proofs.small.low_bits.Goals as goal

pub overflow_sub-result : goal.overflow_sub-result
overflow_sub-result c = mask_some c.args.bits c.requires

pub returns : goal.returns
returns c =
    let same = mask_is c.args.bits c.requires c.args.x in
    (same, rw same (mask_most c.args.bits c.requires c.args.x))
