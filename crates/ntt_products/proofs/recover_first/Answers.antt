-- `ntt_products::recover_first` meets its contract: the tables are those of the inverse of the root, or of the root, and the scale is the inverse of the size.
-- Assumes nothing.
use Rattle.sets.proofs.Rules.{listed_rules}
use Rattle.ntt_products.specs.Stored.{recovered, recovered_inverse}
use Rattle.ntt_products.proofs.Sizes.{inverse_below}
use Rattle.ntt_products.proofs.recover_first.Goals as goal

pub size_inverse_of-requires : goal.size_inverse_of-requires
size_inverse_of-requires c =
    listed_rules c.args.p c.requires.0

pub recover_front-requires : goal.recover_front-requires
recover_front-requires c =
    let kept = listed_rules c.args.p c.requires.0 in
    rw c.size_inverse_of.ensures
    (kept, c.requires.1, c.requires.2, inverse_below c.args.p kept c.args.i, c.requires.3)

pub returns : goal.returns
unfolding recovered recovered_inverse
returns c =
    let first = rw c.size_inverse_of.ensures at c.recover_front.ensures in
    record { root = λ tables. first _ tables.root; inverse = λ tables. first _ tables.root }
