-- `ntt_products::send_first` meets its contract: the tables are those of the root, or those of its inverse.
-- Assumes nothing.
use Rattle.sets.proofs.Rules.{listed_rules}
use Rattle.ntt_products.specs.Stored.{sent, sent_inverse}
use Rattle.ntt_products.proofs.send_first.Goals as goal

pub send_front-requires : goal.send_front-requires
send_front-requires c = (listed_rules c.args.p c.requires.0, c.requires.1, c.requires.2)

pub returns : goal.returns
unfolding sent sent_inverse
returns c = record { root = λ tables. c.send_front.ensures _ tables.root; inverse = λ tables. c.send_front.ensures _ tables.root }
