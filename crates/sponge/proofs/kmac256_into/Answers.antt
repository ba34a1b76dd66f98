-- `sponge::kmac256_into` meets its contract.
-- Assumes nothing.
use Rattle.sponge.specs.Kmac.{kmac256}
use borrow.Author.Rules.{rules}
use Rattle.sponge.proofs.kmac256_into.Goals as goal

pub returns : goal.returns
unfolding kmac256
returns c = search rules
