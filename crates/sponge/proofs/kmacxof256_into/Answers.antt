-- `sponge::kmacxof256_into` meets its contract.
-- Assumes nothing.
use Rattle.sponge.specs.Kmac.{kmacxof256}
use borrow.Author.Rules.{rules}
use Rattle.sponge.proofs.kmacxof256_into.Goals as goal

pub returns : goal.returns
unfolding kmacxof256
returns c = search rules
