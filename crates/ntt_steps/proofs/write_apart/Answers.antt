-- `ntt_steps::write_apart` meets its contract: writing changes no length, so every place is inside.
-- Assumes nothing.
use Rattle.ntt_steps.specs.Steps.{written_apart}
use borrow.Author.Rules.{rules}
use Rattle.ntt_steps.proofs.write_apart.Goals as goal

pub returns : goal.returns
unfolding written_apart
returns c = search rules
