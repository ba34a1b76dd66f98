-- `montgomery::newton_step` meets its contract: each product is of two numbers of 32 bits.
-- Assumes nothing.
use borrow.Author.Rules.{rules}
use Rattle.montgomery.specs.Scaled.{newton_step_of}
use Rattle.montgomery.proofs.newton_step.Goals as goal

pub returns : goal.returns
unfolding newton_step_of
returns c = search rules
