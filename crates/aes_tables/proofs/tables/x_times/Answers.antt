-- `aes_tables::tables::x_times` meets its contract, by the rule that is computed for every byte.
-- Assumes nothing.
use Rattle.aes_tables.proofs.Substitution.{doubled_rule}
use borrow.Author.Rules.{rules}
use Rattle.aes_tables.proofs.tables.x_times.Goals as goal

pub returns : goal.returns
returns c = doubled_rule c.args.b (search rules)
