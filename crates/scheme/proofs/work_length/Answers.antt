-- `scheme::work_length` adds numbers that the rules of a set keep small.
-- Assumes nothing.
use Rattle.scheme.specs.Answers.{work_length_of}
use borrow.Author.Rules.{rules}
use Rattle.scheme.proofs.work_length.Goals as goal

pub returns : goal.returns
unfolding work_length_of
returns c = search rules
