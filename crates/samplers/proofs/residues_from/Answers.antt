-- `samplers::residues_from` meets its contract: a block is read into the first bytes of a local array.
-- Assumes nothing.
use Rattle.calls.proofs.Parts.{array_front}
use borrow.Author.Rules.{rules}
use Rattle.samplers.proofs.residues_from.Goals as goal

pub residues_with_buffers-requires : goal.residues_with_buffers-requires
residues_with_buffers-requires c =
    rw (array_front 10158 c.args.size c.requires.rules.3) (search rules)

pub returns : goal.returns
returns c =
    let whole = rw (array_front 10158 c.args.size c.requires.rules.3) at c.residues_with_buffers.ensures in
    record { answer = whole.answer; result = whole.result }
