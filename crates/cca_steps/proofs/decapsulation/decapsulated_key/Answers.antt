-- `cca_steps::decapsulation::decapsulated_key` meets its contract: every ciphertext of a set fits the room for the one made again.
-- Assumes nothing.
use native.Mathlib.Omega.{arith}
use Rattle.sets.proofs.Rules.{listed_rules}
use borrow.Author.Rules.{rules}
use Rattle.cca_steps.proofs.decapsulation.decapsulated_key.Goals as goal

pub slice_bounds-again-end : goal.slice_bounds-again-end
slice_bounds-again-end c =
    omega (arith, (listed_rules c.args.p c.requires.1).most_sealed, c.requires.3)

pub decapsulated_with_buffers-requires : goal.decapsulated_with_buffers-requires
decapsulated_with_buffers-requires c =
    (c.requires.0, c.requires.1, search rules, search rules, search rules, search rules)
