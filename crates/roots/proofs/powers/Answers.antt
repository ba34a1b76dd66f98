-- The table of the set that serves a set has its powers.
-- Assumes nothing.
use mathlib.Core.Path.{sym, ◌∙◌}
use Rattle.sets.proofs.Served.{roots_set, powers_served}
use Rattle.roots.proofs.powers.Goals as goal

pub powers_of_set-requires : goal.powers_of_set-requires
powers_of_set-requires c = roots_set c.args.p c.requires

pub returns : goal.returns
returns c = c.powers_of_set.ensures ∙ sym (powers_served c.args.p c.requires c.args.i)
