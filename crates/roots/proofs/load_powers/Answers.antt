-- There are as many powers as places.
-- Assumes nothing.
use mathlib.Core.Path.{◌≡◌, sym, ap, ◌∙◌}
use native.Mathlib.Omega.{arith}
use lib.ListN.{length}
use Rattle.calls.proofs.Region.{over_whole}
use Rattle.maths.proofs.PowerTable.{power_table_length}
use Rattle.sets.specs.Derived.{root_powers}
use Rattle.roots.proofs.load_powers.Goals.{After-powers}
use Rattle.roots.proofs.load_powers.Goals as goal

as_many : (c : After-powers) → length c.powers.result.now ≡ length c.args.out.now
unfolding root_powers
as_many c = ap length c.powers.ensures ∙ power_table_length _ _ _ ∙ sym c.requires.1

pub copy_in-requires : goal.copy_in-requires
copy_in-requires c = omega (arith, as_many (goal.at.copy_in-requires c).After-powers)

pub returns : goal.returns
returns c = c.copy_in.ensures ∙ over_whole _ _ (as_many (goal.at.returns c).After-powers) ∙ c.powers.ensures
