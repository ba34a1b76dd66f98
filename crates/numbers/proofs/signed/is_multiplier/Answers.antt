-- `numbers::signed::is_multiplier` meets its contract: not 0, and within the bound of its position.
-- Assumes nothing.
use mathlib.Core.Path.{◌≡◌, sym, ◌∙◌}
use lib.Dec.{leb}
use lib.IntN.{nat_abs}
use mir.Syntax.{w32}
use mir.ValLaws.{to_z-of_z}
use Rattle.numbers.proofs.MultiplierLaws.{bound_small, multiplier_zero, multiplier_within}
use Rattle.numbers.proofs.signed.is_multiplier.Goals.{After-size_within}
use Rattle.numbers.proofs.signed.is_multiplier.Goals as goal

-- whether the number is 0
zero_tested : (c : After-size_within) → c.size_within.result ≡ leb (nat_abs c.args.z) 0
zero_tested c = rw (to_z-of_z w32 c.args.z c.ranges.z) at c.size_within.ensures

pub returns-then-size_within : goal.returns-then-size_within
returns-then-size_within c =
    multiplier_zero c.args.p c.args.position c.args.z (sym (zero_tested (goal.at.returns-then-size_within c).After-size_within) ∙ c.if-size_within.true)

pub size_within-requires-2 : goal.size_within-requires-2
size_within-requires-2 c =
    rw c.multiplier_bound.ensures (bound_small c.args.p c.requires c.args.position)

pub returns : goal.returns
returns c =
    (rw (to_z-of_z w32 c.args.z c.ranges.z, c.multiplier_bound.ensures) at c.size_within-2.ensures)
    ∙ multiplier_within c.args.p c.args.position c.args.z (sym (zero_tested (goal.at.returns c).After-size_within) ∙ c.if-size_within.false)
