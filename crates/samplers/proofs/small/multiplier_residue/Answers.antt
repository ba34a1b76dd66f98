-- `samplers::small::multiplier_residue` meets its contract: a multiplier is small, and its residue is given.
-- Assumes nothing.
use mathlib.Core.Path.{ap, ◌∙◌}
use Prim.Native.Nat.{◌<◌}
use native.Mathlib.Omega.{arith}
use mir.Syntax.{w32}
use mir.Val.{SFits}
use mir.Facts.{to_z-of_z}
use lib.IntN.{nat_abs}
use Rattle.maths.specs.Integer.{residue}
use Rattle.draws.proofs.Positions.{lent_whole}
use Rattle.samplers.proofs.Values.{multiplier_below}
use borrow.Author.Rules.{rules}
use Rattle.samplers.proofs.small.multiplier_residue.Goals as goal

pub multiplier_at-requires : goal.multiplier_at-requires
multiplier_at-requires c =
    (c.requires.0, c.requires.1, c.requires.3, lent_whole c.args.p _ c.args.position c.requires.1 c.requires.3 (omega arith))

pub of_small-requires : goal.of_small-requires
of_small-requires c =
    let fits : SFits w32 c.multiplier_at.result = search rules in
    let size : nat_abs c.multiplier_at.result < c.args.p.q =
    rw c.multiplier_at.ensures (multiplier_below c.args.p c.requires.0 _ c.args.position) in
    (rw (to_z-of_z fits) size, search rules)

pub returns : goal.returns
returns c =
    let fits : SFits w32 c.multiplier_at.result = search rules in
    c.of_small.ensures ∙ ap (residue c.args.p.q) (to_z-of_z fits ∙ c.multiplier_at.ensures)
