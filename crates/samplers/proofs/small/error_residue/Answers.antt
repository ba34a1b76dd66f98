-- `samplers::small::error_residue` meets its contract: an error is small, and its residue is given.
-- Assumes nothing.
use mathlib.Core.Path.{ap, ◌∙◌}
use Prim.Native.Nat.{◌≤◌}
use native.Mathlib.Omega.{arith}
use mir.Syntax.{w32}
use mir.Val.{SFits}
use mir.Facts.{to_z-of_z}
use lib.IntN.{nat_abs}
use Rattle.maths.specs.Integer.{residue}
use Rattle.draws.specs.Small.{error_at}
use Rattle.draws.proofs.Bits.{error_most}
use borrow.Author.Rules.{rules}
use Rattle.samplers.proofs.small.error_residue.Goals as goal

pub of_small-requires : goal.of_small-requires
of_small-requires c =
    let fits : SFits w32 c.error_of.result = search rules in
    let size : nat_abs c.error_of.result ≤ 4 = rw c.error_of.ensures (error_most _) in
    (rw (to_z-of_z fits) (omega (arith, c.requires.0)), c.requires.1)

pub returns : goal.returns
unfolding error_at
returns c =
    let fits : SFits w32 c.error_of.result = search rules in
    c.of_small.ensures ∙ ap (residue c.args.q) (to_z-of_z fits ∙ c.error_of.ensures)
