-- `residues::of_small` meets its contract: z + 2^24 less 2^24 − q is z + q, of which q is subtracted once or not at all.
-- Assumes nothing.
use mathlib.Core.Path.{◌≡◌, ap, ◌∙◌}
use Prim.Native.Nat.{ℕ, ◌-◌, ◌%◌}
use native.Mathlib.Omega.{arith}
use mir.Syntax.{w32}
use mir.ValLaws.{to_z-of_z}
use Rattle.residues.proofs.Signed.{raise, raised_only, lowered_fits, lowered_below, lowered_residue}
use Rattle.residues.proofs.of_small.Goals as goal

pub raised-requires : goal.raised-requires
raised-requires c = rw (to_z-of_z w32 c.args.z c.ranges.z) (omega arith)

-- what is raised
only : (c : goal.After-raised) → c.raised.result ≡ raise c.args.z
only c = raised_only c.args.z c.ranges.z (omega arith) c.raised.result c.raised.ensures

pub overflow_sub-raised : goal.overflow_sub-raised
overflow_sub-raised c = omega (arith, only c, lowered_fits c.args.q c.requires.1 c.args.z c.requires.0)

pub reduce_once-requires : goal.reduce_once-requires
reduce_once-requires c =
    (omega (arith, only c, lowered_below c.args.q c.requires.1 c.args.z c.requires.0), c.requires.1)

pub returns : goal.returns
returns c =
    let q = c.args.q in
    c.reduce_once.ensures ∙ ap (λ (x : ℕ). (x - (16777216 - q)) % q) (only c.before) ∙ lowered_residue q c.requires.1 c.args.z c.requires.0
