-- `residues::of_signed` meets its contract: z is raised by a multiple of q, to less than 2^48.
-- Assumes nothing.
use mathlib.Core.Path.{ap, ◌∙◌}
use Prim.Native.Nat.{◌^◌}
use lib.IntN.{ℤ, pos, ◌+ℤ◌}
use mir.Syntax.{w32}
use mir.ValLaws.{to_z-of_z}
use Rattle.residues.proofs.Signed.{raised_residue}
use Rattle.residues.proofs.of_signed.Goals as goal

pub returns : goal.returns
returns c =
    let raised = c.raised.ensures ∙ ap (λ (z : ℤ). z +ℤ pos (2 ^ 24)) (to_z-of_z w32 c.args.z c.ranges.z) in
    c.reduce_product.ensures ∙ raised_residue c.args.q c.raised.result c.args.z c.requires.0 raised
