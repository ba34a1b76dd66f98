-- `numbers::signed::residues_of` meets its contract: each turn writes one residue.
-- Assumes nothing.
use mathlib.Core.Path.{refl, sym, ap, ◌∙◌}
use Prim.Native.Nat.{◌-◌}
use native.Mathlib.Omega.{arith}
use lib.IntN.{pos}
use lib.ListN.{get_or, length-map}
use Rattle.maths.specs.Integer.{residue}
use Rattle.calls.proofs.Filled.{filled_none, filled_more, filled_whole}
use Rattle.numbers.proofs.Size.{entry_kept}
use Rattle.numbers.proofs.KeyLaws.{residues_at}
use Rattle.numbers.proofs.signed.residues_of.Goals as goal

pub loop-i-init : goal.loop-i-init
loop-i-init c = filled_none (length-map c.args.zs.now (residue c.args.q) ∙ sym c.requires.2) (omega arith)

pub bounds-zs-i : goal.bounds-zs-i
bounds-zs-i c = omega (arith, c.requires.2)

pub offset_bounds-zs-i : goal.offset_bounds-zs-i
offset_bounds-zs-i c = omega (arith, c.requires.2)

pub of_signed-requires : goal.of_signed-requires
of_signed-requires c =
    let i = c.loop-i.i in
    rw (entry_kept (get_or c.args.zs.now i (pos 0)) c.of_signed-arg-1.given)
    (c.requires.0, c.requires.1, c.requires.3 i (omega (arith, c.requires.2)))

pub loop-i-preserved : goal.loop-i-preserved
loop-i-preserved c =
    let i = c.loop-i.i in
    filled_more 0 c.loop-i.invariant (omega arith) (omega arith)
    (c.of_signed.ensures ∙ ap (residue c.args.q) (entry_kept (get_or c.args.zs.now i (pos 0)) c.of_signed-arg-1.given)
    ∙ sym (residues_at c.args.q c.args.zs.now i))

pub returns : goal.returns
returns c = filled_whole c.loop-i.invariant refl (omega arith)
