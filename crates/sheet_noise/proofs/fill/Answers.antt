-- Each turn writes the noise of the next place.
-- Assumes nothing.
use mathlib.Core.Path.{ap, ◌∙◌}
use Prim.Native.Nat.{ℕ}
use native.Mathlib.Nat.{zero-add}
use native.Mathlib.Omega.{arith}
use mir.Syntax.{w64}
use mir.Val.{SFits}
use mir.Facts.{to_z-of_z}
use Rattle.maths.specs.Vector.{at}
use Rattle.calls.proofs.Filled.{filled_whole}
use Rattle.draws.specs.Calls.{in_turn}
use Rattle.draws.proofs.Laws.{turned_none, turned_more}
use Rattle.sheet_noise.specs.Centred.{centred_noise}
use borrow.Author.Rules.{rules}
use Rattle.sheet_noise.proofs.fill.Goals as goal

pub loop-j-init : goal.loop-j-init
loop-j-init c = turned_none _ _ _

pub offset_bounds-before-j : goal.offset_bounds-before-j
offset_bounds-before-j c = omega (arith, c.requires.0.most_d, c.requires.7, c.requires.8)

pub noise_at-requires : goal.noise_at-requires
noise_at-requires c =
    let pre =
    c.requires in (
      pre.0,
      pre.1,
      pre.2,
      pre.3,
      pre.4,
      pre.5,
      pre.6.each _,
      omega (arith, pre.8, c.loop-j.invariant.kept_length),
    )

pub loop-j-preserved : goal.loop-j-preserved
loop-j-preserved c =
    let fits : SFits w64 c.noise_at.result = search rules in
    turned_more (λ i. centred_noise c.args.p c.args.multipliers.now c.args.errors.now (at c.args.before.now i) i) 0
    c.loop-j.invariant (omega arith) (to_z-of_z fits ∙ c.noise_at.ensures ∙ rw zero-add)

pub returns : goal.returns
returns c =
    filled_whole c.loop-j.invariant (omega arith) (omega arith)
    ∙ ap (λ (n : ℕ). in_turn (λ i. centred_noise c.args.p c.args.multipliers.now c.args.errors.now (at c.args.before.now i) i)
    0 n) c.requires.8
