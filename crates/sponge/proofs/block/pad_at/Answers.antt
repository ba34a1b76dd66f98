-- `sponge::block::pad_at` writes the padding.
-- Assumes nothing.
use mathlib.Core.Path.{◌≡◌, ap, ◌∙◌}
use mathlib.Core.List.{List, [], ◌∷◌}
use Prim.Native.Nat.{ℕ, ◌+◌, ◌-◌}
use native.Mathlib.Omega.{arith}
use lib.ListN.{length, replicate}
use Rattle.calls.specs.Region.{over}
use Rattle.sponge.proofs.Absorbing.{zeros_lent, padding_last, padding_parts}
use Rattle.sponge.proofs.block.pad_at.Goals as goal

pub returns-then-at-eq135 : goal.returns-then-at-eq135
returns-then-at-eq135 c =
    c.copy_in.ensures ∙ ap (over c.args.block.now c.args.at)
    (padding_last c.args.suffix c.args.at c.if-at-eq135.true)

pub returns : goal.returns
returns c =
    let at = c.args.at in
    let whole : length c.copy_in-2.new.dst ≡ 136 = omega arith in
    c.copy_in-3.ensures
    ∙ ap (λ (x : List ℕ). over x 135 (0x80 ∷ []))
    (zeros_lent c.copy_in-2.new.dst (at + 1) 135 (134 - at) (omega arith) (omega arith) (c.fill.ensures.after (λ y e. e))
    ∙ ap (λ (x : List ℕ). over x (at + 1) (replicate (134 - at) 0)) c.copy_in-2.ensures)
    ∙ padding_parts c.args.block.now at c.args.suffix c.requires.0 (omega (arith, c.requires, c.if-at-eq135.false))
