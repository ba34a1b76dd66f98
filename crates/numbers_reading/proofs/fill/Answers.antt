-- `numbers_reading::fill` meets its contract: each turn reads one bit.
-- Assumes nothing.
use mathlib.Core.Path.{sym, ◌∙◌}
use Prim.Native.Nat.{◌-◌}
use native.Mathlib.Omega.{arith}
use Rattle.sets.proofs.Rules.{rules as set_rules}
use Rattle.calls.proofs.Filled.{filled_none, filled_more, filled_whole}
use Rattle.numbers.proofs.ReadingLaws.{reading_length, reading_at, opened_below}
use Rattle.numbers_reading.proofs.fill.Goals as goal

pub loop-j-init : goal.loop-j-init
loop-j-init c = filled_none (reading_length _ _ _ _ _) (omega arith)

pub opened_place-requires : goal.opened_place-requires
opened_place-requires c =
    (rw c.requires.1 (set_rules c.args.set c.requires.0), c.requires.2, omega arith)

pub rounded_bit-requires : goal.rounded_bit-requires
rounded_bit-requires c =
    let kept = set_rules c.args.set c.requires.0 in (
      c.requires.0,
      c.requires.1,
      rw c.opened_place.ensures
          (opened_below c.args.p c.args.c1.now c.args.c2.now c.args.s.now c.loop-j.j
          (rw c.requires.1 (omega (arith, kept.prime.above)))),
    )

pub loop-j-preserved : goal.loop-j-preserved
loop-j-preserved c =
    filled_more 0 c.loop-j.invariant (omega arith) (omega arith)
    (c.rounded_bit.ensures
    ∙ rw c.opened_place.ensures
    (sym (reading_at c.args.set c.args.p c.args.c1.now c.args.c2.now c.args.s.now
    c.loop-j.j (omega arith))))

pub returns : goal.returns
returns c = filled_whole c.loop-j.invariant c.requires.3 (omega arith)
