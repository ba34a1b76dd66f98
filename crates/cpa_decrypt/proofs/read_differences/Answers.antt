-- After j turns the first j numbers are bits, and the others are as they were.
-- Assumes nothing.
use mathlib.Core.Path.{refl, sym, ◌∙◌}
use Prim.Native.Nat.{◌<◌}
use native.Mathlib.Nat.{zero-add}
use native.Mathlib.Omega.{arith}
use lib.ListN.{length}
use Rattle.calls.proofs.Filled.{filled_none, filled_more, filled_whole, ahead}
use Rattle.sets.proofs.Rules.{listed_rules}
use Rattle.cpa_decrypt.proofs.Bits.{difference_bits_length, difference_bits_at}
use Rattle.cpa_decrypt.proofs.read_differences.Goals as goal

pub loop-j-init : goal.loop-j-init
loop-j-init c = filled_none (difference_bits_length _ _ _ ∙ sym c.requires.2) (omega arith)

pub bounds-correlations-j : goal.bounds-correlations-j
bounds-correlations-j c =
    omega (arith, c.loop-j.invariant.kept_length, c.requires.2, c.requires.3)

pub difference_bit-requires : goal.difference_bit-requires
difference_bit-requires c =
    let p = c.args.p in
    let turn = c.loop-j in
    let below : turn.j < p.d = omega (arith, turn.invariant.kept_length, c.requires.2) in (
      listed_rules p c.requires.1,
      c.requires.0,
      rw (ahead turn.invariant) (c.requires.4.each turn.j below),
      c.requires.5.each turn.j below,
    )

pub loop-j-preserved : goal.loop-j-preserved
loop-j-preserved c =
    let p = c.args.p in
    let turn = c.loop-j in
    let below : turn.j < length c.args.second.now = omega (arith, turn.invariant.kept_length) in
    filled_more 0 turn.invariant below (sym (zero-add turn.j))
    (c.difference_bit.ensures
    ∙ rw (ahead turn.invariant)
    (sym (difference_bits_at p c.args.second.now c.args.correlations.now turn.j (omega (arith, c.requires.2)))))

pub returns : goal.returns
returns c = filled_whole c.loop-j.invariant refl (omega arith)
