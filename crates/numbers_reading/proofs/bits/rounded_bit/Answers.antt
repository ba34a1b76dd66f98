-- `numbers_reading::bits::rounded_bit` meets its contract: by the set, one of the two roundings.
-- Assumes nothing.
use mathlib.Core.Path.{sym, ◌∙◌}
use native.Mathlib.Omega.{arith}
use Rattle.sets.specs.Rules.{Rules}
use Rattle.sets.proofs.Rules.{rules_of, byte_rules_of}
use Rattle.numbers.proofs.BitLaws.{rounded_bit_bench, rounded_bit_threshold}
use Rattle.numbers_reading.proofs.bits.rounded_bit.Goals.{Start}
use Rattle.numbers_reading.proofs.bits.rounded_bit.Goals as goal

-- the record keeps the rules of the set
kept : (start : Start) → Rules start.args.p
kept start = rules_of start.args.set start.requires.0 _ start.requires.1

pub half_modulus-h-requires : goal.half_modulus-h-requires
half_modulus-h-requires c = kept c

pub floor_bit-requires : goal.floor_bit-requires
floor_bit-requires c =
    let rules = kept (goal.at.floor_bit-requires c).Start in
    (omega (arith, rules.odd, rules.prime.above), omega (arith, rules.odd, rules.small), omega (arith, rules.small))

pub returns-then-set-eq0 : goal.returns-then-set-eq0
returns-then-set-eq0 c =
    c.floor_bit.ensures
    ∙ rw c.half_modulus-h.ensures (sym (rounded_bit_bench c.args.set c.args.p c.args.w c.if-set-eq0.true))

pub threshold_bit-requires : goal.threshold_bit-requires
threshold_bit-requires c =
    let rules = kept (goal.at.threshold_bit-requires c).Start in
    (omega (arith, rules.odd, rules.small), omega (arith, rules.small))

pub returns : goal.returns
returns c =
    let other = c.if-set-eq0.false in
    let rules = kept (goal.at.returns c).Start in
    let even = (byte_rules_of c.args.set c.requires.0 _ c.requires.1 (omega arith)).even_half in
    c.threshold_bit.ensures
    ∙ rw c.half_modulus-h.ensures
    (sym (rounded_bit_threshold c.args.set c.args.p c.args.w other (omega (arith, rules.odd, rules.prime.above)) even
    (omega (arith, rules.odd, c.requires.2))))
