-- c2 is packed without its low bits.
-- Assumes nothing.
use mathlib.Core.Path.{◌∙◌}
use native.Mathlib.Omega.{arith}
use Rattle.sets.proofs.Rules.{listed_rules}
use Rattle.cpa_encrypt.proofs.Correlating.{second_digits, second_packed}
use Rattle.cpa_encrypt.proofs.second.second_with_buffers.Goals as goal

pub pack_dropping-requires : goal.pack_dropping-requires
pack_dropping-requires c =
    let p = c.args.p in
    record {
      widths = record { least = omega (arith, c.requires.0.kept_byte); most = omega (arith, (listed_rules p c.requires.1).width_most) };
      digit = second_digits p c.requires.1 c.args.numbers.now c.args.multipliers.now c.args.message.now _ c.second_numbers.ensures;
    }

pub returns : goal.returns
returns c =
    c.pack_dropping.ensures
    ∙ second_packed c.args.p c.requires.1 c.args.numbers.now c.args.multipliers.now c.args.message.now _ _ c.requires.4
    c.second_numbers.ensures
