-- c2 is unpacked, and each number read as a bit with the correlation at its place.
-- Assumes nothing.
use mathlib.Core.Path.{ap₂, ◌∙◌}
use native.Mathlib.Omega.{arith}
use Rattle.sets.proofs.Rules.{listed_rules}
use Rattle.cpa_decrypt.specs.Decrypted.{difference_bits, decrypted_bits_from}
use Rattle.sets.proofs.Transforms.{third_size}
use Rattle.cpa_decrypt.proofs.First.{front_below}
use Rattle.cpa_decrypt.proofs.Bits.{difference_bits_front, second_unpacked}
use Rattle.cpa_decrypt.proofs.Room.{second_widths, second_double}
use Rattle.cpa_decrypt.proofs.read_bits.Goals as goal

pub unpack_dropped-requires : goal.unpack_dropped-requires
unpack_dropped-requires c =
    let p = c.args.p in
    second_widths p (listed_rules p c.requires.1) c.requires.0

pub read_differences-requires : goal.read_differences-requires
read_differences-requires c =
    let p = c.args.p in
    let kept = listed_rules p c.requires.1 in (
      c.requires.0,
      c.requires.1,
      omega (arith, c.unpack_dropped.auto, c.requires.6),
      omega (arith, c.correlate_first.auto, c.requires.5, third_size p, kept.holds3, kept.some_n, kept.some_k),
      rw (c.unpack_dropped.ensures, c.requires.6) (second_double p kept _ _),
      front_below p c.args.stored.now c.args.ciphertext.now _ (omega (arith, kept.odd)) c.correlate_first.ensures,
    )

pub returns : goal.returns
unfolding decrypted_bits_from
returns c =
    let from = c.first_bytes-from in
    let p = c.args.p in
    c.read_differences.ensures
    ∙ difference_bits_front p _ _
    ∙ ap₂ (difference_bits p)
    (c.unpack_dropped.ensures ∙ rw c.requires.6 (second_unpacked p c.args.ciphertext.now from.result from.ensures.0))
    c.correlate_first.ensures
