-- The bits are read and put together.
-- Assumes nothing.
use mathlib.Core.Path.{◌∙◌}
use native.Mathlib.Omega.{arith}
use Rattle.cpa_decrypt.specs.Decrypted.{decrypted_message_from}
use Rattle.cpa_decrypt.proofs.Bits.{decrypted_bits_from_below}
use Rattle.cpa_decrypt.proofs.read_with_buffers.Goals as goal

pub bytes_of_bits-requires : goal.bytes_of_bits-requires
bytes_of_bits-requires c =
    let p = c.args.p in
    record {
      digit = rw c.read_bits.ensures (decrypted_bits_from_below p c.args.stored.now c.args.ciphertext.now);
      out_in_bounds = omega
          (arith, c.read_bits.auto, c.requires.6, c.told-message, c.requires.0.message_bits);
    }

pub returns : goal.returns
unfolding decrypted_message_from
returns c =
    c.bytes_of_bits.ensures ∙ rw (c.told-message, c.read_bits.ensures)
