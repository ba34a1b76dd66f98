-- The claim, for any parameters that meet the conditions, any key seed, message and sealing seed.
-- Where a draw is refused the calls refuse; the laws here hold all the same, for the numbers that it took.
-- Assumes nothing.
use mathlib.Core.Path.{◌≡◌, sym, ap, ◌∙◌}
use mathlib.Core.List.{List}
use Prim.Native.Nat.{ℕ, ◌+◌, ◌*◌, ◌/◌, ◌%◌, ◌≤◌, ◌<◌}
use native.Mathlib.Nat.{mod-eq_of_lt}
use native.Mathlib.Omega.{arith}
use lib.IntN.{nat_abs}
use lib.ListN.{length}
use Rattle.maths.specs.Vector.{at}
use Rattle.maths.specs.Integer.{residue}
use Rattle.maths.specs.Rounding.{centred_bit}
use Rattle.maths.specs.BitClaim.{BitClaim}
use Rattle.maths.proofs.Vector.{equal_by_place}
use Rattle.maths.proofs.Rounding.{centred_bit_claim}
use Rattle.sets.specs.declared.Parameters.{Parameters}
use Rattle.sets.specs.Derived.{half_modulus_of}
use Rattle.packing.specs.Digits.{Digit}
use Rattle.packing.specs.Message.{message_bits_of, message_bytes}
use Rattle.packing.proofs.Laws.{message_bits_below, message_bits_length, message_bits_message_bytes, message_bytes_message_bits, message_bytes_length}
use Rattle.packing.proofs.Laws.{message_bytes_below}
use Rattle.scheme.specs.Encryption.{secret_seed, public_key, ciphertext, decrypted_number, decrypted_bits, decrypted_message}
use Rattle.scheme.specs.Noise.{noise}
use Rattle.scheme.specs.Conditions.{Conditions}
use Rattle.scheme.specs.Bits.{message_bit, message_read}
use Rattle.scheme.proofs.Conditions.{positive}
use Rattle.scheme.proofs.Places.{decrypted_bits_length, decrypted_bits_at, decrypted_bits_below, decrypted_number_below}
use Rattle.scheme.proofs.Noise.{noisy}

-- a bit is 0 or 1
pub message_bit_bit : (p : Parameters) (message : List ℕ) (j : ℕ) → message_bit p message j ≤ 1
unfolding message_bit
message_bit_bit p message j = omega (arith, message_bits_below p.d message j)

module _ {p : Parameters} (c : Conditions p) where
  -- the bits of the message read are the bits read
  pub decrypted_message_bits : (seedsk ct : List ℕ) → message_bits_of p.d (decrypted_message p seedsk ct) ≡ decrypted_bits p seedsk ct
  unfolding decrypted_message
  decrypted_message_bits seedsk ct =
      let bits : List ℕ = decrypted_bits p seedsk ct in
      let size : length bits ≡ p.d = decrypted_bits_length p seedsk ct in
      ap (λ (n : ℕ). message_bits_of n (message_bytes 32 bits)) (sym size)
      ∙ message_bits_message_bytes 32 bits (decrypted_bits_below p seedsk ct) (omega (arith, c.bytes.message_bits))

  -- a message of 32 bytes comes back from its bits
  bits_back : (message : List ℕ) → length message ≡ 32 → Digit 8 message → message_bytes 32 (message_bits_of p.d message) ≡ message
  bits_back message size bytes =
      let count : p.d ≡ 8 * length message = omega (arith, c.bytes.message_bits) in
      ap (λ (n : ℕ). message_bytes n (message_bits_of p.d message)) (sym size)
      ∙ ap (λ (n : ℕ). message_bytes (length message) (message_bits_of n message)) count
      ∙ message_bytes_message_bits message bytes

  -- two messages of 32 bytes with the same bits are equal
  same_message : (sent read : List ℕ) → length sent ≡ 32 → Digit 8 sent → length read ≡ 32 → Digit 8 read
      → ((j : ℕ) → j < p.d → message_bit p read j ≡ message_bit p sent j) → read ≡ sent
  unfolding message_bit
  same_message sent read size bytes size-read bytes_read same =
      sym (bits_back read size-read bytes_read)
      ∙ ap (message_bytes 32) (equal_by_place p.d _ _ (message_bits_length p.d read) (message_bits_length p.d sent) same)
      ∙ bits_back sent size bytes

  module _ (seed message seedr : List ℕ) where
    -- the bit read at place j is 003's rounding of c' there
    bit_rounds : (j : ℕ) → j < p.d → message_bit p (message_read p seed message seedr) j ≡ centred_bit (half_modulus_of p)
        (decrypted_number p (secret_seed p seed) (ciphertext p (public_key p seed) message seedr) j)
    unfolding message_bit message_read
    bit_rounds j inside =
        let ct : List ℕ = ciphertext p (public_key p seed) message seedr in
        ap (λ (bits : List ℕ). at bits j) (decrypted_message_bits (secret_seed p seed) ct) ∙ decrypted_bits_at p (secret_seed p seed) ct j inside

    -- c' there is the residue of the noise plus h times the bit sent
    opened_noisy : (j : ℕ) → j < p.d
        → decrypted_number p (secret_seed p seed) (ciphertext p (public_key p seed) message seedr)
        j ≡ (residue p.q (noise p seed message seedr j) + half_modulus_of p * message_bit p message j) % p.q
    opened_noisy j inside =
        let ct : List ℕ = ciphertext p (public_key p seed) message seedr in
        sym (mod-eq_of_lt (decrypted_number_below p (secret_seed p seed) ct j (positive c))) ∙ (noisy c seed message seedr j inside).same

    -- the claim at a place: key, encryption and decryption, from the two seeds and the message to the message read
    pub claim : (j : ℕ) → j < p.d
        → BitClaim (half_modulus_of p) (noise p seed message seedr j) (message_bit p message j) (message_bit p (message_read p seed message seedr) j)
    claim j inside =
        rw (bit_rounds j inside)
        (centred_bit_claim (half_modulus_of p) p.q (message_bit p message j) _ (noise p seed message seedr j) c.rules.odd (message_bit_bit p message j)
        (opened_noisy j inside) (half_modulus_of p / 2) c.bytes.even_half)

    -- a message of 32 bytes comes back whole where twice the size of the noise is below h at every place
    pub returned : length message ≡ 32 → Digit 8 message → ((j : ℕ) → j < p.d → 2 * nat_abs (noise p seed message seedr j) < half_modulus_of p)
        → message_read p seed message seedr ≡ message
    unfolding message_read decrypted_message
    returned size bytes small =
        let bits : List ℕ = decrypted_bits p (secret_seed p seed) (ciphertext p (public_key p seed) message seedr) in
        same_message message (message_read p seed message seedr) size bytes (message_bytes_length 32 bits) (message_bytes_below 32 bits)
        (λ j inside. (claim j inside).reads (small j inside))
