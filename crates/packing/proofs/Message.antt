-- The bits of a message place by place, and the round trips (003, algorithms 27 and 28).
-- Assumes nothing.
use mathlib.Core.Path.{◌≡◌, ap, ◌∙◌}
use mathlib.Core.List.{List}
use Prim.Native.Nat.{ℕ, ◌+◌, ◌-◌, ◌*◌, ◌/◌, ◌%◌, ◌^◌, ◌≤◌, ◌<◌}
use native.Mathlib.Nat.{add-zero, one-mul, div-div-eq-div-mul, lt_of_lt_of_le}
use native.Mathlib.Omega.{arith}
use lib.ListN.{length, drop}
use lib.Pow.{pow-add, pow_mono}
use Rattle.maths.specs.Vector.{at}
use Rattle.maths.proofs.Vector.{tabulate_at}
use Rattle.packing.specs.Digits.{value, digits, pack, unpack, Digit}
use Rattle.packing.specs.Message.{message_bits_of, message_bytes}
use Rattle.packing.proofs.Digits.{value_drop, value_at, unpack_pack, pack_unpack, pack_length, pack_below, unpack_length, unpack_below, window_digit}

-- bit i is bit i mod 8 of byte i div 8
pub message_bits_at : (count i : ℕ) (message : List ℕ) → Digit 8 message → i < count
    → at (message_bits_of count message) i ≡ at message (i / 8) / 2 ^ (i % 8) % 2
unfolding message_bits_of unpack digits
message_bits_at count i message digit h =
    let place : 1 * i ≡ 8 * (i / 8) + i % 8 = omega arith in
    tabulate_at count _ i h
    ∙ rw (place, pow-add, ← div-div-eq-div-mul, value_drop 8 (i / 8) message, value_at 8 (i / 8) message)
    (window_digit 8 (i % 8) 1 (at message (i / 8)) (value 8 (drop (i / 8 + 1) message)) (omega arith))

-- byte i is made of the eight bits from place 8 i on
pub message_bytes_at : (count i : ℕ) (bits : List ℕ) → Digit 1 bits → i < count → at (message_bytes count bits) i ≡ value 1 (drop (8 * i) bits) % 2 ^ 8
unfolding message_bytes pack digits
message_bytes_at count i bits digit h =
    tabulate_at count _ i h ∙ ap (λ (n : ℕ). n % 2 ^ 8) (rw one-mul at (value_drop 1 (8 * i) bits digit))

-- a message's bits give the message back
pub message_bytes_message_bits : (message : List ℕ) → Digit 8 message → message_bytes (length message) (message_bits_of (8 * length message) message) ≡ message
unfolding message_bits_of message_bytes
message_bytes_message_bits message digit = pack_unpack 1 (8 * length message) message digit (omega arith)

-- bits give themselves back from their bytes
pub message_bits_message_bytes : (count : ℕ) (bits : List ℕ) → Digit 1 bits → length bits ≤ 8 * count
    → message_bits_of (length bits) (message_bytes count bits) ≡ bits
unfolding message_bits_of message_bytes
message_bits_message_bytes count bits digit fits = unpack_pack 1 count bits digit (omega arith)

-- as many bits as were asked for
pub message_bits_length : (count : ℕ) (message : List ℕ) → length (message_bits_of count message) ≡ count
unfolding message_bits_of
message_bits_length count message = unpack_length 1 count message

-- a message's bits are below 2
pub message_bits_below : (count : ℕ) (message : List ℕ) → Digit 1 (message_bits_of count message)
unfolding message_bits_of
message_bits_below count message = unpack_below 1 count message

-- as many bytes as were asked for
pub message_bytes_length : (count : ℕ) (bits : List ℕ) → length (message_bytes count bits) ≡ count
unfolding message_bytes
message_bytes_length count bits = pack_length 1 count bits

-- what bits make are bytes
pub message_bytes_below : (count : ℕ) (bits : List ℕ) → Digit 8 (message_bytes count bits)
unfolding message_bytes
message_bytes_below count bits = pack_below 1 count bits

-- the bits of a byte from place k on, gathered from the last one down: the invariant of the loop that makes the byte
pub record Gathered (bits : List ℕ) (from k byte : ℕ) : Type 0 where
  pub within : k ≤ 8
  pub small : byte < 2 ^ (8 - k)
  pub whole : value 1 (drop (from + k) bits) ≡ byte + 2 ^ (8 - k) * value 1 (drop (from + 8) bits)

-- before the first turn
pub gathered_none : (bits : List ℕ) (from : ℕ) → Gathered bits from 8 0
gathered_none bits from = record { within = omega arith; small = omega arith; whole = omega arith }

module _ {bits : List ℕ} {from k byte : ℕ} (g : Gathered bits from k byte) where
  -- what is gathered fits a byte
  pub gathered_below : byte < 2 ^ 8
  gathered_below = lt_of_lt_of_le g.small (pow_mono {i = 8 - k} {j = 8} (omega arith))

  -- a turn takes the bit before
  pub gathered_more : {bit : ℕ} → 0 < k → bit ≡ at bits (from + (k - 1)) → bit < 2 → Gathered bits from (k - 1) (bit + 2 * byte)
  gathered_more {bit} h e b =
      let longer : 8 - (k - 1) ≡ 1 + (8 - k) = omega arith in
      let double : 2 ^ (8 - (k - 1)) ≡ 2 * 2 ^ (8 - k) = rw longer (pow-add 2 1 (8 - k)) in
      let next : from + (k - 1) + 1 ≡ from + k = omega arith in
      record {
        within = omega arith;
        small = rw double (omega arith);
        whole = value_at 1 (from + (k - 1)) bits
            ∙ rw (next, ← e, g.whole, double) (omega arith);
      }

  -- after the last turn
  pub gathered_all : k ≡ 0 → byte ≡ value 1 (drop from bits) % 2 ^ 8
  gathered_all e =
      let split : value 1 (drop from bits) ≡ byte + 2 ^ 8 * value 1 (drop (from + 8) bits) = rw (e, add-zero) at g.whole in
      omega (arith, gathered_below)
