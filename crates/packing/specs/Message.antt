-- The bits of a message and back (003, algorithms 27 and 28): digits of one bit, the least significant of each byte first.
-- Assumes nothing.
use Rattle.std.specs.Prelude.{◌≡◌, refl, List, [], ◌∷◌, ℕ}
use Rattle.maths.specs.Vector.{tabulate}
use Rattle.packing.specs.Digits.{value, digits, pack, unpack}

-- the first count bits of a message's bytes (Encodem), and the first count bytes that bits make (Decodem)
unfoldable pub message_bits_of : ℕ → List ℕ → List ℕ
message_bits_of count message = unpack 1 count message

unfoldable pub message_bytes : ℕ → List ℕ → List ℕ
message_bytes count bits = pack 1 count bits

-- 19 is 00010011, read from the right
message_bits_example : message_bits_of 8 (19 ∷ []) ≡ 1 ∷ 1 ∷ 0 ∷ 0 ∷ 1 ∷ 0 ∷ 0 ∷ 0 ∷ []
unfolding message_bits_of unpack digits value tabulate
message_bits_example = refl

message_bytes_example : message_bytes 1 (1 ∷ 1 ∷ 0 ∷ 0 ∷ 1 ∷ 0 ∷ 0 ∷ 0 ∷ []) ≡ 19 ∷ []
unfolding message_bytes pack digits value tabulate
message_bytes_example = refl
