-- The bits of a message, and the message that 003's algorithms 1 to 3 read of what they sealed (01, What demand 3 speaks of).
-- Assumes nothing.
use Rattle.std.specs.Prelude.{List, ℕ}
use Rattle.maths.specs.Vector.{at}
use Rattle.sets.specs.declared.Parameters.{Parameters}
use Rattle.packing.specs.Message.{message_bits_of}
use Rattle.scheme.specs.Encryption.{secret_seed, public_key, ciphertext, decrypted_message}

-- bit j of a message as 003 lays its bits
unfoldable pub message_bit : Parameters → List ℕ → ℕ → ℕ
message_bit p message j = at (message_bits_of p.d message) j

-- what is read of a message: 003's algorithms 1, 2 and 3 one after the other, from a key seed and a sealing seed
unfoldable pub message_read : Parameters → List ℕ → List ℕ → List ℕ → List ℕ
message_read p seed message seedr = decrypted_message p (secret_seed p seed) (ciphertext p (public_key p seed) message seedr)
