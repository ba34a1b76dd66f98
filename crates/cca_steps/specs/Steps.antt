-- Steps of decapsulation on the way (003, section 2.3.2, algorithm 31, lines 9 to 15).
-- Assumes nothing.
use Rattle.std.specs.Prelude.{cond, List, ℕ, take}
use Rattle.calls.specs.Outcome.{Outcome}
use Rattle.sets.specs.declared.Parameters.{Parameters}
use Rattle.scheme.specs.Encryption.{secret_seed}
use Rattle.scheme.specs.Exchange.{inner_seed, encapsulated, shared_hash, same}
use Rattle.scheme.specs.Answers.{secret_draw}

-- the draw of the secret of a secret key
abbrev pub inner_draw : Parameters → List ℕ → Outcome
inner_draw p sk = secret_draw p (secret_seed p (inner_seed p (take 32 sk)))

-- the shared key from the message read: it is hashed where encapsulating it again gives the ciphertext, else the reject bytes are
unfoldable pub key_of_message_of : Parameters → List ℕ → List ℕ → List ℕ → List ℕ → List ℕ
key_of_message_of p pk message reject ct = shared_hash (cond (same (encapsulated p pk message) ct) message reject) ct
