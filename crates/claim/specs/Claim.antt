-- Demand 3, one claim for every set from 0 to 12 (01, What demand 3 speaks of): what is handed in, what key, sealing and reading answer and give on it
-- one after the other, and what holds of the bits read.
-- Assumes nothing.
use Rattle.std.specs.Prelude.{◌≡◌, true, List, ℕ, ◌+◌, ◌*◌, ◌<◌, ℤ, nat_abs, length}
use Rattle.maths.specs.Vector.{at}
use Rattle.maths.specs.BitClaim.{BitClaim}
use Rattle.calls.specs.Outcome.{Outcome, accepted, and_then}
use Rattle.sets.specs.Table.{set_of}
use Rattle.sets.specs.Derived.{half_modulus_of, error_count_of, is_encryption, is_exchange, public_key_bytes_of, secret_key_bytes_of, ciphertext_bytes_of}
use Rattle.packing.specs.Digits.{Digit}
use Rattle.numbers.specs.Scheme as numbers
use Rattle.numbers.specs.Calls.{key_answer, sealing_answer, reading_answer}
use Rattle.numbers.specs.Noise.{numbers_noise}
use Rattle.scheme.specs.Encryption.{secret_seed, public_key, ciphertext}
use Rattle.scheme.specs.Exchange.{inner_seed, sealing_seed, exchange_public_key, exchange_secret_key, encapsulated, shared_key, decapsulated_message}
use Rattle.scheme.specs.Exchange.{decapsulated}
use Rattle.scheme.specs.Noise.{noise}
use Rattle.scheme.specs.Bits.{message_bit, message_read}
use Rattle.scheme.specs.Answers.{work_length_of, key_draws, encryption_key_answer, encrypt_answer, decrypt_answer}
use Rattle.scheme.specs.Answers.{exchange_key_answer, encapsulate_answer, decapsulate_answer}

-- what is handed in: the numbers a, s, e, r and the message bits; key seed, sealing seed and message of an encryption; or key seed and message of a
-- key exchange
pub data Handed : Type 0 where
  on_numbers : (a s : List ℕ) (e r : List ℤ) (m : List ℕ) → Handed
  encryption : (seed message sealing : List ℕ) → Handed
  exchange : (seed message : List ℕ) → Handed

-- the set is one of the scheme called, and seeds and message have 003's length; on numbers the calls themselves look at the lengths
abbrev pub Fits : ℕ → Handed → Type 0
Fits set (on_numbers a s e r m) = Unit
Fits set (encryption seed message sealing) =
    (is_encryption set ≡ true) × (length seed ≡ 32) × (length sealing ≡ 32) × (length message ≡ 32) × Digit 8 message
Fits set (exchange seed message) = (is_exchange set ≡ true) × (length seed ≡ 32) × (length message ≡ 32) × Digit 8 message

-- b, c1 and c2 of the numbers handed in
abbrev pub key_of : ℕ → List ℕ → List ℕ → List ℤ → List ℕ
key_of set a s e = numbers.key (set_of set) a s e

abbrev pub first_of : ℕ → List ℕ → List ℤ → List ℕ
first_of set a r = numbers.first_part_of (set_of set) a r

abbrev pub second_of : ℕ → List ℕ → List ℕ → List ℤ → List ℤ → List ℕ → List ℕ
second_of set a s e r m = numbers.second_part (set_of set) (key_of set a s e) r m

-- what the call of key answers, lent slices of the set's lengths
abbrev pub key_answered : ℕ → Handed → Outcome
key_answered set (on_numbers a s e r m) = key_answer set a s e (error_count_of (set_of set))
key_answered set (encryption seed message sealing) =
    encryption_key_answer set seed (public_key_bytes_of (set_of set)) (secret_key_bytes_of set) (work_length_of (set_of set))
key_answered set (exchange seed message) =
    exchange_key_answer set seed (public_key_bytes_of (set_of set)) (secret_key_bytes_of set) (work_length_of (set_of set))

-- what sealing, encrypt or encapsulate answers to the public key so given
abbrev pub sealing_answered : ℕ → Handed → Outcome
sealing_answered set (on_numbers a s e r m) = sealing_answer set a (key_of set a s e) r m ((set_of set).n + (set_of set).k) (set_of set).d
sealing_answered set (encryption seed message sealing) =
    encrypt_answer set (public_key (set_of set) seed) message sealing (ciphertext_bytes_of set) (work_length_of (set_of set))
sealing_answered set (exchange seed message) =
    encapsulate_answer set (exchange_public_key (set_of set) seed) (length message) (ciphertext_bytes_of set) 32 (work_length_of (set_of set))

-- the ciphertext of a key exchange
abbrev pub exchange_ciphertext : ℕ → List ℕ → List ℕ → List ℕ
exchange_ciphertext set seed message = encapsulated (set_of set) (exchange_public_key (set_of set) seed) message

-- what reading, decrypt or decapsulate answers to the secret key and the ciphertext so given
abbrev pub reading_answered : ℕ → Handed → Outcome
reading_answered set (on_numbers a s e r m) = reading_answer set (first_of set a r) (second_of set a s e r m) s (set_of set).d
reading_answered set (encryption seed message sealing) =
    decrypt_answer set (secret_seed (set_of set) seed) (ciphertext (set_of set) (public_key (set_of set) seed) message sealing) 32 (work_length_of (set_of set))
reading_answered set (exchange seed message) =
    decapsulate_answer set (exchange_secret_key (set_of set) seed) (length (exchange_ciphertext set seed message)) 32 (work_length_of (set_of set))

-- no draw is refused. The sealing draws from the public seed of the key again, and small multipliers are never refused, so the key's draws are all.
-- Numbers stand for draws: key and sealing accept them.
abbrev pub drawn : ℕ → Handed → Outcome
drawn set (on_numbers a s e r m) = and_then (key_answered set (on_numbers a s e r m)) (sealing_answered set (on_numbers a s e r m))
drawn set (encryption seed message sealing) = key_draws (set_of set) seed
drawn set (exchange seed message) = key_draws (set_of set) (inner_seed (set_of set) seed)

-- the noise at place j
abbrev pub noise_at_of : ℕ → Handed → ℕ → ℤ
noise_at_of set (on_numbers a s e r m) j = numbers_noise (set_of set) e r j
noise_at_of set (encryption seed message sealing) j = noise (set_of set) seed message sealing j
noise_at_of set (exchange seed message) j = noise (set_of set) (inner_seed (set_of set) seed) message (sealing_seed message) j

-- the bit sent at place j, and the bit that the reading step gives, before decapsulation encrypts it again
abbrev pub bit_sent : ℕ → Handed → ℕ → ℕ
bit_sent set (on_numbers a s e r m) j = at m j
bit_sent set (encryption seed message sealing) j = message_bit (set_of set) message j
bit_sent set (exchange seed message) j = message_bit (set_of set) message j

abbrev pub bit_read : ℕ → Handed → ℕ → ℕ
bit_read set (on_numbers a s e r m) j = at (numbers.reading set (set_of set) (first_of set a r) (second_of set a s e r m) s) j
bit_read set (encryption seed message sealing) j = message_bit (set_of set) (message_read (set_of set) seed message sealing) j
bit_read set (exchange seed message) j =
    message_bit (set_of set) (decapsulated_message (set_of set) (exchange_secret_key (set_of set) seed) (exchange_ciphertext set seed message)) j

-- what the sender has, the message or the shared key of encapsulation, and what the last call gives
abbrev pub held : ℕ → Handed → List ℕ
held set (on_numbers a s e r m) = m
held set (encryption seed message sealing) = message
held set (exchange seed message) = shared_key (set_of set) (exchange_public_key (set_of set) seed) message

abbrev pub given : ℕ → Handed → List ℕ
given set (on_numbers a s e r m) = numbers.reading set (set_of set) (first_of set a r) (second_of set a s e r m) s
given set (encryption seed message sealing) = message_read (set_of set) seed message sealing
given set (exchange seed message) = decapsulated (set_of set) (exchange_secret_key (set_of set) seed) (exchange_ciphertext set seed message)

-- demand 3
pub record Demand3 (set : ℕ) (x : Handed) : Type 0 where
  -- every call is accepted
  pub key_accepts : key_answered set x ≡ accepted
  pub sealing_accepts : sealing_answered set x ≡ accepted
  pub reading_accepts : reading_answered set x ≡ accepted
  -- each bit is read by its noise
  pub bits : (j : ℕ) → j < (set_of set).d → BitClaim (half_modulus_of (set_of set)) (noise_at_of set x j) (bit_sent set x j) (bit_read set x j)
  -- where twice the size of the noise is below h at every place, the last call gives what the sender has
  pub whole : ((j : ℕ) → j < (set_of set).d → 2 * nat_abs (noise_at_of set x j) < half_modulus_of (set_of set)) → given set x ≡ held set x
