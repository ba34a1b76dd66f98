-- What the calls of the encryption scheme and the key exchange answer and leave (01, How each call answers: Encryption scheme, Key exchange; 02, No. 1).
-- Assumes nothing.
use Rattle.std.specs.Prelude.{◌≡◌, refl, Bool, true, false, not, ◌&&◌, List, ℕ, zero, suc, ◌+◌, ◌*◌, ltb, eqb, length, replicate, take, drop}
use Rattle.calls.specs.Outcome.{Outcome, accepted, refused, refuse, leaves, and_then}
use Rattle.calls.specs.Checks.{passing, below}
use Rattle.sets.specs.declared.Parameters.{Parameters}
use Rattle.sets.specs.Table.{none, table, set_of, no_set}
use Rattle.sets.specs.Derived.{is_encryption, is_exchange, public_key_bytes_of, secret_key_bytes_of, ciphertext_bytes_of, error_count_of}
use Rattle.draws.specs.Uniform.{Drawn, taken, ended, exhausted}
use Rattle.samplers.specs.Seeded.{secret_drawn, public_drawn}
use Rattle.scheme.specs.Encryption.{secret_seed, public_seed, public_key, key_seed, key_numbers, ciphertext, cipher_first, decrypted_message}
use Rattle.scheme.specs.Exchange.{inner_seed, exchange_public_key, exchange_secret_key, encapsulated, shared_key, decapsulated}

-- 1 when the set is not 1 to 12, then 8 when it is not one of the scheme called
unfoldable pub refuse_set : (ℕ → Bool) → ℕ → Outcome → Outcome
refuse_set is_own set after = refuse (ltb set 1) 1 0 (refuse (no_set set) 1 0 (refuse (not (is_own set)) 8 0 after))

-- the checks of a call, which come before its draws: those of the set, then 2 when the length of a seed, a message, a key or a shared key is not the set's,
-- 9 when that of the ciphertext is not, 10 when that of the work slice is not
unfoldable pub checks : (ℕ → Bool) → ℕ → (slices ciphertext work : Bool) → Outcome
checks is_own set slices ciphertext work =
    refuse_set is_own set (refuse (not slices) 2 0 (refuse (not ciphertext) 9 0 (refuse (not work) 10 0 accepted)))

-- what a call leaves in the work slice: zeros where its checks passed, else what was there
unfoldable pub work_left : Outcome → List ℕ → List ℕ
work_left checked work = leaves checked (replicate (length work) 0) work

-- the length of the work slice that every call of a set is lent: room for a stored secret, one stored vector, the errors of a key, and the stored vectors
-- of a public key
unfoldable pub work_length_of : Parameters → ℕ
work_length_of p = p.d3 + p.d1 + error_count_of p + p.t * p.d1

-- whether a draw took all its numbers; that its candidates end does not happen with the blocks of a set (`uniform_never_ends` of samplers)
abbrev pub is_taken : Drawn → Bool
is_taken (taken xs) = true
is_taken (ended xs run) = false
is_taken (exhausted i) = false

-- whether each of t draws did
unfoldable pub all_taken : ℕ → (ℕ → Drawn) → Bool
all_taken zero draw = true
all_taken (suc t) draw = all_taken t draw && is_taken (draw t)

-- no number of q or more
unfoldable pub only_residues : ℕ → List ℕ → Bool
only_residues q xs = not (ltb (passing (below q) 0 xs) (length xs))

-- 5 when a draw of a key is refused
unfoldable pub key_draws : Parameters → List ℕ → Outcome
key_draws p seed =
    refuse (not (is_taken (secret_drawn p (secret_seed p seed)))) 5 0
    (refuse (not (all_taken p.t (public_drawn p (public_seed p seed)))) 5 0 accepted)

-- 3 when a number of the public key is q or more, then 5 when a draw from its seed is refused
unfoldable pub encrypt_draws : Parameters → List ℕ → Outcome
encrypt_draws p pk =
    refuse (not (only_residues p.q (key_numbers p pk))) 3 0
    (refuse (not (all_taken p.t (public_drawn p (key_seed pk)))) 5 0 accepted)

-- 5 when the draw of the secret is refused
unfoldable pub secret_draw : Parameters → List ℕ → Outcome
secret_draw p sk = refuse (not (is_taken (secret_drawn p sk))) 5 0 accepted

-- 3 when a number of c1 is q or more, then what the draw of the secret answers
unfoldable pub decrypt_draws : Parameters → List ℕ → List ℕ → Outcome
decrypt_draws p sk ct = refuse (not (only_residues p.q (cipher_first p ct))) 3 0 (secret_draw p sk)

-- 3 when a number of the public key inside a secret key of the key exchange is q or more, 5 when the draw of the secret is refused, then what
-- encrypting again answers
unfoldable pub decapsulate_draws : Parameters → List ℕ → Outcome
decapsulate_draws p sk =
    refuse (not (only_residues p.q (key_numbers p (drop 32 sk)))) 3 0
    (refuse (not (is_taken (secret_drawn p (secret_seed p (inner_seed p (take 32 sk)))))) 5 0 (encrypt_draws p (drop 32 sk)))

-- whether the lengths of a public key, a secret key, a ciphertext and a work slice are those of a set
abbrev pub public_fits : (set pk : ℕ) → Bool
public_fits set pk = eqb pk (public_key_bytes_of (set_of set))

abbrev pub secret_fits : (set sk : ℕ) → Bool
secret_fits set sk = eqb sk (secret_key_bytes_of set)

abbrev pub ciphertext_fits : (set ct : ℕ) → Bool
ciphertext_fits set ct = eqb ct (ciphertext_bytes_of set)

abbrev pub work_fits : (set work : ℕ) → Bool
work_fits set work = eqb work (work_length_of (set_of set))

-- the checks of key, which has no ciphertext, by the lengths of seed, public key, secret key and work slice
unfoldable pub key_checks : (ℕ → Bool) → (set seed pk sk work : ℕ) → Outcome
key_checks is_own set seed pk sk work = checks is_own set (eqb seed 32 && public_fits set pk && secret_fits set sk) true (work_fits set work)

-- of encrypt and of encapsulate: public key, message, the sealing seed or the shared key, ciphertext, work slice
unfoldable pub encrypt_checks : (ℕ → Bool) → (set pk message other ct work : ℕ) → Outcome
encrypt_checks is_own set pk message other ct work =
    checks is_own set (public_fits set pk && eqb message 32 && eqb other 32) (ciphertext_fits set ct) (work_fits set work)

-- of decrypt and of decapsulate: secret key, ciphertext, the message or the shared key, work slice
unfoldable pub decrypt_checks : (ℕ → Bool) → (set sk ct given work : ℕ) → Outcome
decrypt_checks is_own set sk ct given work = checks is_own set (secret_fits set sk && eqb given 32) (ciphertext_fits set ct) (work_fits set work)

-- of key, sealing and reading in one call: the slices of all three
unfoldable pub round_trip_checks : (ℕ → Bool) → (set seed message other given pk sk ct work : ℕ) → Outcome
round_trip_checks is_own set seed message other given pk sk ct work =
    checks is_own set
    (eqb seed 32 && eqb message 32 && eqb other 32 && eqb given 32 && public_fits set pk && secret_fits set sk)
    (ciphertext_fits set ct) (work_fits set work)

-- key of the encryption scheme: its answer, and what it leaves in the public key, the secret key and the work slice
unfoldable pub encryption_key_answer : ℕ → List ℕ → ℕ → ℕ → ℕ → Outcome
encryption_key_answer set seed pk sk work = and_then (key_checks is_encryption set (length seed) pk sk work) (key_draws (set_of set) seed)

unfoldable pub encryption_public_left : ℕ → List ℕ → List ℕ → List ℕ → List ℕ → List ℕ
encryption_public_left set seed pk sk work = leaves (encryption_key_answer set seed (length pk) (length sk) (length work)) (public_key (set_of set) seed) pk

unfoldable pub encryption_secret_left : ℕ → List ℕ → List ℕ → List ℕ → List ℕ → List ℕ
encryption_secret_left set seed pk sk work = leaves (encryption_key_answer set seed (length pk) (length sk) (length work)) (secret_seed (set_of set) seed) sk

unfoldable pub encryption_key_work : ℕ → List ℕ → List ℕ → List ℕ → List ℕ → List ℕ
encryption_key_work set seed pk sk work = work_left (key_checks is_encryption set (length seed) (length pk) (length sk) (length work)) work

-- encrypt: its answer, and what it leaves in the ciphertext and the work slice
unfoldable pub encrypt_answer : ℕ → List ℕ → List ℕ → List ℕ → ℕ → ℕ → Outcome
encrypt_answer set pk message seed ct work =
    and_then (encrypt_checks is_encryption set (length pk) (length message) (length seed) ct work) (encrypt_draws (set_of set) pk)

unfoldable pub ciphertext_left : ℕ → List ℕ → List ℕ → List ℕ → List ℕ → List ℕ → List ℕ
ciphertext_left set pk message seed ct work =
    leaves (encrypt_answer set pk message seed (length ct) (length work)) (ciphertext (set_of set) pk message seed) ct

unfoldable pub encrypt_work : ℕ → List ℕ → List ℕ → List ℕ → List ℕ → List ℕ → List ℕ
encrypt_work set pk message seed ct work =
    work_left (encrypt_checks is_encryption set (length pk) (length message) (length seed) (length ct) (length work)) work

-- decrypt: its answer, and what it leaves in the message and the work slice
unfoldable pub decrypt_answer : ℕ → List ℕ → List ℕ → ℕ → ℕ → Outcome
decrypt_answer set sk ct message work =
    and_then (decrypt_checks is_encryption set (length sk) (length ct) message work) (decrypt_draws (set_of set) sk ct)

unfoldable pub message_left : ℕ → List ℕ → List ℕ → List ℕ → List ℕ → List ℕ
message_left set sk ct message work = leaves (decrypt_answer set sk ct (length message) (length work)) (decrypted_message (set_of set) sk ct) message

unfoldable pub decrypt_work : ℕ → List ℕ → List ℕ → List ℕ → List ℕ → List ℕ
decrypt_work set sk ct message work = work_left (decrypt_checks is_encryption set (length sk) (length ct) (length message) (length work)) work

-- key of the key exchange: its answer, and what it leaves in the public key, the secret key and the work slice
unfoldable pub exchange_key_answer : ℕ → List ℕ → ℕ → ℕ → ℕ → Outcome
exchange_key_answer set seed pk sk work = and_then (key_checks is_exchange set (length seed) pk sk work) (key_draws (set_of set) (inner_seed (set_of set) seed))

unfoldable pub exchange_public_left : ℕ → List ℕ → List ℕ → List ℕ → List ℕ → List ℕ
exchange_public_left set seed pk sk work =
    leaves (exchange_key_answer set seed (length pk) (length sk) (length work)) (exchange_public_key (set_of set) seed) pk

unfoldable pub exchange_secret_left : ℕ → List ℕ → List ℕ → List ℕ → List ℕ → List ℕ
exchange_secret_left set seed pk sk work =
    leaves (exchange_key_answer set seed (length pk) (length sk) (length work)) (exchange_secret_key (set_of set) seed) sk

unfoldable pub exchange_key_work : ℕ → List ℕ → List ℕ → List ℕ → List ℕ → List ℕ
exchange_key_work set seed pk sk work = work_left (key_checks is_exchange set (length seed) (length pk) (length sk) (length work)) work

-- encapsulate: its answer, and what it leaves in the ciphertext, the shared key and the work slice
unfoldable pub encapsulate_answer : ℕ → List ℕ → ℕ → ℕ → ℕ → ℕ → Outcome
encapsulate_answer set pk message ct shared work = and_then (encrypt_checks is_exchange set (length pk) message shared ct work) (encrypt_draws (set_of set) pk)

unfoldable pub encapsulated_left : ℕ → List ℕ → List ℕ → List ℕ → List ℕ → List ℕ → List ℕ
encapsulated_left set pk message ct shared work =
    leaves (encapsulate_answer set pk (length message) (length ct) (length shared) (length work)) (encapsulated (set_of set) pk message) ct

unfoldable pub shared_key_left : ℕ → List ℕ → List ℕ → List ℕ → List ℕ → List ℕ → List ℕ
shared_key_left set pk message ct shared work =
    leaves (encapsulate_answer set pk (length message) (length ct) (length shared) (length work)) (shared_key (set_of set) pk message) shared

unfoldable pub encapsulate_work : ℕ → List ℕ → List ℕ → List ℕ → List ℕ → List ℕ → List ℕ
encapsulate_work set pk message ct shared work =
    work_left (encrypt_checks is_exchange set (length pk) (length message) (length shared) (length ct) (length work)) work

-- decapsulate: its answer, and what it leaves in the shared key and the work slice
unfoldable pub decapsulate_answer : ℕ → List ℕ → ℕ → ℕ → ℕ → Outcome
decapsulate_answer set sk ct shared work = and_then (decrypt_checks is_exchange set (length sk) ct shared work) (decapsulate_draws (set_of set) sk)

unfoldable pub decapsulated_left : ℕ → List ℕ → List ℕ → List ℕ → List ℕ → List ℕ
decapsulated_left set sk ct shared work =
    leaves (decapsulate_answer set sk (length ct) (length shared) (length work)) (decapsulated (set_of set) sk ct) shared

unfoldable pub decapsulate_work : ℕ → List ℕ → List ℕ → List ℕ → List ℕ → List ℕ
decapsulate_work set sk ct shared work = work_left (decrypt_checks is_exchange set (length sk) (length ct) (length shared) (length work)) work

-- a key is looked at before ciphertext and work slice
checks_example : checks is_encryption 1 false false false ≡ refused 2 0
unfolding none table set_of is_encryption refuse_set checks
checks_example = refl

-- the ciphertext before the work slice
checks_example₂ : checks is_encryption 1 true false false ≡ refused 9 0
unfolding none table set_of is_encryption refuse_set checks
checks_example₂ = refl

-- the work slice last
checks_example₃ : checks is_encryption 1 true true false ≡ refused 10 0
unfolding none table set_of is_encryption refuse_set checks
checks_example₃ = refl

-- and the set before every length
checks_example₄ : checks is_encryption 7 false false false ≡ refused 8 0
unfolding none table set_of is_encryption refuse_set checks
checks_example₄ = refl
