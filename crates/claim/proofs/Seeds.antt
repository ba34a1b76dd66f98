-- Demand 3 from the seeds, for the encryption scheme and for the key exchange: each call accepts what the call before it gave, and each bit is read
-- by its noise.
-- Assumes nothing.
use mathlib.Core.Path.{◌≡◌, refl, sym, ◌∙◌}
use mathlib.Core.Bool.{Bool, true}
use mathlib.Core.List.{List}
use Prim.Native.Nat.{ℕ, ◌+◌, ◌≤◌}
use native.Mathlib.Omega.{arith}
use borrow.Author.Tests.{eq-eqb}
use lib.ListN.{length, length-append, length-drop}
use Rattle.calls.specs.Outcome.{Outcome, accepted, and_then}
use Rattle.sets.specs.declared.Parameters.{Parameters}
use Rattle.sets.specs.Table.{set_of, IsSet}
use Rattle.sets.specs.Derived.{is_encryption, is_exchange, public_key_bytes_of, secret_key_bytes_of, ciphertext_bytes_of, cpa_ciphertext_bytes_of}
use Rattle.sets.proofs.Schemes.{encryption_only, encryption_some, exchange_some}
use Rattle.sets.proofs.Lengths.{secret_exchange, secret_other, ciphertext_exchange, ciphertext_other}
use Rattle.sponge.proofs.Laws.{shake256_length}
use Rattle.packing.specs.Digits.{Digit}
use Rattle.scheme.specs.Encryption.{secret_seed, public_key, ciphertext}
use Rattle.scheme.specs.Exchange.{inner_seed, sealing_seed, check_bytes, exchange_public_key, exchange_secret_key, encapsulated}
use Rattle.scheme.specs.Conditions.{Conditions}
use Rattle.scheme.specs.Answers.{checks, work_length_of, key_checks, encrypt_checks, decrypt_checks}
use Rattle.scheme.specs.Answers.{key_draws, encryption_key_answer, encrypt_answer, decrypt_answer, exchange_key_answer, encapsulate_answer, decapsulate_answer}
use Rattle.scheme.proofs.Conditions.{set_conditions}
use Rattle.scheme.proofs.Bytes.{secret_seed_length, public_key_length, ciphertext_length}
use Rattle.scheme.proofs.Answers.{checks_pass, both_fit}
use Rattle.scheme.proofs.Claim as encryptions
use Rattle.scheme.proofs.Exchange as exchanges
use Rattle.claim.specs.Claim.{encryption, exchange, Demand3}
use Rattle.claim.proofs.Draws.{sealing_drawn, reading_drawn, encapsulation_drawn, decapsulation_drawn}

-- a call of a set of its own, with slices of the set's lengths, answers by its draws
by_draws : (is_own : ℕ → Bool) (set : ℕ) {slices ciphertext work : Bool} (draws : Outcome) → 1 ≤ set → IsSet set → is_own set ≡ true
    → slices ≡ true → ciphertext ≡ true → work ≡ true → draws ≡ accepted → and_then (checks is_own set slices ciphertext work) draws ≡ accepted
by_draws is_own set draws some low own fit sealed-fits work-fits drawn =
    rw (checks_pass is_own set _ _ _ (some, omega arith, own) fit sealed-fits work-fits, drawn)

module _ {p : Parameters} (c : Conditions p) where
  -- how many bytes a public key of the key exchange has
  public_length : (seed : List ℕ) → length (exchange_public_key p seed) ≡ public_key_bytes_of p
  unfolding exchange_public_key
  public_length seed = public_key_length c (inner_seed p seed)

  -- a secret key
  secret_length : (seed : List ℕ) → length seed ≡ 32 → length (exchange_secret_key p seed) ≡ 32 + public_key_bytes_of p
  unfolding exchange_secret_key
  secret_length seed size = rw (length-append, size, public_length seed)

  -- a ciphertext
  encapsulated_length : (pk message : List ℕ) → length (encapsulated p pk message) ≡ cpa_ciphertext_bytes_of p + 32
  unfolding encapsulated check_bytes
  encapsulated_length pk message = rw (length-append, ciphertext_length c pk message (sealing_seed message), length-drop, shake256_length message 64)

module _ (set : ℕ) (low : IsSet set) (own : is_encryption set ≡ true) (seed sealing message : List ℕ)
    (seed-size : length seed ≡ 32) (sealing-size : length sealing ≡ 32) (message_size : length message ≡ 32) (bytes : Digit 8 message)
    (drawn : key_draws (set_of set) seed ≡ accepted)
  where
    some : 1 ≤ set
    some = encryption_some set own

    conditions : Conditions (set_of set)
    conditions = set_conditions set some low

    -- the secret key of the encryption scheme is one seed
    secret_size : length (secret_seed (set_of set) seed) ≡ secret_key_bytes_of set
    secret_size = secret_seed_length (set_of set) seed ∙ sym (secret_other set (encryption_only set own))

    sealed_size : length (ciphertext (set_of set) (public_key (set_of set) seed) message sealing) ≡ ciphertext_bytes_of set
    sealed_size = ciphertext_length conditions (public_key (set_of set) seed) message sealing ∙ sym (ciphertext_other set (encryption_only set own))

    -- demand 3
    pub encryption_claim : Demand3 set (encryption seed message sealing)
    unfolding key_checks encrypt_checks decrypt_checks encryption_key_answer encrypt_answer decrypt_answer
    encryption_claim =
        let p = set_of set in
        record {
          key_accepts =
              by_draws is_encryption set (key_draws p seed) some low own
              (both_fit (both_fit (eq-eqb (length seed) 32 seed-size) (eq-eqb (public_key_bytes_of p) _ refl)) (eq-eqb (secret_key_bytes_of set) _ refl))
              refl (eq-eqb (work_length_of p) _ refl) drawn;
          sealing_accepts =
              by_draws is_encryption set _ some low own
              (both_fit (both_fit (eq-eqb _ _ (public_key_length conditions seed)) (eq-eqb (length message) 32 message_size))
              (eq-eqb (length sealing) 32 sealing-size))
              (eq-eqb (ciphertext_bytes_of set) _ refl) (eq-eqb (work_length_of p) _ refl) (sealing_drawn conditions seed drawn);
          reading_accepts =
              by_draws is_encryption set _ some low own
              (both_fit (eq-eqb _ _ secret_size) refl) (eq-eqb _ _ sealed_size) (eq-eqb (work_length_of p) _ refl)
              (reading_drawn conditions seed drawn (public_key p seed) message sealing);
          bits = encryptions.claim conditions seed message sealing;
          whole = encryptions.returned conditions seed message sealing message_size bytes;
        }

module _ (set : ℕ) (low : IsSet set) (own : is_exchange set ≡ true) (seed message : List ℕ)
    (seed-size : length seed ≡ 32) (message_size : length message ≡ 32) (bytes : Digit 8 message)
    (drawn : key_draws (set_of set) (inner_seed (set_of set) seed) ≡ accepted)
  where
    exchange_conditions : Conditions (set_of set)
    exchange_conditions = set_conditions set (exchange_some set own) low

    -- demand 3
    pub exchange_claim : Demand3 set (exchange seed message)
    unfolding key_checks encrypt_checks decrypt_checks exchange_key_answer encapsulate_answer decapsulate_answer
    exchange_claim =
        let p = set_of set in
        let c = exchange_conditions in
        let some = exchange_some set own in
        record {
          key_accepts =
              by_draws is_exchange set (key_draws p (inner_seed p seed)) some low own
              (both_fit (both_fit (eq-eqb (length seed) 32 seed-size) (eq-eqb (public_key_bytes_of p) _ refl)) (eq-eqb (secret_key_bytes_of set) _ refl))
              refl (eq-eqb (work_length_of p) _ refl) drawn;
          sealing_accepts =
              by_draws is_exchange set _ some low own
              (both_fit (both_fit (eq-eqb _ _ (public_length c seed)) (eq-eqb (length message) 32 message_size)) refl)
              (eq-eqb (ciphertext_bytes_of set) _ refl) (eq-eqb (work_length_of p) _ refl) (encapsulation_drawn c seed drawn);
          reading_accepts =
              by_draws is_exchange set _ some low own
              (both_fit (eq-eqb _ _ (secret_length c seed seed-size ∙ sym (secret_exchange set own))) refl)
              (eq-eqb _ _ (encapsulated_length c (exchange_public_key p seed) message ∙ sym (ciphertext_exchange set own))) (eq-eqb (work_length_of p) _ refl)
              (decapsulation_drawn c seed drawn seed-size);
          bits = exchanges.claim c seed message seed-size;
          whole = exchanges.same_key c seed message seed-size message_size bytes;
        }
