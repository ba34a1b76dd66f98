-- Laws of key, encrypt and decrypt called in turn: from what each promises to the answer, the slices and the claim of the whole.
-- Assumes nothing.
use mathlib.Core.Path.{◌≡◌, refl, sym, ap, ◌∙◌}
use mathlib.Core.List.{List}
use Prim.Native.Nat.{ℕ}
use native.Mathlib.Omega.{arith}
use lib.ListN.{length, replicate, length-replicate}
use Rattle.calls.specs.Outcome.{Outcome, accepted, refused, leaves}
use Rattle.calls.proofs.Outcome.{accepted_refused, leaves_accepted, leaves_refused}
use Rattle.sets.specs.Table.{set_of}
use Rattle.sets.specs.Derived.{is_encryption, ciphertext_bytes_of}
use Rattle.packing.specs.Digits.{Digit}
use Rattle.scheme.specs.Encryption.{secret_seed, public_key, ciphertext, decrypted_message}
use Rattle.scheme.specs.Bits.{message_read}
use Rattle.scheme.specs.Answers.{key_checks, encrypt_checks, decrypt_checks, key_draws, work_length_of, work_left}
use Rattle.scheme.specs.Answers.{encryption_key_answer, encryption_public_left, encryption_secret_left, encryption_key_work}
use Rattle.scheme.specs.Answers.{encrypt_answer, ciphertext_left, encrypt_work, decrypt_answer, message_left, decrypt_work}
use Rattle.scheme.proofs.Answers.{key_passed, encrypt_passed, decrypt_passed, round_trip_passed, by_checks, by_draws, work_stays}
use Rattle.claim.specs.Claim.{encryption, Demand3}
use Rattle.claim.proofs.Claim.{demand_3}
use Rattle.seal_and_read.specs.Answers.{seal_and_read_checked, seal_and_read_answer, seal_and_read_work}

module _ (set : ℕ) (seed message sealing public secret sealed read work : List ℕ) where
  -- the checks of key, of encrypt and of decrypt, and all of them
  abbrev key_fits : Outcome
  key_fits = key_checks is_encryption set (length seed) (length public) (length secret) (length work)

  abbrev encrypt_fits : Outcome
  encrypt_fits = encrypt_checks is_encryption set (length public) (length message) (length sealing) (length sealed) (length work)

  abbrev decrypt_fits : Outcome
  decrypt_fits = decrypt_checks is_encryption set (length secret) (length sealed) (length read) (length work)

  abbrev pub all_fit : Outcome
  all_fit = seal_and_read_checked set seed message sealing public secret sealed read work

  -- the answer of the whole
  abbrev answer : Outcome
  answer = seal_and_read_answer set seed message sealing public secret sealed read work

  -- the ciphertext
  abbrev made : List ℕ
  made = ciphertext (set_of set) (public_key (set_of set) seed) message sealing

  -- what the whole promises: the answer, the keys, the ciphertext, the message read, the work slice, the claim
  abbrev pub Promised : Outcome → List ℕ → List ℕ → List ℕ → List ℕ → List ℕ → Type 0
  Promised o public₁ secret₁ sealed₁ read₁ work₁ =
      (o ≡ answer)
      × ((public₁ ≡ leaves o (public_key (set_of set) seed) public)
      × ((secret₁ ≡ leaves o (secret_seed (set_of set) seed) secret)
      × ((sealed₁ ≡ leaves o made sealed)
      × ((read₁ ≡ leaves o (message_read (set_of set) seed message sealing) read)
      × ((work₁ ≡ seal_and_read_work set seed message sealing public secret sealed read work)
      × (o ≡ accepted → Demand3 set (encryption seed message sealing)))))))

  -- nothing was written
  untouched : {o : Outcome} {number place : ℕ} {work₁ : List ℕ} → o ≡ refused number place → (answer ≡ refused number place) × (work₁ ≡ work_left all_fit work)
      → Promised o public secret sealed read work₁
  unfolding seal_and_read_work
  untouched {o} e answered =
      let kept : (new old : List ℕ) → old ≡ leaves o new old = λ new old. sym (leaves_refused new old e) in
      (e ∙ sym answered.0, (kept _ _, (kept _ _, (kept _ _, (kept _ _, (answered.1, λ a. absurd (accepted_refused a e)))))))

  -- the checks refuse
  pub checks_refuse : {o : Outcome} {number place : ℕ} → o ≡ all_fit → o ≡ refused number place → Promised o public secret sealed read work
  unfolding seal_and_read_answer
  checks_refuse e told = untouched told (by_checks (key_draws (set_of set) seed) work (sym e ∙ told))

  module _ (passed : all_fit ≡ accepted) where
    -- the checks of each call pass
    fits : (key_fits ≡ accepted) × (encrypt_fits ≡ accepted) × (decrypt_fits ≡ accepted)
    unfolding seal_and_read_checked
    fits = round_trip_passed is_encryption set _ _ _ _ _ _ _ _ passed

    -- the draws of the key decide, and the work slice is cleared
    whole_answers : (answer ≡ key_draws (set_of set) seed) × (replicate (length work) 0 ≡ work_left all_fit work)
    unfolding seal_and_read_answer
    whole_answers = by_draws (key_draws (set_of set) seed) work passed refl

    key_answers : (encryption_key_answer set seed (length public) (length secret) (length work) ≡ key_draws (set_of set) seed)
        × (replicate (length work) 0 ≡ work_left key_fits work)
    unfolding encryption_key_answer
    key_answers = by_draws (key_draws (set_of set) seed) work fits.0 refl

    -- what key promises: its answer, the keys, the work slice
    abbrev pub KeyPromised : Outcome → List ℕ → List ℕ → List ℕ → Type 0
    KeyPromised o public₁ secret₁ work₁ =
        (o ≡ encryption_key_answer set seed (length public) (length secret) (length work))
        × ((public₁ ≡ encryption_public_left set seed public secret work)
        × ((secret₁ ≡ encryption_secret_left set seed public secret work) × (work₁ ≡ encryption_key_work set seed public secret work)))

    -- a draw of the key is refused
    pub key_refuses : {o : Outcome} {number place : ℕ} {public₁ secret₁ work₁ : List ℕ} → o ≡ refused number place → KeyPromised o public₁ secret₁ work₁
        → Promised o public₁ secret₁ sealed read work₁
    unfolding encryption_public_left encryption_secret_left encryption_key_work
    key_refuses {o} {number} {place} {public₁} {secret₁} e key =
        let keyed : encryption_key_answer set seed (length public) (length secret) (length work) ≡ o = sym key.0 in
        let public-kept : public₁ ≡ public = key.1.0 ∙ leaves_refused _ _ (keyed ∙ e) in
        let secret-kept : secret₁ ≡ secret = key.1.1.0 ∙ leaves_refused _ _ (keyed ∙ e) in
        rw (public-kept, secret-kept)
        (untouched e (whole_answers.0 ∙ sym key_answers.0 ∙ keyed ∙ e, key.1.1.1 ∙ sym key_answers.1 ∙ whole_answers.1))

    -- key is accepted
    module _ (public₁ secret₁ work₁ : List ℕ) (key : KeyPromised accepted public₁ secret₁ work₁) (bytes : Digit 8 message) where
      keyed : encryption_key_answer set seed (length public) (length secret) (length work) ≡ accepted
      keyed = sym key.0

      -- no draw was refused, so that demand 3 holds
      pub holds : Demand3 set (encryption seed message sealing)
      holds =
          let key = key_passed is_encryption set _ _ _ _ fits.0 in
          let encrypt = encrypt_passed is_encryption set _ _ _ _ _ fits.1 in
          demand_3 set (encryption seed message sealing) (omega (arith, key.0.1))
          (key.0.2, key.1, encrypt.3, encrypt.2, bytes)
          (sym key_answers.0 ∙ keyed)

      -- what key left
      public_is : public₁ ≡ public_key (set_of set) seed
      unfolding encryption_public_left
      public_is = key.1.0 ∙ leaves_accepted _ _ keyed

      secret_is : secret₁ ≡ secret_seed (set_of set) seed
      unfolding encryption_secret_left
      secret_is = key.1.1.0 ∙ leaves_accepted _ _ keyed

      work_is : work₁ ≡ replicate (length work) 0
      unfolding encryption_key_work
      work_is = key.1.1.1 ∙ sym key_answers.1

      -- the lengths of the work slice and of the ciphertext
      work_size : length work ≡ work_length_of (set_of set)
      work_size = (key_passed is_encryption set _ _ _ _ fits.0).4

      cleared_size : length {A = ℕ} (replicate (length work) 0) ≡ work_length_of (set_of set)
      cleared_size = length-replicate {A = ℕ} (length work) 0 ∙ work_size

      sealed_size : length sealed ≡ ciphertext_bytes_of set
      sealed_size = (encrypt_passed is_encryption set _ _ _ _ _ fits.1).4

      -- encrypt is accepted
      abbrev pub encrypted : Outcome
      encrypted = encrypt_answer set public₁ message sealing (length sealed) (length work₁)

      pub encrypt_accepts : encrypted ≡ accepted
      encrypt_accepts = rw (public_is, work_is, cleared_size, sealed_size) holds.sealing_accepts

      -- what encrypt promises
      abbrev pub EncryptPromised : List ℕ → List ℕ → Type 0
      EncryptPromised sealed₁ work₂ =
          (sealed₁ ≡ ciphertext_left set public₁ message sealing sealed work₁) × (work₂ ≡ encrypt_work set public₁ message sealing sealed work₁)

      module _ (sealed₁ work₂ : List ℕ) (sent : EncryptPromised sealed₁ work₂) where
        sealed_is : sealed₁ ≡ made
        unfolding ciphertext_left
        sealed_is = sent.0 ∙ leaves_accepted _ _ encrypt_accepts ∙ ap (λ (pk : List ℕ). ciphertext (set_of set) pk message sealing) public_is

        work₂_is : work₂ ≡ replicate (length work) 0
        unfolding encrypt_work
        work₂_is = sent.1 ∙ ap (work_left _) work_is ∙ work_stays _ (length work)

        read_size : length read ≡ 32
        read_size = (decrypt_passed is_encryption set _ _ _ _ fits.2).3

        -- decrypt is accepted
        abbrev decrypted : Outcome
        decrypted = decrypt_answer set secret₁ sealed₁ (length read) (length work₂)

        decrypt_accepts : decrypted ≡ accepted
        decrypt_accepts = rw (secret_is, sealed_is, work₂_is, cleared_size, read_size) holds.reading_accepts

        -- what decrypt promises
        abbrev pub DecryptPromised : Outcome → List ℕ → List ℕ → Type 0
        DecryptPromised o read₁ work₃ =
            (o ≡ decrypted) × ((read₁ ≡ message_left set secret₁ sealed₁ read work₂) × (work₃ ≡ decrypt_work set secret₁ sealed₁ read work₂))

        -- the message read is that of the definitions
        read_is : decrypted_message (set_of set) secret₁ sealed₁ ≡ message_read (set_of set) seed message sealing
        unfolding message_read
        read_is = rw (secret_is, sealed_is)

        -- all three calls are accepted
        pub all_accept : {o : Outcome} {read₁ work₃ : List ℕ} → DecryptPromised o read₁ work₃ → Promised o public₁ secret₁ sealed₁ read₁ work₃
        unfolding seal_and_read_work message_left decrypt_work
        all_accept {o} {read₁} {work₃} opened =
            let done : o ≡ accepted = opened.0 ∙ decrypt_accepts in
            let cleared : work₃ ≡ work_left all_fit work =
            opened.1.1 ∙ ap (work_left _) work₂_is ∙ work_stays _ (length work) ∙ whole_answers.1 in (
              done ∙ sym (whole_answers.0 ∙ sym key_answers.0 ∙ keyed),
              (
                public_is ∙ sym (leaves_accepted _ _ done),
                (
                  secret_is ∙ sym (leaves_accepted _ _ done),
                  (
                    sealed_is ∙ sym (leaves_accepted _ _ done),
                    (opened.1.0 ∙ leaves_accepted _ _ decrypt_accepts ∙ read_is ∙ sym (leaves_accepted _ _ done), (cleared, λ a. holds)),
                  ),
                ),
              ),
            )
