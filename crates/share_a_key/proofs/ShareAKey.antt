-- Laws of key, encapsulate and decapsulate called in turn: from what each promises to the answer, the slices and the claim of the whole.
-- Assumes nothing.
use mathlib.Core.Path.{◌≡◌, refl, sym, ap, ◌∙◌}
use mathlib.Core.List.{List}
use Prim.Native.Nat.{ℕ}
use native.Mathlib.Omega.{arith}
use lib.ListN.{length, replicate, length-replicate}
use Rattle.calls.specs.Outcome.{Outcome, accepted, refused, leaves}
use Rattle.calls.proofs.Outcome.{accepted_refused, leaves_accepted, leaves_refused}
use Rattle.sets.specs.Table.{set_of}
use Rattle.sets.specs.Derived.{is_exchange, ciphertext_bytes_of}
use Rattle.packing.specs.Digits.{Digit}
use Rattle.scheme.specs.Exchange.{inner_seed, exchange_public_key, exchange_secret_key, encapsulated, shared_key, decapsulated}
use Rattle.scheme.specs.Answers.{key_checks, encrypt_checks, decrypt_checks, key_draws, work_length_of, work_left}
use Rattle.scheme.specs.Answers.{exchange_key_answer, exchange_public_left, exchange_secret_left, exchange_key_work}
use Rattle.scheme.specs.Answers.{encapsulate_answer, encapsulated_left, shared_key_left, encapsulate_work}
use Rattle.scheme.specs.Answers.{decapsulate_answer, decapsulated_left, decapsulate_work}
use Rattle.scheme.proofs.Answers.{key_passed, encrypt_passed, decrypt_passed, round_trip_passed, by_checks, by_draws, work_stays}
use Rattle.claim.specs.Claim.{exchange, Demand3}
use Rattle.claim.proofs.Claim.{demand_3}
use Rattle.share_a_key.specs.Answers.{share_a_key_checked, share_a_key_answer, share_a_key_work}

module _ (set : ℕ) (seed message public secret sealed sent received work : List ℕ) where
  -- the checks of key, of encapsulate and of decapsulate, and all of them
  abbrev key_fits : Outcome
  key_fits = key_checks is_exchange set (length seed) (length public) (length secret) (length work)

  abbrev encapsulate_fits : Outcome
  encapsulate_fits = encrypt_checks is_exchange set (length public) (length message) (length sent) (length sealed) (length work)

  abbrev decapsulate_fits : Outcome
  decapsulate_fits = decrypt_checks is_exchange set (length secret) (length sealed) (length received) (length work)

  abbrev pub all_fit : Outcome
  all_fit = share_a_key_checked set seed message public secret sealed sent received work

  -- the answer of the whole
  abbrev answer : Outcome
  answer = share_a_key_answer set seed message public secret sealed sent received work

  -- the ciphertext
  abbrev made : List ℕ
  made = encapsulated (set_of set) (exchange_public_key (set_of set) seed) message

  -- what the whole promises: the answer, the keys, the ciphertext, both shared keys, the work slice, the claim
  abbrev pub Promised : Outcome → List ℕ → List ℕ → List ℕ → List ℕ → List ℕ → List ℕ → Type 0
  Promised o public₁ secret₁ sealed₁ sent₁ received₁ work₁ =
      (o ≡ answer)
      × ((public₁ ≡ leaves o (exchange_public_key (set_of set) seed) public)
      × ((secret₁ ≡ leaves o (exchange_secret_key (set_of set) seed) secret)
      × ((sealed₁ ≡ leaves o made sealed)
      × ((sent₁ ≡ leaves o (shared_key (set_of set) (exchange_public_key (set_of set) seed) message) sent)
      × ((received₁ ≡ leaves o (decapsulated (set_of set) (exchange_secret_key (set_of set) seed) made) received)
      × ((work₁ ≡ share_a_key_work set seed message public secret sealed sent received work)
      × (o ≡ accepted → Demand3 set (exchange seed message))))))))

  -- nothing was written
  untouched : {o : Outcome} {number place : ℕ} {work₁ : List ℕ} → o ≡ refused number place → (answer ≡ refused number place) × (work₁ ≡ work_left all_fit work)
      → Promised o public secret sealed sent received work₁
  unfolding share_a_key_work
  untouched {o} e answered =
      let kept : (new old : List ℕ) → old ≡ leaves o new old = λ new old. sym (leaves_refused new old e) in
      (e ∙ sym answered.0, (kept _ _, (kept _ _, (kept _ _, (kept _ _, (kept _ _, (answered.1, λ a. absurd (accepted_refused a e))))))))

  -- the checks refuse
  pub checks_refuse : {o : Outcome} {number place : ℕ} → o ≡ all_fit → o ≡ refused number place → Promised o public secret sealed sent received work
  unfolding share_a_key_answer
  checks_refuse e told = untouched told (by_checks (key_draws (set_of set) (inner_seed (set_of set) seed)) work (sym e ∙ told))

  module _ (passed : all_fit ≡ accepted) where
    -- the checks of each call pass
    fits : (key_fits ≡ accepted) × (encapsulate_fits ≡ accepted) × (decapsulate_fits ≡ accepted)
    unfolding share_a_key_checked
    fits = round_trip_passed is_exchange set _ _ _ _ _ _ _ _ passed

    -- the draws of the key decide, and the work slice is cleared
    whole_answers : (answer ≡ key_draws (set_of set) (inner_seed (set_of set) seed)) × (replicate (length work) 0 ≡ work_left all_fit work)
    unfolding share_a_key_answer
    whole_answers = by_draws (key_draws (set_of set) (inner_seed (set_of set) seed)) work passed refl

    key_answers : (exchange_key_answer set seed (length public) (length secret) (length work) ≡ key_draws (set_of set) (inner_seed (set_of set) seed))
        × (replicate (length work) 0 ≡ work_left key_fits work)
    unfolding exchange_key_answer
    key_answers = by_draws (key_draws (set_of set) (inner_seed (set_of set) seed)) work fits.0 refl

    -- what key promises: its answer, the keys, the work slice
    abbrev pub KeyPromised : Outcome → List ℕ → List ℕ → List ℕ → Type 0
    KeyPromised o public₁ secret₁ work₁ =
        (o ≡ exchange_key_answer set seed (length public) (length secret) (length work))
        × ((public₁ ≡ exchange_public_left set seed public secret work)
        × ((secret₁ ≡ exchange_secret_left set seed public secret work) × (work₁ ≡ exchange_key_work set seed public secret work)))

    -- a draw of the key is refused
    pub key_refuses : {o : Outcome} {number place : ℕ} {public₁ secret₁ work₁ : List ℕ} → o ≡ refused number place → KeyPromised o public₁ secret₁ work₁
        → Promised o public₁ secret₁ sealed sent received work₁
    unfolding exchange_public_left exchange_secret_left exchange_key_work
    key_refuses {o} {number} {place} {public₁} {secret₁} e key =
        let keyed : exchange_key_answer set seed (length public) (length secret) (length work) ≡ o = sym key.0 in
        let public-kept : public₁ ≡ public = key.1.0 ∙ leaves_refused _ _ (keyed ∙ e) in
        let secret-kept : secret₁ ≡ secret = key.1.1.0 ∙ leaves_refused _ _ (keyed ∙ e) in
        rw (public-kept, secret-kept)
        (untouched e (whole_answers.0 ∙ sym key_answers.0 ∙ keyed ∙ e, key.1.1.1 ∙ sym key_answers.1 ∙ whole_answers.1))

    -- key is accepted
    module _ (public₁ secret₁ work₁ : List ℕ) (key : KeyPromised accepted public₁ secret₁ work₁) (bytes : Digit 8 message) where
      keyed : exchange_key_answer set seed (length public) (length secret) (length work) ≡ accepted
      keyed = sym key.0

      -- no draw was refused, so that demand 3 holds
      pub holds : Demand3 set (exchange seed message)
      holds =
          let key = key_passed is_exchange set _ _ _ _ fits.0 in
          demand_3 set (exchange seed message) (omega (arith, key.0.1))
          (key.0.2, key.1, (encrypt_passed is_exchange set _ _ _ _ _ fits.1).2, bytes)
          (sym key_answers.0 ∙ keyed)

      -- what key left
      public_is : public₁ ≡ exchange_public_key (set_of set) seed
      unfolding exchange_public_left
      public_is = key.1.0 ∙ leaves_accepted _ _ keyed

      secret_is : secret₁ ≡ exchange_secret_key (set_of set) seed
      unfolding exchange_secret_left
      secret_is = key.1.1.0 ∙ leaves_accepted _ _ keyed

      work_is : work₁ ≡ replicate (length work) 0
      unfolding exchange_key_work
      work_is = key.1.1.1 ∙ sym key_answers.1

      -- the lengths of the work slice and of the ciphertext
      work_size : length work ≡ work_length_of (set_of set)
      work_size = (key_passed is_exchange set _ _ _ _ fits.0).4

      cleared_size : length {A = ℕ} (replicate (length work) 0) ≡ work_length_of (set_of set)
      cleared_size = length-replicate {A = ℕ} (length work) 0 ∙ work_size

      sealed_size : length sealed ≡ ciphertext_bytes_of set
      sealed_size = (encrypt_passed is_exchange set _ _ _ _ _ fits.1).4

      sent_size : length sent ≡ 32
      sent_size = (encrypt_passed is_exchange set _ _ _ _ _ fits.1).3

      -- encapsulate is accepted
      abbrev pub closed : Outcome
      closed = encapsulate_answer set public₁ (length message) (length sealed) (length sent) (length work₁)

      pub encapsulate_accepts : closed ≡ accepted
      encapsulate_accepts = rw (public_is, work_is, cleared_size, sealed_size, sent_size) holds.sealing_accepts

      -- what encapsulate promises
      abbrev pub EncapsulatePromised : List ℕ → List ℕ → List ℕ → Type 0
      EncapsulatePromised sealed₁ sent₁ work₂ =
          (sealed₁ ≡ encapsulated_left set public₁ message sealed sent work₁)
          × ((sent₁ ≡ shared_key_left set public₁ message sealed sent work₁) × (work₂ ≡ encapsulate_work set public₁ message sealed sent work₁))

      module _ (sealed₁ sent₁ work₂ : List ℕ) (enclosed : EncapsulatePromised sealed₁ sent₁ work₂) where
        sealed_is : sealed₁ ≡ made
        unfolding encapsulated_left
        sealed_is = enclosed.0 ∙ leaves_accepted _ _ encapsulate_accepts ∙ ap (λ (pk : List ℕ). encapsulated (set_of set) pk message) public_is

        sent_is : sent₁ ≡ shared_key (set_of set) (exchange_public_key (set_of set) seed) message
        unfolding shared_key_left
        sent_is = enclosed.1.0 ∙ leaves_accepted _ _ encapsulate_accepts ∙ ap (λ (pk : List ℕ). shared_key (set_of set) pk message) public_is

        work₂_is : work₂ ≡ replicate (length work) 0
        unfolding encapsulate_work
        work₂_is = enclosed.1.1 ∙ ap (work_left _) work_is ∙ work_stays _ (length work)

        received_size : length received ≡ 32
        received_size = (decrypt_passed is_exchange set _ _ _ _ fits.2).3

        -- decapsulate is accepted
        abbrev reopened : Outcome
        reopened = decapsulate_answer set secret₁ (length sealed₁) (length received) (length work₂)

        decapsulate_accepts : reopened ≡ accepted
        decapsulate_accepts = rw (secret_is, sealed_is, work₂_is, cleared_size, received_size) holds.reading_accepts

        -- what decapsulate promises
        abbrev pub DecapsulatePromised : Outcome → List ℕ → List ℕ → Type 0
        DecapsulatePromised o received₁ work₃ =
            (o ≡ reopened)
            × ((received₁ ≡ decapsulated_left set secret₁ sealed₁ received work₂) × (work₃ ≡ decapsulate_work set secret₁ sealed₁ received work₂))

        -- the shared key received is that of the definitions
        received_is : decapsulated (set_of set) secret₁ sealed₁ ≡ decapsulated (set_of set) (exchange_secret_key (set_of set) seed) made
        received_is = rw (secret_is, sealed_is)

        -- all three calls are accepted
        pub all_accept : {o : Outcome} {received₁ work₃ : List ℕ} → DecapsulatePromised o received₁ work₃
            → Promised o public₁ secret₁ sealed₁ sent₁ received₁ work₃
        unfolding share_a_key_work decapsulated_left decapsulate_work
        all_accept {o} {received₁} {work₃} opened =
            let done : o ≡ accepted = opened.0 ∙ decapsulate_accepts in
            let cleared : work₃ ≡ work_left all_fit work =
            opened.1.1 ∙ ap (work_left _) work₂_is ∙ work_stays _ (length work) ∙ whole_answers.1 in (
              done ∙ sym (whole_answers.0 ∙ sym key_answers.0 ∙ keyed),
              (
                public_is ∙ sym (leaves_accepted _ _ done),
                (
                  secret_is ∙ sym (leaves_accepted _ _ done),
                  (
                    sealed_is ∙ sym (leaves_accepted _ _ done),
                    (
                      sent_is ∙ sym (leaves_accepted _ _ done),
                      (opened.1.0 ∙ leaves_accepted _ _ decapsulate_accepts ∙ received_is ∙ sym (leaves_accepted _ _ done), (cleared, λ a. holds)),
                    ),
                  ),
                ),
              ),
            )
