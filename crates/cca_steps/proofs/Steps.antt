-- The steps of the key exchange join to its definitions: keys, ciphertext, shared key, and the order of the checks.
-- Assumes nothing.
use mathlib.Core.Path.{◌≡◌, refl, sym, ap, ◌∙◌}
use mathlib.Core.Bool.{Bool, true, false, not, cond}
use mathlib.Core.List.{List, ◌++◌}
use Prim.Native.Nat.{ℕ, ◌+◌, ◌-◌}
use native.Mathlib.Omega.{arith}
use lib.ListN.{length, take, drop, length-drop}
use lib.Seq.{take_all}
use Rattle.calls.specs.Outcome.{Outcome, accepted, refused, refuse, leaves}
use Rattle.calls.specs.Region.{over}
use Rattle.calls.proofs.Outcome.{accepted_refused, leaves_accepted}
use Rattle.calls.proofs.Region.{over_lent}
use Rattle.sets.specs.declared.Parameters.{Parameters}
use Rattle.sets.specs.Derived.{cpa_ciphertext_bytes_of}
use Rattle.sponge.specs.Sponge.{shake256}
use Rattle.byte_source.specs.Source.{initial, output}
use Rattle.samplers.specs.Seeded.{secret_drawn}
use Rattle.scheme.specs.Encryption.{secret_seed, public_key, key_numbers, ciphertext, decrypted_message}
use Rattle.scheme.specs.Exchange.{expanded_seed, inner_seed, reject_bytes, exchange_public_key, exchange_secret_key, sealing_seed, check_bytes, shared_hash}
use Rattle.scheme.specs.Exchange.{encapsulated, shared_key, same, decapsulated_message, hashed_secret, decapsulated}
use Rattle.scheme.specs.Answers.{is_taken, only_residues, key_draws, encrypt_draws, secret_draw, decapsulate_draws}
use Rattle.cca_bytes.proofs.Laws.{both_over}
use Rattle.cca_steps.specs.Steps.{inner_draw, key_of_message_of}

-- algorithm 29: the inner seed, the keys
pub inner_made : (p : Parameters) (seed expanded : List ℕ) (m : ℕ) → m ≡ 64 → expanded ≡ (output p (initial seed) m).bytes
    → take 32 expanded ≡ inner_seed p seed
unfolding expanded_seed inner_seed
inner_made p seed expanded m l s = rw (s, l)

pub public_made : (p : Parameters) (seed inner public old : List ℕ) → inner ≡ inner_seed p seed
    → public ≡ leaves (key_draws p inner) (public_key p inner) old
    → public ≡ leaves (key_draws p (inner_seed p seed)) (exchange_public_key p seed) old
unfolding exchange_public_key
public_made p seed inner public old e h = h ∙ ap (λ (s : List ℕ). leaves (key_draws p s) (public_key p s) old) e

pub secret_made : {o : Outcome} (p : Parameters) (seed public old secret before : List ℕ) → o ≡ accepted
    → public ≡ leaves o (exchange_public_key p seed) old → secret ≡ seed ++ public
    → secret ≡ leaves o (exchange_secret_key p seed) before
unfolding exchange_secret_key
secret_made p seed public old secret before e s h =
    h
    ∙ ap (λ (ls : List ℕ). seed ++ ls) (s ∙ leaves_accepted (exchange_public_key p seed) old e)
    ∙ sym (leaves_accepted (seed ++ exchange_public_key p seed) before e)

-- algorithm 30: the ciphertext from both its parts
pub ciphertext_made : {o : Outcome} (p : Parameters) (pk message digest old front two : List ℕ) (n : ℕ) → o ≡ accepted
    → digest ≡ shake256 message 64 → length digest ≡ 64 → length old ≡ n + 32 → length front ≡ n
    → front ≡ leaves o (ciphertext p pk message (take 32 digest)) (take (n - 0) (drop 0 old))
    → two ≡ over (take 0 old ++ (front ++ drop (n - 0) (drop 0 old))) n (take 32 (drop 32 digest))
    → two ≡ leaves o (encapsulated p pk message) old
unfolding encapsulated sealing_seed check_bytes
ciphertext_made p pk message digest old front two n e d whole size l made written =
    let halves : length (drop 32 digest) ≡ 32 = length-drop 32 digest ∙ ap (λ (m : ℕ). m - 32) whole in
    let check : take 32 (drop 32 digest) ≡ drop 32 digest = take_all 32 (drop 32 digest) (omega (arith, halves)) in
    let fits : length old ≡ length front + length (drop 32 digest) = omega (arith, halves) in
    written
    ∙ ap (λ (zs : List ℕ). over (take 0 old ++ (front ++ drop (n - 0) (drop 0 old))) n zs) check
    ∙ ap (λ (zs : List ℕ). over zs n (drop 32 digest)) (over_lent old 0 front n (omega arith))
    ∙ both_over old front (drop 32 digest) n (sym l) fits
    ∙ ap (λ (zs : List ℕ). zs ++ drop 32 digest) (made ∙ leaves_accepted _ _ e)
    ∙ ap (λ (g : List ℕ). ciphertext p pk message (take 32 g) ++ drop 32 g) d
    ∙ sym (leaves_accepted _ old e)

-- and its shared key
pub shared_made : {o : Outcome} (p : Parameters) (pk message ct old shared before : List ℕ) → o ≡ accepted
    → ct ≡ leaves o (encapsulated p pk message) old → shared ≡ shared_hash message ct
    → shared ≡ leaves o (shared_key p pk message) before
unfolding shared_key
shared_made p pk message ct old shared before e s h =
    h
    ∙ ap (shared_hash message) (s ∙ leaves_accepted (encapsulated p pk message) old e)
    ∙ sym (leaves_accepted (shared_hash message (encapsulated p pk message)) before e)

-- algorithm 31: the seeds
pub halves_made : (p : Parameters) (seed expanded : List ℕ) (m : ℕ) → m ≡ 64 → expanded ≡ (output p (initial seed) m).bytes → expanded ≡ expanded_seed p seed
unfolding expanded_seed
halves_made p seed expanded m l s = s ∙ rw l

pub seed_made : (p : Parameters) (seed inner out : List ℕ) (m : ℕ) → m ≡ 32 → inner ≡ inner_seed p seed → out ≡ (output p (initial inner) m).bytes
    → out ≡ secret_seed p (inner_seed p seed)
unfolding secret_seed
seed_made p seed inner out m l i s = s ∙ rw (i, l)

-- the message read
pub read_made : (p : Parameters) (sk ct inner message old : List ℕ) (n : ℕ) (o : Outcome) → inner ≡ secret_seed p (inner_seed p (take 32 sk))
    → n ≡ cpa_ciphertext_bytes_of p → o ≡ secret_draw p inner → message ≡ leaves (secret_draw p inner) (decrypted_message p inner (take n ct)) old
    → (o ≡ inner_draw p sk) × (message ≡ leaves (inner_draw p sk) (decapsulated_message p sk ct) old)
unfolding decapsulated_message
read_made p sk ct inner message old n o e l answer read =
    let seed = secret_seed p (inner_seed p (take 32 sk)) in (
      answer ∙ ap (secret_draw p) e,
      read ∙ ap (λ (s : List ℕ). leaves (secret_draw p s) (decrypted_message p s (take n ct)) old) e
          ∙ ap (λ (m : ℕ). leaves (secret_draw p seed) (decrypted_message p seed (take m ct)) old) l,
    )

-- the shared key from the message encapsulated again
pub shared_again : (p : Parameters) (pk part message reject ct again old secret shared before : List ℕ) (agrees : Bool) → part ≡ pk
    → encrypt_draws p pk ≡ accepted → again ≡ leaves (encrypt_draws p part) (encapsulated p part message) old → agrees ≡ same again ct
    → secret ≡ cond agrees message reject → shared ≡ shared_hash secret ct
    → shared ≡ leaves (encrypt_draws p pk) (key_of_message_of p pk message reject ct) before
unfolding key_of_message_of
shared_again p pk part message reject ct again old secret shared before agrees whole e made told picked hash =
    let sealed : again ≡ encapsulated p pk message =
    made ∙ ap (λ (s : List ℕ). leaves (encrypt_draws p s) (encapsulated p s message) old) whole ∙ leaves_accepted (encapsulated p pk message) old e in
    hash
    ∙ ap (λ (s : List ℕ). shared_hash s ct) (picked ∙ ap (λ (b : Bool). cond b message reject) (told ∙ ap (λ (xs : List ℕ). same xs ct) sealed))
    ∙ sym (leaves_accepted _ before e)

module _ (p : Parameters) (sk : List ℕ) where
  -- a number of the public key inside it is too large
  pub numbers_refuse : only_residues p.q (key_numbers p (drop 32 sk)) ≡ false → decapsulate_draws p sk ≡ refused 3 0
  unfolding decapsulate_draws
  numbers_refuse e = rw e

  module _ (all : only_residues p.q (key_numbers p (drop 32 sk)) ≡ true) where
    -- none is, and the draw of the secret refuses
    pub draw_refuses : {number place : ℕ} → inner_draw p sk ≡ refused number place → decapsulate_draws p sk ≡ refused number place
    unfolding decapsulate_draws secret_draw
    draw_refuses e = rw all (decided (is_taken (secret_drawn p (secret_seed p (inner_seed p (take 32 sk))))) e)
      where
        decided : {number place : ℕ} (t : Bool) → refuse (not t) 5 0 accepted ≡ refused number place
            → refuse (not t) 5 0 (encrypt_draws p (drop 32 sk)) ≡ refused number place
        decided true r = absurd (accepted_refused refl r)
        decided false r = r

    -- nor does that: encapsulating again decides
    pub draw_passes : inner_draw p sk ≡ accepted → decapsulate_draws p sk ≡ encrypt_draws p (drop 32 sk)
    unfolding decapsulate_draws secret_draw
    draw_passes e = rw all (decided (is_taken (secret_drawn p (secret_seed p (inner_seed p (take 32 sk))))) e)
      where
        decided : (t : Bool) → refuse (not t) 5 0 accepted ≡ accepted
            → refuse (not t) 5 0 (encrypt_draws p (drop 32 sk)) ≡ encrypt_draws p (drop 32 sk)
        decided true r = refl
        decided false r = absurd (accepted_refused r refl)

    -- the answer and the shared key of the whole
    pub decapsulated_made : (ct message old expanded shared before : List ℕ) (o : Outcome) → inner_draw p sk ≡ accepted
        → message ≡ leaves (inner_draw p sk) (decapsulated_message p sk ct) old → expanded ≡ expanded_seed p (take 32 sk)
        → o ≡ encrypt_draws p (drop 32 sk)
        → shared ≡ leaves (encrypt_draws p (drop 32 sk)) (key_of_message_of p (drop 32 sk) message (drop 32 expanded) ct) before
        → (o ≡ decapsulate_draws p sk) × (shared ≡ leaves (decapsulate_draws p sk) (decapsulated p sk ct) before)
    unfolding decapsulated hashed_secret reject_bytes key_of_message_of
    decapsulated_made ct message old expanded shared before o e m x answer made =
        let read : message ≡ decapsulated_message p sk ct = m ∙ leaves_accepted (decapsulated_message p sk ct) old e in
        let whole : Outcome → List ℕ = λ (s : Outcome). leaves s (decapsulated p sk ct) before in
        let key : List ℕ → List ℕ → List ℕ = λ (ls xs : List ℕ). key_of_message_of p (drop 32 sk) ls (drop 32 xs) ct in (
          answer ∙ sym (draw_passes e),
          made ∙ ap (λ (ls : List ℕ). leaves (encrypt_draws p (drop 32 sk)) (key ls expanded) before) read
              ∙ ap (λ (ls : List ℕ). leaves (encrypt_draws p (drop 32 sk)) (key (decapsulated_message p sk ct) ls) before) x
              ∙ ap whole (sym (draw_passes e)),
        )
