-- After a key no call refuses a number or a draw: a public key and a ciphertext hold residues, and sealing and reading draw from the key's own seeds again.
-- Assumes nothing.
use mathlib.Core.Path.{◌≡◌, ◌∙◌}
use mathlib.Core.Bool.{true, not}
use mathlib.Core.List.{List}
use Prim.Native.Nat.{ℕ}
use borrow.Author.Tests.{not-false}
use lib.ListN.{length, take, drop}
use lib.Seq.{take_at, drop_at}
use Rattle.calls.specs.Outcome.{accepted}
use Rattle.calls.proofs.Outcome.{refuse_accepted}
use Rattle.sets.specs.declared.Parameters.{Parameters}
use Rattle.samplers.specs.Seeded.{secret_drawn, public_drawn}
use Rattle.scheme.specs.Encryption.{secret_seed, public_seed, public_key, key_numbers, ciphertext, cipher_first}
use Rattle.scheme.specs.Exchange.{inner_seed, exchange_public_key, exchange_secret_key}
use Rattle.scheme.specs.Conditions.{Conditions}
use Rattle.scheme.specs.Answers.{is_taken, all_taken, only_residues, key_draws, encrypt_draws, secret_draw, decrypt_draws, decapsulate_draws}
use Rattle.scheme.proofs.Answers.{all_below, reading_passed}
use Rattle.scheme.proofs.Bytes.{key_seed_back, key_numbers_below, cipher_first_below}

-- the draws of an accepted key took all their numbers
pub key_drawn : (p : Parameters) (seed : List ℕ) → key_draws p seed ≡ accepted
    → (is_taken (secret_drawn p (secret_seed p seed)) ≡ true) × (all_taken p.t (public_drawn p (public_seed p seed)) ≡ true)
unfolding key_draws
key_drawn p seed e =
    let first = refuse_accepted (not (is_taken (secret_drawn p (secret_seed p seed)))) 5 0 _ e in
    let second = refuse_accepted (not (all_taken p.t (public_drawn p (public_seed p seed)))) 5 0 _ first.1 in
    (not-false _ first.0, not-false _ second.0)

module _ {p : Parameters} (c : Conditions p) (seed : List ℕ) (drawn : key_draws p seed ≡ accepted) where
  -- sealing under the public key
  pub sealing_drawn : encrypt_draws p (public_key p seed) ≡ accepted
  unfolding encrypt_draws
  sealing_drawn = rw (all_below p.q (key_numbers p (public_key p seed)) (key_numbers_below c seed), key_seed_back c seed, (key_drawn p seed drawn).1)

  -- the draw of the secret
  pub secret_drawn_lem : secret_draw p (secret_seed p seed) ≡ accepted
  unfolding secret_draw
  secret_drawn_lem = rw (key_drawn p seed drawn).0

  -- reading what was sealed, with the secret key
  pub reading_drawn : (pk message sealing : List ℕ) → decrypt_draws p (secret_seed p seed) (ciphertext p pk message sealing) ≡ accepted
  reading_drawn pk message sealing =
      reading_passed p (secret_seed p seed) (ciphertext p pk message sealing)
      (all_below p.q (cipher_first p (ciphertext p pk message sealing)) (cipher_first_below c pk message sealing))
      ∙ secret_drawn_lem

module _ {p : Parameters} (c : Conditions p) (seed : List ℕ) (drawn : key_draws p (inner_seed p seed) ≡ accepted) where
  -- encapsulating under the public key of the key exchange
  pub encapsulation_drawn : encrypt_draws p (exchange_public_key p seed) ≡ accepted
  unfolding exchange_public_key
  encapsulation_drawn = sealing_drawn c (inner_seed p seed) drawn

  -- the numbers of that key are below q
  public_below : only_residues p.q (key_numbers p (exchange_public_key p seed)) ≡ true
  unfolding exchange_public_key
  public_below = all_below p.q (key_numbers p (public_key p (inner_seed p seed))) (key_numbers_below c (inner_seed p seed))

  module _ (size : length seed ≡ 32) where
    -- the two parts of the secret key of the key exchange
    seed_part : take 32 (exchange_secret_key p seed) ≡ seed
    unfolding exchange_secret_key
    seed_part = take_at seed _ 32 size

    public_part : drop 32 (exchange_secret_key p seed) ≡ exchange_public_key p seed
    unfolding exchange_secret_key
    public_part = drop_at seed _ 32 size

    -- decapsulating with that secret key, which reads and encrypts again
    pub decapsulation_drawn : decapsulate_draws p (exchange_secret_key p seed) ≡ accepted
    unfolding decapsulate_draws
    decapsulation_drawn = rw (seed_part, public_part, public_below, (key_drawn p (inner_seed p seed) drawn).0) encapsulation_drawn
