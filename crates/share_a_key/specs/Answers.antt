-- What the function answers and leaves that calls key, encapsulate and decapsulate one after the other (01, What demand 3 speaks of; How each call answers;
-- 02, No. 1).
-- The checks of all three calls come before the first of them, in their order over all slices, so that a refused one leaves every output as it was.
-- Assumes nothing.
use Rattle.std.specs.Prelude.{◌≡◌, refl, List, [], ℕ, length}
use Rattle.calls.specs.Outcome.{Outcome, refused, and_then, leaves}
use Rattle.sets.specs.Table.{none, table, set_of}
use Rattle.sets.specs.Derived.{is_exchange}
use Rattle.scheme.specs.Exchange.{inner_seed, exchange_public_key, exchange_secret_key, encapsulated}
use Rattle.scheme.specs.Answers.{refuse_set, checks, round_trip_checks, key_draws, work_left}
use Rattle.claim.specs.Claim.{exchange, held, given}

module _ (set : ℕ) (seed message public secret sealed sent received work : List ℕ) where
  -- the checks of key, encapsulate and decapsulate
  unfoldable pub share_a_key_checked : Outcome
  share_a_key_checked =
      round_trip_checks is_exchange set (length seed) (length message) (length sent) (length received)
      (length public) (length secret) (length sealed) (length work)

  -- after them only a draw of the inner key is refused
  unfoldable pub share_a_key_answer : Outcome
  share_a_key_answer = and_then share_a_key_checked (key_draws (set_of set) (inner_seed (set_of set) seed))

  -- what is left in the public key, the secret key, the ciphertext, the shared key sent, the one received and the work slice
  unfoldable pub share_a_key_public : List ℕ
  share_a_key_public = leaves share_a_key_answer (exchange_public_key (set_of set) seed) public

  unfoldable pub share_a_key_secret : List ℕ
  share_a_key_secret = leaves share_a_key_answer (exchange_secret_key (set_of set) seed) secret

  unfoldable pub share_a_key_ciphertext : List ℕ
  share_a_key_ciphertext = leaves share_a_key_answer (encapsulated (set_of set) (exchange_public_key (set_of set) seed) message) sealed

  unfoldable pub share_a_key_sent : List ℕ
  share_a_key_sent = leaves share_a_key_answer (held set (exchange seed message)) sent

  unfoldable pub share_a_key_received : List ℕ
  share_a_key_received = leaves share_a_key_answer (given set (exchange seed message)) received

  unfoldable pub share_a_key_work : List ℕ
  share_a_key_work = work_left share_a_key_checked work

-- a set of the encryption scheme is refused with 8 by the key exchange
share_a_key_answer_example : share_a_key_answer 6 [] [] [] [] [] [] [] [] ≡ refused 8 0
unfolding none table set_of is_exchange refuse_set checks round_trip_checks share_a_key_checked share_a_key_answer
share_a_key_answer_example = refl
