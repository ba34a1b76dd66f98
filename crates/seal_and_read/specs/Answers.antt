-- What the function answers and leaves that calls key, encrypt and decrypt one after the other (01, What demand 3 speaks of; How each call answers;
-- 02, No. 1).
-- The checks of all three calls come before the first of them, in their order over all slices, so that a refused one leaves every output as it was.
-- Assumes nothing.
use Rattle.std.specs.Prelude.{◌≡◌, refl, List, [], ℕ, length}
use Rattle.calls.specs.Outcome.{Outcome, refused, and_then, leaves}
use Rattle.sets.specs.Table.{none, table, set_of}
use Rattle.sets.specs.Derived.{is_encryption}
use Rattle.scheme.specs.Encryption.{secret_seed, public_key, ciphertext}
use Rattle.scheme.specs.Answers.{refuse_set, checks, round_trip_checks, key_draws, work_left}
use Rattle.claim.specs.Claim.{encryption, given}

module _ (set : ℕ) (seed message sealing public secret sealed read work : List ℕ) where
  -- the checks of key, encrypt and decrypt
  unfoldable pub seal_and_read_checked : Outcome
  seal_and_read_checked =
      round_trip_checks is_encryption set (length seed) (length message) (length sealing) (length read)
      (length public) (length secret) (length sealed) (length work)

  -- after them only a draw of the key is refused: encrypt and decrypt accept what the call before them gave (`demand_3`)
  unfoldable pub seal_and_read_answer : Outcome
  seal_and_read_answer = and_then seal_and_read_checked (key_draws (set_of set) seed)

  -- what is left in the public key, the secret key, the ciphertext, the message read and the work slice
  unfoldable pub seal_and_read_public : List ℕ
  seal_and_read_public = leaves seal_and_read_answer (public_key (set_of set) seed) public

  unfoldable pub seal_and_read_secret : List ℕ
  seal_and_read_secret = leaves seal_and_read_answer (secret_seed (set_of set) seed) secret

  unfoldable pub seal_and_read_ciphertext : List ℕ
  seal_and_read_ciphertext = leaves seal_and_read_answer (ciphertext (set_of set) (public_key (set_of set) seed) message sealing) sealed

  unfoldable pub seal_and_read_message : List ℕ
  seal_and_read_message = leaves seal_and_read_answer (given set (encryption seed message sealing)) read

  unfoldable pub seal_and_read_work : List ℕ
  seal_and_read_work = work_left seal_and_read_checked work

-- a set of the key exchange is refused with 8, before any length is looked at
seal_and_read_answer_example : seal_and_read_answer 7 [] [] [] [] [] [] [] [] ≡ refused 8 0
unfolding none table set_of is_encryption refuse_set checks round_trip_checks seal_and_read_checked seal_and_read_answer
seal_and_read_answer_example = refl
