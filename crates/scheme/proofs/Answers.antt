-- Laws of the answers: the checks of the set one by one, what the checks of each call tell where they pass, and what decides the answer.
-- Assumes nothing.
use mathlib.Core.Path.{◌≡◌, refl, ◌∙◌}
use mathlib.Core.Bool.{Bool, true, false, not, ◌&&◌}
use mathlib.Core.List.{List}
use Prim.Native.Nat.{ℕ, ◌≤◌, ◌<◌}
use native.Mathlib.Omega.{arith}
use borrow.Author.Tests.{lt-ltb, le-ltb, ltb-false, eqb-true, not-false}
use lib.Dec.{ltb, eqb}
use lib.ListN.{length, replicate, length-replicate}
use Rattle.calls.specs.Outcome.{Outcome, accepted, refused, refuse, and_then}
use Rattle.maths.specs.Vector.{at}
use Rattle.maths.proofs.Tests.{both_true}
use Rattle.calls.specs.Checks.{passing, below}
use Rattle.calls.proofs.Outcome.{accepted_refused, refuse_accepted, leaves_same}
use Rattle.calls.proofs.Checks.{passing_all}
use Rattle.sets.specs.declared.Parameters.{Parameters}
use Rattle.sets.specs.Table.{set_of, last_set, no_set, Listed}
use Rattle.sets.specs.Rules.{ByteRules}
use Rattle.sets.specs.Derived.{public_key_bytes_of, secret_key_bytes_of, ciphertext_bytes_of}
use Rattle.sets.proofs.Rules.{byte_rules, listed_set}
use Rattle.scheme.specs.Encryption.{cipher_first}
use Rattle.scheme.specs.Answers.{refuse_set, checks, work_left, work_length_of, only_residues, secret_draw, decrypt_draws}
use Rattle.scheme.specs.Answers.{public_fits, secret_fits, key_checks, encrypt_checks, decrypt_checks, round_trip_checks}

-- numbers that are below q at every place pass the test
pub all_below : (q : ℕ) (xs : List ℕ) → ((j : ℕ) → at xs j < q) → only_residues q xs ≡ true
unfolding only_residues
all_below q xs each =
    let all : passing (below q) 0 xs ≡ length xs = (passing_all (below q) 0 xs 0).1 (λ k h. lt-ltb (at xs k) q (each k)) in
    rw (le-ltb (passing (below q) 0 xs) (length xs) (omega arith))

module _ (is_own : ℕ → Bool) (set : ℕ) (after : Outcome) where
  -- set 0 is no set of the scheme
  pub set_low : set < 1 → refuse_set is_own set after ≡ refused 1 0
  unfolding refuse_set
  set_low h = rw (lt-ltb set 1 h)

  -- nor is a set above 12
  pub set_high : 1 ≤ set → last_set < set → refuse_set is_own set after ≡ refused 1 0
  unfolding refuse_set
  set_high some h = rw (le-ltb set 1 some, lt-ltb last_set set h)

  -- a set of the other scheme
  pub set_other : 1 ≤ set → set ≤ last_set → is_own set ≡ false → refuse_set is_own set after ≡ refused 8 0
  unfolding refuse_set
  set_other some low e = rw (le-ltb set 1 some, le-ltb last_set set low, e)

  -- a set of this scheme
  pub set_own : 1 ≤ set → set ≤ last_set → is_own set ≡ true → refuse_set is_own set after ≡ after
  unfolding refuse_set
  set_own some low e = rw (le-ltb set 1 some, le-ltb last_set set low, e)

module _ (is_own : ℕ → Bool) (set : ℕ) where
  -- the set is one of the scheme's
  abbrev pub Own : Type 0
  Own = (1 ≤ set) × (set ≤ last_set) × (is_own set ≡ true)

  -- the record of such a set stands in the table and keeps the rules of bytes
  pub own_listed : Own → Listed (set_of set)
  own_listed is = listed_set set (omega (arith, is.1))

  pub own_bytes : Own → ByteRules (set_of set)
  own_bytes is = byte_rules set is.0 (omega (arith, is.1))

  -- where the checks of the set passed
  own : (after : Outcome) → refuse_set is_own set after ≡ accepted → Own × (after ≡ accepted)
  unfolding refuse_set
  own after e =
      let low = refuse_accepted (ltb set 1) 1 0 _ e in
      let high = refuse_accepted (no_set set) 1 0 _ low.1 in
      let other = refuse_accepted (not (is_own set)) 8 0 _ high.1 in
      ((ltb-false set 1 low.0, ltb-false last_set set high.0, not-false _ other.0), other.1)

  -- the same from the checks of the set alone
  pub set_range : refuse_set is_own set accepted ≡ accepted → Own
  set_range e = (own accepted e).0

  -- the checks of the set refuse, whatever comes after them
  pub set_refuses : (after : Outcome) {number place : ℕ}
      → refuse_set is_own set accepted ≡ refused number place → refuse_set is_own set after ≡ refused number place
  unfolding refuse_set
  set_refuses after e = decided (ltb set 1) (no_set set) (not (is_own set)) e
    where
      decided : {number place : ℕ} (low high other : Bool) → refuse low 1 0 (refuse high 1 0 (refuse other 8 0 accepted)) ≡ refused number place
          → refuse low 1 0 (refuse high 1 0 (refuse other 8 0 after)) ≡ refused number place
      decided true high other e = e
      decided false true other e = e
      decided false false true e = e
      decided false false false e = absurd (accepted_refused refl e)

  module _ (slices ciphertext work : Bool) where
    -- the checks of the set pass: the lengths decide
    pub lengths_decide : Own
        → checks is_own set slices ciphertext work ≡ refuse (not slices) 2 0 (refuse (not ciphertext) 9 0 (refuse (not work) 10 0 accepted))
    unfolding checks
    lengths_decide own = set_own is_own set _ own.0 own.1 own.2

    -- every check passes where the set is the scheme's and the lengths are the set's
    pub checks_pass : Own → slices ≡ true → ciphertext ≡ true → work ≡ true → checks is_own set slices ciphertext work ≡ accepted
    checks_pass own s c w = lengths_decide own ∙ rw (s, c, w)

    -- and only there
    pub checks_passed : checks is_own set slices ciphertext work ≡ accepted → Own × (slices ≡ true) × (ciphertext ≡ true) × (work ≡ true)
    unfolding checks
    checks_passed e =
        let o = own _ e in
        let s = refuse_accepted (not slices) 2 0 _ o.1 in
        let c = refuse_accepted (not ciphertext) 9 0 _ s.1 in
        let w = refuse_accepted (not work) 10 0 _ c.1 in
        (o.0, not-false _ s.0, not-false _ c.0, not-false _ w.0)

-- two lengths are the set's where each is
pub both_fit : {a b : Bool} → a ≡ true → b ≡ true → a && b ≡ true
both_fit f g = rw (f, g)

-- what the checks of key tell where they pass
pub key_passed : (is_own : ℕ → Bool) (set seed pk sk work : ℕ) → key_checks is_own set seed pk sk work ≡ accepted
    → Own is_own set × (seed ≡ 32) × (pk ≡ public_key_bytes_of (set_of set)) × (sk ≡ secret_key_bytes_of set) × (work ≡ work_length_of (set_of set))
unfolding key_checks
key_passed is_own set seed pk sk work e =
    let t = checks_passed is_own set _ _ _ e in
    let two = both_true (eqb seed 32 && public_fits set pk) (secret_fits set sk) t.1 in
    let one = both_true (eqb seed 32) (public_fits set pk) two.0 in
    (t.0, eqb-true _ _ one.0, eqb-true _ _ one.1, eqb-true _ _ two.1, eqb-true _ _ t.3)

-- those of encrypt and of encapsulate
pub encrypt_passed : (is_own : ℕ → Bool) (set pk message other ct work : ℕ) → encrypt_checks is_own set pk message other ct work ≡ accepted
    → Own is_own set × (pk ≡ public_key_bytes_of (set_of set)) × (message ≡ 32) × (other ≡ 32) × (ct ≡ ciphertext_bytes_of set) ×
    (work ≡ work_length_of (set_of set))
unfolding encrypt_checks
encrypt_passed is_own set pk message other ct work e =
    let t = checks_passed is_own set _ _ _ e in
    let two = both_true (public_fits set pk && eqb message 32) (eqb other 32) t.1 in
    let one = both_true (public_fits set pk) (eqb message 32) two.0 in
    (t.0, eqb-true _ _ one.0, eqb-true _ _ one.1, eqb-true _ _ two.1, eqb-true _ _ t.2, eqb-true _ _ t.3)

-- those of decrypt and of decapsulate
pub decrypt_passed : (is_own : ℕ → Bool) (set sk ct given work : ℕ) → decrypt_checks is_own set sk ct given work ≡ accepted
    → Own is_own set × (sk ≡ secret_key_bytes_of set) × (ct ≡ ciphertext_bytes_of set) × (given ≡ 32) × (work ≡ work_length_of (set_of set))
unfolding decrypt_checks
decrypt_passed is_own set sk ct given work e =
    let t = checks_passed is_own set _ _ _ e in
    let one = both_true (secret_fits set sk) (eqb given 32) t.1 in
    (t.0, eqb-true _ _ one.0, eqb-true _ _ t.2, eqb-true _ _ one.1, eqb-true _ _ t.3)

-- where the checks of a round trip pass, those of each of its calls do
module _ (is_own : ℕ → Bool) (set seed message other given pk sk ct work : ℕ) where
  pub round_trip_passed : round_trip_checks is_own set seed message other given pk sk ct work ≡ accepted
      → (key_checks is_own set seed pk sk work ≡ accepted)
      × (encrypt_checks is_own set pk message other ct work ≡ accepted)
      × (decrypt_checks is_own set sk ct given work ≡ accepted)
  unfolding key_checks encrypt_checks decrypt_checks round_trip_checks
  round_trip_passed e =
      let t = checks_passed is_own set _ _ _ e in
      let five = both_true (eqb seed 32 && eqb message 32 && eqb other 32 && eqb given 32 && public_fits set pk) (secret_fits set sk) t.1 in
      let four = both_true (eqb seed 32 && eqb message 32 && eqb other 32 && eqb given 32) (public_fits set pk) five.0 in
      let three = both_true (eqb seed 32 && eqb message 32 && eqb other 32) (eqb given 32) four.0 in
      let two = both_true (eqb seed 32 && eqb message 32) (eqb other 32) three.0 in
      let one = both_true (eqb seed 32) (eqb message 32) two.0 in (
        checks_pass is_own set _ _ _ t.0 (both_fit (both_fit one.0 four.1) five.1) refl t.3,
        checks_pass is_own set _ _ _ t.0 (both_fit (both_fit four.1 one.1) two.1) t.2 t.3,
        checks_pass is_own set _ _ _ t.0 (both_fit five.1 three.1) t.2 t.3,
      )

module _ {checked : Outcome} (draws : Outcome) (work : List ℕ) where
  -- the checks refuse: they decide the answer, and the work slice is left as it was
  pub by_checks : {number place : ℕ} → checked ≡ refused number place → (and_then checked draws ≡ refused number place) × (work ≡ work_left checked work)
  unfolding work_left
  by_checks e = (rw e, rw e)

  -- the draws decide, and the work slice is cleared
  pub by_draws : checked ≡ accepted → {left : List ℕ} → left ≡ replicate (length work) 0 → (and_then checked draws ≡ draws) × (left ≡ work_left checked work)
  unfolding work_left
  by_draws e cleared = (rw e, cleared ∙ rw e)

-- a call leaves a cleared work slice cleared
pub work_stays : (checked : Outcome) (n : ℕ) → work_left checked (replicate n 0) ≡ replicate n 0
unfolding work_left
work_stays checked n = rw (length-replicate {A = ℕ} n 0) (leaves_same checked (replicate n 0))

module _ (p : Parameters) (sk ct : List ℕ) where
  -- a number of c1 is too large
  pub reading_refused : only_residues p.q (cipher_first p ct) ≡ false → decrypt_draws p sk ct ≡ refused 3 0
  unfolding decrypt_draws
  reading_refused e = rw e

  -- none is
  pub reading_passed : only_residues p.q (cipher_first p ct) ≡ true → decrypt_draws p sk ct ≡ secret_draw p sk
  unfolding decrypt_draws
  reading_passed e = rw e
