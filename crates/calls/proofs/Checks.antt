-- Laws of the checks: what a list of tests tells, and where the first failing entry of a list stands.
-- Assumes nothing.
use mathlib.Core.Path.{◌≡◌, refl, sym, ap, ap₂, ◌∙◌}
use mathlib.Core.Logic.{◌↔◌}
use mathlib.Core.Bool.{Bool, true, false}
use mathlib.Core.List.{List, [], ◌∷◌, ◌++◌}
use Prim.Native.Nat.{ℕ, zero, suc, ◌+◌, ◌≤◌, ◌<◌}
use native.Mathlib.Nat.{add-zero, zero-add, add-suc, suc-add}
use native.Mathlib.Decide.{dec_lt}
use native.Mathlib.Omega.{arith}
use borrow.Author.Tests.{lt-ltb, le-ltb, ltb-true, ltb-false}
use lib.Dec.{ltb}
use lib.ListN.{length, get_or, length-append}
use Rattle.calls.specs.Outcome.{Outcome, accepted, refused, refuse}
use Rattle.calls.specs.Checks.{all_of, further, passing, refuse_first, below}
use Rattle.calls.proofs.Outcome.{refuse_accepted}

-- each test of the list holds, as a pair for each test
abbrev pub Each : List Bool → Type 0
Each [] = Unit
Each (t ∷ ts) = (t ≡ true) × Each ts

-- all of the tests hold: each holds
pub all_of_each : (ts : List Bool) → all_of ts ≡ true → Each ts
unfolding all_of
all_of_each [] e = tt
all_of_each (true ∷ ts) e = (refl, all_of_each ts e)
all_of_each (false ∷ ts) e = let z : ◌≡◌ {A = ℕ} 0 1 = cc in absurd (omega arith)

-- each test holds: all of them hold
pub each_all_of : (ts : List Bool) → Each ts → all_of ts ≡ true
unfolding all_of
each_all_of [] e = refl
each_all_of (t ∷ ts) e = rw e.0 (each_all_of ts e.1)

-- the test at a place fails: not all of them hold
pub all_of_false : (ts : List Bool) (i : ℕ) → get_or ts i true ≡ false → all_of ts ≡ false
unfolding all_of
all_of_false [] i e = e
all_of_false (t ∷ ts) zero e = rw e
all_of_false (true ∷ ts) (suc i) e = all_of_false ts i e
all_of_false (false ∷ ts) (suc i) e = refl

-- a count above k: this entry passes, and so do at least k after it
further_more : (t : Bool) (n k : ℕ) → k < further t n → (t ≡ true) × (k ≤ n)
further_more true n k h = (refl, omega arith)
further_more false n k h = absurd (omega arith)

-- one entry more adds at most one to the count
further_within : (t : Bool) (n m : ℕ) → n ≤ m → further t n ≤ suc m
further_within true n m h = omega arith
further_within false n m h = omega arith

module _ {A : Type 0} (test : ℕ → A → Bool) where
  -- no more entries pass than there are
  pub passing_within : (start : ℕ) (xs : List A) → passing test start xs ≤ length xs
  unfolding passing
  passing_within start [] = omega arith
  passing_within start (x ∷ xs) = further_within (test start x) _ _ (passing_within (suc start) xs)

  -- each entry before the first that fails passes
  pub passing_before : (start : ℕ) (xs : List A) (d : A) (k : ℕ) → k < passing test start xs → test (start + k) (get_or xs k d) ≡ true
  unfolding passing
  passing_before start [] d k h = absurd (omega arith)
  passing_before start (x ∷ xs) d zero h = rw add-zero (further_more (test start x) _ 0 h).0
  passing_before start (x ∷ xs) d (suc k) h =
      rw add-suc (rw suc-add at (passing_before (suc start) xs d k (further_more (test start x) _ (suc k) h).1))

  -- a place up to which every entry passes, and where the entry fails or the list ends, is the count
  pub passing_is : (start : ℕ) (xs : List A) (d : A) (r : ℕ) → r ≤ length xs → ((k : ℕ) → k < r → test (start + k) (get_or xs k d) ≡ true)
      → (r < length xs → test (start + r) (get_or xs r d) ≡ false) → r ≡ passing test start xs
  unfolding passing
  passing_is start [] d r within before at = omega arith
  passing_is start (x ∷ xs) d zero within before at = rw (rw add-zero at (at (omega arith)))
  passing_is start (x ∷ xs) d (suc r) within before at =
      rw (rw add-zero at (before 0 (omega arith)))
      (ap suc (passing_is (suc start) xs d r (omega arith)
      (λ k h. rw suc-add (rw add-suc at (before (suc k) (omega arith))))
      (λ h. rw suc-add (rw add-suc at (at (omega arith))))))

  -- all entries are counted exactly where each passes
  pub passing_all : (start : ℕ) (xs : List A) (d : A)
      → (passing test start xs ≡ length xs) ↔ ((k : ℕ) → k < length xs → test (start + k) (get_or xs k d) ≡ true)
  passing_all start xs d = (
    λ e k h. passing_before start xs d k (omega arith),
    λ all. sym (passing_is start xs d (length xs) (omega arith) all (λ h. absurd (omega arith))),
  )

  -- the count of a list in two parts stops in the first part where that part has an entry that fails
  pub passing_append_first : (start : ℕ) (xs ys : List A) → passing test start xs < length xs → passing test start (xs ++ ys) ≡ passing test start xs
  unfolding passing
  passing_append_first start [] ys h = absurd (omega arith)
  passing_append_first start (x ∷ xs) ys h = go (test start x) h (passing_append_first (suc start) xs ys)
    where
      go : (t : Bool) → further t (passing test (suc start) xs) < suc (length xs)
          → (passing test (suc start) xs < length xs → passing test (suc start) (xs ++ ys) ≡ passing test (suc start) xs)
          → further t (passing test (suc start) (xs ++ ys)) ≡ further t (passing test (suc start) xs)
      go true h ih = ap suc (ih (omega arith))
      go false h ih = refl

  -- else it goes on in the second part, whose positions follow those of the first
  pub passing_append_second : (start : ℕ) (xs ys : List A) → length xs ≤ passing test start xs
      → passing test start (xs ++ ys) ≡ length xs + passing test (start + length xs) ys
  unfolding passing
  passing_append_second start [] ys h = simp (add-zero, zero-add)
  passing_append_second start (x ∷ xs) ys h =
      let m = further_more (test start x) _ (length xs) h in
      rw (m.0, add-suc, suc-add) (ap suc (rw suc-add at (passing_append_second (suc start) xs ys m.1)))

  -- a test that does not look at the position counts the same from any start
  pub passing_anywhere : ((i j : ℕ) (x : A) → test i x ≡ test j x) → (start other : ℕ) (xs : List A) → passing test start xs ≡ passing test other xs
  unfolding passing
  passing_anywhere same start other [] = refl
  passing_anywhere same start other (x ∷ xs) = ap₂ further (same start other x) (passing_anywhere same (suc start) (suc other) xs)

  module _ (start offset : ℕ) (xs : List A) (after : Outcome) where
    -- the count stops before the end: refused with 3 at that place
    pub refuse_first_fails : (i : ℕ) → i ≡ passing test start xs → i < length xs → refuse_first test start offset xs after ≡ refused 3 (offset + i)
    unfolding refuse_first
    refuse_first_fails i e h = rw (← e, lt-ltb i (length xs) h)

    -- all entries pass: what comes after
    pub refuse_first_passes : (i : ℕ) → i ≡ passing test start xs → length xs ≤ i → refuse_first test start offset xs after ≡ after
    unfolding refuse_first
    refuse_first_passes i e h = rw (← e, le-ltb i (length xs) h)

    -- the check of the first number that fails the test
    pub refuse_first_at : (i : ℕ) → i ≡ passing test start xs → refuse (ltb i (length xs)) 3 (offset + i) after ≡ refuse_first test start offset xs after
    unfolding refuse_first
    refuse_first_at i e = rw (← e) refl

    -- an accepted call: all entries pass, and what comes after accepts
    pub refuse_first_accepted : refuse_first test start offset xs after ≡ accepted → (passing test start xs ≡ length xs) × (after ≡ accepted)
    unfolding refuse_first
    refuse_first_accepted e =
        let stops = ltb (passing test start xs) (length xs) in
        let h = refuse_accepted stops 3 (offset + passing test start xs) after e in
        (omega (arith, ltb-false, passing_within start xs), h.1)

  -- a check of a list in two parts: a check of the first, then one of the second, with its places counted through the first
  pub refuse_first_append : (start offset : ℕ) (xs ys : List A) (after : Outcome)
      → refuse_first test start offset (xs ++ ys) after ≡ refuse_first test start offset xs (refuse_first test (start + length xs) (offset + length xs) ys
      after)
  refuse_first_append start offset xs ys after = go (dec_lt i l) (dec_lt j (length ys))
    where
      l : ℕ
      l = length xs

      i : ℕ
      i = passing test start xs

      j : ℕ
      j = passing test (start + l) ys

      rest : Outcome
      rest = refuse_first test (start + l) (offset + l) ys after

      go : Dec (i < l) → Dec (j < length ys) → refuse_first test start offset (xs ++ ys) after ≡ refuse_first test start offset xs rest
      go (yes h) k =
          refuse_first_fails start offset (xs ++ ys) after i (sym (passing_append_first start xs ys h)) (simp length-append (omega arith))
          ∙ sym (refuse_first_fails start offset xs rest i refl h)
      go (no h) (yes k) =
          refuse_first_fails start offset (xs ++ ys) after (l + j) (sym (passing_append_second start xs ys (omega arith))) (simp length-append (omega arith))
          ∙ ap (refused 3) (omega arith)
          ∙ sym (refuse_first_passes start offset xs rest i refl (omega arith) ∙ refuse_first_fails (start + l) (offset + l) ys after j refl k)
      go (no h) (no k) =
          refuse_first_passes start offset (xs ++ ys) after (l + j) (sym (passing_append_second start xs ys (omega arith))) (simp length-append (omega arith))
          ∙ sym (refuse_first_passes start offset xs rest i refl (omega arith) ∙ refuse_first_passes (start + l) (offset + l) ys after j refl (omega arith))

-- the same of numbers below a limit, whose test does not look at the position
pub refuse_first_below_append : (limit offset : ℕ) (xs ys : List ℕ) (after : Outcome)
    → refuse_first (below limit) 0 offset (xs ++ ys) after ≡ refuse_first (below limit) 0 offset xs (refuse_first (below limit) 0 (offset + length xs) ys after)
unfolding refuse_first
refuse_first_below_append limit offset xs ys after =
    refuse_first_append (below limit) 0 offset xs ys after ∙ rw (passing_anywhere (below limit) (λ i j x. refl) (0 + length xs) 0 ys)

-- numbers that all pass are each below the limit
pub passing_below : (limit : ℕ) (xs : List ℕ) → passing (below limit) 0 xs ≡ length xs → (k : ℕ) → k < length xs → get_or xs k 0 < limit
passing_below limit xs e k h = ltb-true _ _ ((passing_all (below limit) 0 xs 0).0 e k h)
