-- Laws of the open draws' answers: the checks of the set and of the count, and what a call answers and leaves in each case.
-- Assumes nothing.
use mathlib.Core.Path.{◌≡◌, refl, sym, ap, ◌∙◌}
use mathlib.Core.Bool.{Bool, true, false}
use mathlib.Core.List.{List, [], ◌∷◌}
use Prim.Native.Nat.{ℕ, ◌+◌, ◌≤◌, ◌<◌}
use native.Mathlib.Omega.{arith}
use borrow.Author.Tests.{ltb-false, lt-ltb, le-ltb}
use lib.Dec.{ltb}
use lib.IntN.{ℤ}
use lib.ListN.{length}
use Rattle.calls.specs.Outcome.{Outcome, accepted, refused, refuse, leaves}
use Rattle.calls.proofs.Outcome.{accepted_refused, refuse_accepted, leaves_accepted, leaves_refused}
use Rattle.sets.specs.declared.Parameters.{Parameters}
use Rattle.sets.specs.Table.{set_of, IsSet, last_set, no_set}
use Rattle.sets.specs.Derived.{multiplier_count_of}
use Rattle.sets.proofs.Rules.{rules}
use Rattle.draws.specs.Uniform.{candidates, accept}
use Rattle.draws.specs.Calls.{drawn_answer, in_turn}
use Rattle.lent_draws.specs.Calls.{refuse_shape, residues_drawn, residues_answer, errors_answer}
use Rattle.draws.specs.Calls.{lent_results_of}
use Rattle.lent_draws.specs.Calls.{past_last, multipliers_answer, multipliers_left}

-- a refused call answers so and leaves the output
pub refused_both : {A : Type 0} {r o : Outcome} {number place : ℕ} (new old : List A) → r ≡ refused number place → o ≡ refused number place → (r ≡ o)
    × (old ≡ leaves o new old)
refused_both new old e f = (e ∙ sym f, sym (leaves_refused new old f))

-- an accepted call answers so and leaves the new entries
pub accepted_both : {A : Type 0} {o : Outcome} {now new : List A} (old : List A) → o ≡ accepted → now ≡ new → (accepted ≡ o) × (now ≡ leaves o new old)
accepted_both {new = new} old e f = (sym e, f ∙ sym (leaves_accepted new old e))

-- the set is 1 to 12, and no more results are wanted than may be
pub record Shaped (set wanted : ℕ) : Type 0 where
  pub some : 1 ≤ set
  pub most : IsSet set
  pub few : wanted ≤ 4096

module _ (set wanted : ℕ) where
  -- accepted checks
  pub shaped : refuse_shape set wanted accepted ≡ accepted → Shaped set wanted
  unfolding refuse_shape
  shaped e =
      let first = refuse_accepted (ltb set 1) 1 0 _ e in
      let second = refuse_accepted (no_set set) 1 0 _ first.1 in
      let third = refuse_accepted (ltb 4096 wanted) 2 0 _ second.1 in
      record { some = ltb-false set 1 first.0; most = omega (arith, ltb-false last_set set second.0); few = ltb-false 4096 wanted third.0 }

  -- after accepted checks comes the rest
  pub shape_rest : Shaped set wanted → (rest : Outcome) → refuse_shape set wanted rest ≡ rest
  unfolding refuse_shape
  shape_rest s rest = rw (le-ltb set 1 s.some, le-ltb last_set set (omega (arith, s.most)), le-ltb 4096 wanted s.few)

  -- a refused check decides, whatever the rest
  pub shape_refused : {number place : ℕ} → refuse_shape set wanted accepted ≡ refused number place → (rest : Outcome)
      → refuse_shape set wanted rest ≡ refused number place
  unfolding refuse_shape
  shape_refused {number} {place} e rest = go (ltb set 1) (no_set set) (ltb 4096 wanted) e
    where
      go : (a b c : Bool) → refuse a 1 0 (refuse b 1 0 (refuse c 2 0 accepted)) ≡ refused number place
          → refuse a 1 0 (refuse b 1 0 (refuse c 2 0 rest)) ≡ refused number place
      go true b c e = e
      go false true c e = e
      go false false true e = e
      go false false false e = absurd (accepted_refused refl e)

-- the modulus of a set is not zero
pub modulus_some : (set : ℕ) (p : Parameters) → p ≡ set_of set → IsSet set → 0 < p.q
modulus_some set p known h = rw known (omega (arith, (rules set h).odd))

-- the answers of a call whose set and count are accepted; p is the set's parameters
module _ (set wanted : ℕ) (bytes : List ℕ) (s : Shaped set wanted) (p : Parameters) (known : p ≡ set_of set) where
  -- the whole draw of residues
  pub residues_drawn_lem : accept p.q p.zqrej wanted 0 (candidates bytes) ≡ residues_drawn set bytes wanted
  unfolding residues_drawn
  residues_drawn_lem = rw known

  -- what it answers
  pub residues_answer_lem : residues_answer set bytes wanted ≡ drawn_answer 0 (accept p.q p.zqrej wanted 0 (candidates bytes))
  unfolding residues_answer
  residues_answer_lem = shape_rest set wanted s _ ∙ ap (drawn_answer 0) (sym residues_drawn_lem)

  module _ (first : ℕ) (some : 0 < wanted) where
    -- multipliers past the last position
    pub multipliers_past : multiplier_count_of p < first + wanted → multipliers_answer set bytes first wanted ≡ refused 2 0
    unfolding past_last multipliers_answer
    multipliers_past h = shape_rest set wanted s _ ∙ rw (← known, lt-ltb 0 wanted some, lt-ltb (multiplier_count_of p) (first + wanted) h)

    module _ (within : first + wanted ≤ multiplier_count_of p) where
      -- only the bytes are left to check
      after_positions : multipliers_answer set bytes first wanted ≡ refuse (ltb (lent_results_of p bytes first wanted) wanted) 4
          (lent_results_of p bytes first wanted)
          accepted
      unfolding past_last multipliers_answer
      after_positions = shape_rest set wanted s _ ∙ rw (← known, lt-ltb 0 wanted some, le-ltb (multiplier_count_of p) (first + wanted) within)

      -- a multiplier whose bytes are not all lent
      pub multipliers_short : lent_results_of p bytes first wanted < wanted
          → multipliers_answer set bytes first wanted ≡ refused 4 (lent_results_of p bytes first wanted)
      multipliers_short h = after_positions ∙ rw (lt-ltb (lent_results_of p bytes first wanted) wanted)

      -- all bytes are lent
      pub multipliers_enough : wanted ≤ lent_results_of p bytes first wanted → multipliers_answer set bytes first wanted ≡ accepted
      multipliers_enough h = after_positions ∙ rw (le-ltb (lent_results_of p bytes first wanted) wanted)

-- no multipliers wanted, at any first position: accepted, and the empty output is left
pub multipliers_none : (set first : ℕ) (bytes : List ℕ) (out : List ℤ) → Shaped set (length out) → length out ≡ 0 →
    (accepted ≡ multipliers_answer set bytes first (length out)) × (out ≡ multipliers_left set bytes first out)
unfolding past_last lent_results_of multipliers_answer multipliers_left in_turn
multipliers_none set first bytes [] s e = (sym (shape_rest set 0 s _), rw (shape_rest set 0 s accepted))
multipliers_none set first bytes (x ∷ xs) s e = absurd (omega arith)

module _ (set wanted : ℕ) (bytes : List ℕ) (s : Shaped set wanted) where
  -- errors: fewer bytes than results
  pub errors_short : length bytes < wanted → errors_answer set bytes wanted ≡ refused 4 (length bytes)
  unfolding errors_answer
  errors_short h = shape_rest set wanted s _ ∙ rw (lt-ltb (length bytes) wanted)

  -- a byte for each error
  pub errors_enough : wanted ≤ length bytes → errors_answer set bytes wanted ≡ accepted
  unfolding errors_answer
  errors_enough h = shape_rest set wanted s _ ∙ rw (le-ltb (length bytes) wanted)
