-- What the answers of the draws of a key tell.
-- Assumes nothing.
use mathlib.Core.Path.{◌≡◌, refl, sym}
use mathlib.Core.Bool.{Bool, true, false, not}
use mathlib.Core.List.{List}
use Prim.Native.Nat.{ℕ, suc}
use native.Mathlib.Omega.{arith}
use Rattle.calls.specs.Outcome.{Outcome, accepted, refused, refuse}
use Rattle.calls.proofs.Outcome.{accepted_refused}
use Rattle.sets.specs.declared.Parameters.{Parameters}
use Rattle.sets.specs.Rules.{ByteRules}
use Rattle.draws.specs.Uniform.{Drawn, taken, ended, exhausted}
use Rattle.byte_source.specs.Source.{State, initial}
use Rattle.samplers.specs.Blocks.{uniform, onto, refusal, answer_of, uniform_answer}
use Rattle.samplers.specs.Seeded.{secret_sampled, secret_drawn, secret_state, public_state, public_drawn}
use Rattle.samplers.proofs.Laws.{uniform_never_ends}
use Rattle.scheme.specs.Answers.{is_taken}

-- true is not false
pub true_false : {b : Bool} → b ≡ true → b ≡ false → ⊥
true_false e f = let z : ◌≡◌ {A = ℕ} 0 1 = cc in omega arith

-- a draw with an answer has its numbers, and the state is the one afterwards
pub record Advanced (drawn : Drawn) (after next : State) : Type 0 where
  pub all_taken_lem : is_taken drawn ≡ true
  pub next_is : next ≡ after

pub advanced : (after next : State) (drawn : Drawn) → onto next ≡ answer_of drawn after → Advanced drawn after next
advanced after next (taken xs) e = record { all_taken_lem = refl; next_is = cc }
advanced after next (ended xs run) e = absurd (let z : ◌≡◌ {A = ℕ} 0 1 = cc in omega arith)
advanced after next (exhausted i) e = absurd (let z : ◌≡◌ {A = ℕ} 0 1 = cc in omega arith)

-- a draw that is refused has not its numbers, and is refused with 5
pub record Stopped (drawn : Drawn) (number : ℕ) : Type 0 where
  pub not_taken : is_taken drawn ≡ false
  pub five : number ≡ 5

pub stopped : (after : State) (number : ℕ) (drawn : Drawn) → ((xs : List ℕ) (run : ℕ) → drawn ≡ ended xs run → ⊥)
    → refusal number ≡ answer_of drawn after → Stopped drawn number
stopped after number (taken xs) never e = absurd (let z : ◌≡◌ {A = ℕ} 0 1 = cc in omega arith)
stopped after number (ended xs run) never e = absurd (never xs run refl)
stopped after number (exhausted i) never e = record { not_taken = refl; five = cc }

-- the draws of a key never end: their blocks hold 128 candidates or more
module _ (p : Parameters) (bytes : ByteRules p) (seed xs : List ℕ) (run : ℕ) where
  pub secret_never_ends : secret_drawn p seed ≡ ended xs run → ⊥
  unfolding secret_drawn secret_sampled
  secret_never_ends e = uniform_never_ends p (initial seed) p.bytpcs p.d3 xs run bytes.some_bytpcs e

  pub public_never_ends : (i : ℕ) → public_drawn p seed i ≡ ended xs run → ⊥
  unfolding public_drawn
  public_never_ends i e = uniform_never_ends p (public_state p seed i) p.bytpca p.n xs run bytes.some_bytpca e

module _ (p : Parameters) (seed : List ℕ) {wanted : ℕ} where
  module _ {state : State} (i : ℕ) (w : wanted ≡ p.n) (c : state ≡ public_state p seed i) where
    -- the answer of the draw of polynomial i
    pub public_answer : uniform_answer p state p.bytpca wanted ≡ answer_of (public_drawn p seed i) (public_state p seed (suc i))
    unfolding uniform_answer public_state public_drawn
    public_answer = rw (w, c)

    -- the draw itself
    pub public_draw : (uniform p state p.bytpca wanted).drawn ≡ public_drawn p seed i
    unfolding public_drawn
    public_draw = rw (w, c)

  module _ (w : wanted ≡ p.d3) where
    -- the answer of the draw of the secret
    pub secret_answer : uniform_answer p (initial seed) p.bytpcs wanted ≡ answer_of (secret_drawn p seed) (secret_state p seed)
    unfolding uniform_answer secret_sampled secret_drawn secret_state
    secret_answer = rw w

    -- the draw itself
    pub secret_draw_lem : (uniform p (initial seed) p.bytpcs wanted).drawn ≡ secret_drawn p seed
    unfolding secret_drawn secret_sampled
    secret_draw_lem = rw w

-- a check of a draw
pub refuse_not_taken : {b : Bool} {number : ℕ} (after : Outcome) → b ≡ false → number ≡ 5 → refused number 0 ≡ refuse (not b) 5 0 after
refuse_not_taken after e five = rw (e, five)

pub refuse_taken : {b : Bool} (after : Outcome) → b ≡ true → refuse (not b) 5 0 after ≡ after
refuse_taken after e = rw e

-- a check of a draw that accepts
pub draw_accepted : (b : Bool) (after : Outcome) → refuse (not b) 5 0 after ≡ accepted → (b ≡ true) × (after ≡ accepted)
draw_accepted true after e = (refl, e)
draw_accepted false after e = absurd (accepted_refused e refl)

-- a check of a draw that refuses
pub draw_refused : {number place : ℕ} (b : Bool) (after : Outcome) → refuse (not b) 5 0 accepted ≡ refused number place
    → refused number place ≡ refuse (not b) 5 0 after
draw_refused true after e = absurd (accepted_refused refl e)
draw_refused false after e = sym e
