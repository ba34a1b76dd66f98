-- What the answer of a uniform draw tells of the draw, and how far the counters of a secret and of a public draw rise.
-- Assumes nothing.
use mathlib.Core.Path.{◌≡◌, refl}
use mathlib.Core.List.{List}
use Prim.Native.Nat.{ℕ, zero, suc, ◌*◌, ◌^◌, ◌≤◌, ◌<◌}
use native.Mathlib.Omega.{arith}
use Rattle.sets.specs.declared.Parameters.{Parameters}
use Rattle.sets.specs.Rules.{Rules, ByteRules}
use Rattle.draws.specs.Uniform.{Drawn, taken, ended, exhausted}
use Rattle.byte_source.specs.Source.{State, initial}
use Rattle.samplers.specs.Blocks.{uniform, onto, refusal, answer_of, uniform_answer}
use Rattle.samplers.specs.Seeded.{secret_sampled, secret_state, public_state}
use Rattle.samplers.proofs.Uniform.{uniform_never_ends, uniform_most}

-- a draw that has its numbers, with the state afterwards
pub record Onto (drawn : Drawn) (after next : State) : Type 0 where
  pub xs : List ℕ
  pub drawn_is : drawn ≡ taken xs
  pub next_is : next ≡ after

onto_cases : (after next : State) (drawn : Drawn) → answer_of drawn after ≡ onto next → Onto drawn after next
onto_cases after next (taken xs) e = record { xs = xs; drawn_is = refl; next_is = cc }
onto_cases after next (ended xs run) e = let z : ◌≡◌ {A = ℕ} 0 1 = cc in absurd (omega arith)
onto_cases after next (exhausted i) e = let z : ◌≡◌ {A = ℕ} 0 1 = cc in absurd (omega arith)

refusal_cases : (after : State) (number : ℕ) (drawn : Drawn) → ((xs : List ℕ) (run : ℕ) → drawn ≡ ended xs run → ⊥)
    → answer_of drawn after ≡ refusal number → (number ≡ 5) × ((xs : List ℕ) → drawn ≡ taken xs → ⊥)
refusal_cases after number (taken xs) never e = let z : ◌≡◌ {A = ℕ} 0 1 = cc in absurd (omega arith)
refusal_cases after number (ended xs run) never e = absurd (never xs run refl)
refusal_cases after number (exhausted i) never e = (cc, λ ys t. let z : ◌≡◌ {A = ℕ} 0 1 = cc in omega arith)

module _ (p : Parameters) (state : State) (size wanted : ℕ) where
  -- an answer with a state: the draw has its numbers
  pub answer_onto : (next : State) → uniform_answer p state size wanted ≡ onto next
      → Onto (uniform p state size wanted).drawn (uniform p state size wanted).next next
  unfolding uniform_answer
  answer_onto next e = onto_cases _ next (uniform p state size wanted).drawn e

  -- a refusal, with blocks of 128 candidates or more: its number is 5, and the draw has not its numbers
  pub answer_refusal : 384 ≤ size → (number : ℕ) → uniform_answer p state size wanted ≡ refusal number
      → (number ≡ 5) × ((xs : List ℕ) → (uniform p state size wanted).drawn ≡ taken xs → ⊥)
  unfolding uniform_answer
  answer_refusal large number e =
      refusal_cases _ number (uniform p state size wanted).drawn (λ xs run t. uniform_never_ends p state size wanted xs run large t) e

module _ (p : Parameters) (rules : Rules p) (bytes : ByteRules p) (seed : List ℕ) where
  -- the counter that the draw of the secret leaves
  pub secret_state_small : (secret_state p seed).counter < 2 ^ 31
  unfolding secret_state secret_sampled
  secret_state_small =
      omega (arith, rules.most_d3, uniform_most p (initial seed) p.bytpcs p.d3 bytes.most_bytpcs)

  -- the counter with which a public polynomial begins: 20,805,632 for each is 10,159 for each of 2,048 blocks
  public_state_most : (i : ℕ) → (public_state p seed i).counter ≤ 20805632 * i
  unfolding public_state
  public_state_most zero = omega arith
  public_state_most (suc i) =
      omega (
        arith,
        public_state_most i,
        rules.most_n,
        uniform_most p (public_state p seed i) p.bytpca p.n (omega (arith, bytes.most_bytpca)),
      )

  pub public_state_small : (i : ℕ) → i ≤ p.t → (public_state p seed i).counter < 2 ^ 31
  public_state_small i h = omega (arith, rules.most_t, public_state_most i)
