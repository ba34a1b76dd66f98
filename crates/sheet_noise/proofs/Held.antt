-- The room of the work slice, what the draws leave in it, and the state with which the errors go on.
-- Assumes nothing.
use mathlib.Core.Path.{◌≡◌, refl, sym, ap, ◌∙◌}
use mathlib.Core.Bool.{true}
use mathlib.Core.List.{List, ◌++◌, map}
use Prim.Native.Nat.{ℕ, ◌+◌, ◌-◌, ◌*◌, ◌≤◌}
use native.Mathlib.Nat.{mul-le-mul_left}
use native.Mathlib.Omega.{arith}
use lib.ListN.{length, take, drop}
use lib.Seq.{take_at}
use Rattle.maths.specs.Integer.{residue}
use Rattle.calls.specs.Region.{region, over}
use Rattle.calls.proofs.Region.{over_lent, over_take, region_part, region_over_same}
use Rattle.sets.specs.declared.Parameters.{Parameters}
use Rattle.sets.specs.Table.{Listed}
use Rattle.sets.specs.Rules.{ByteRules}
use Rattle.sets.specs.Derived.{multiplier_count_of, error_count_of}
use Rattle.sets.proofs.Rules.{listed_rules}
use Rattle.draws.specs.Uniform.{Drawn, taken, ended, exhausted}
use Rattle.byte_source.specs.Source.{State, initial}
use Rattle.samplers.specs.Blocks.{Sampled, uniform, onto, refusal, uniform_answer}
use Rattle.samplers.specs.Seeded.{secret_sampled, secret_drawn, secret_state, multipliers_drawn}
use Rattle.samplers.proofs.Laws.{answer_onto, answer_refusal}
use Rattle.scheme.specs.Answers.{work_length_of, is_taken}
use Rattle.scheme.specs.Encryption.{errors}
use Rattle.sheet_noise.specs.Centred.{ErrorsHeld, Held}
use Rattle.sheet_noise.proofs.Sums.{errors_few}

-- the errors, the multipliers and a stored secret fit the work slice
pub record WorkRoom (p : Parameters) : Type 0 where
  pub secret_in : p.d3 ≤ work_length_of p
  pub all_in : error_count_of p + multiplier_count_of p ≤ work_length_of p
  pub few : error_count_of p + multiplier_count_of p ≤ 18432

pub work_room : (p : Parameters) → ByteRules p → Listed p → WorkRoom p
unfolding work_length_of error_count_of multiplier_count_of
work_room p bytes known =
    let kept = listed_rules p known in
    let shorter : p.t * (p.k + 1) ≤ p.t * p.d1 = mul-le-mul_left p.t (omega (arith, kept.holds1, kept.some_d)) in
    record { secret_in = omega arith; all_in = omega arith; few = omega (arith, errors_few p kept bytes, kept.most_multipliers) }

-- a draw that is taken has numbers
taken_absurd : (drawn : Drawn) → ((xs : List ℕ) → drawn ≡ taken xs → ⊥) → is_taken drawn ≡ true → ⊥
taken_absurd (taken xs) h t = h xs refl
taken_absurd (ended xs run) h t = let z : ◌≡◌ {A = ℕ} 0 1 = cc in omega arith
taken_absurd (exhausted i) h t = let z : ◌≡◌ {A = ℕ} 0 1 = cc in omega arith

module _ (p : Parameters) (seed : List ℕ) (len : ℕ) (l : len ≡ p.d3) where
  -- the draw of the secret
  draw_is : uniform p (initial seed) p.bytpcs len ≡ secret_sampled p seed
  unfolding secret_sampled
  draw_is = ap (uniform p (initial seed) p.bytpcs) l

  -- the state that it leaves
  pub secret_state_lem : (next : State) → onto next ≡ uniform_answer p (initial seed) p.bytpcs len → next ≡ secret_state p seed
  unfolding secret_state
  secret_state_lem next answer =
      (answer_onto p (initial seed) p.bytpcs len next (sym answer)).next_is ∙ ap (λ (s : Sampled). s.next) draw_is

  -- a draw that is taken is not refused
  pub never_refused : 384 ≤ p.bytpcs → (number : ℕ) → refusal number ≡ uniform_answer p (initial seed) p.bytpcs len
      → is_taken (secret_drawn p seed) ≡ true → ⊥
  unfolding secret_drawn
  never_refused large number answer t =
      taken_absurd (uniform p (initial seed) p.bytpcs len).drawn (answer_refusal p (initial seed) p.bytpcs len large number (sym answer)).1
      (ap (λ (s : Sampled). is_taken s.drawn) draw_is ∙ t)

-- the front of a slice of which the first n entries came back
front_held : (work es : List ℕ) (n m : ℕ) → length es ≡ m → region (take 0 work ++ (es ++ drop (n - 0) (drop 0 work))) 0 m ≡ es
unfolding region
front_held work es n m l = take_at es (drop (n - 0) (drop 0 work)) m l

-- the front stays where a later part is written over
front_kept : (work : List ℕ) (at : ℕ) (ys : List ℕ) → at + length ys ≤ length work → region (over work at ys) 0 at ≡ region work 0 at
unfolding region
front_kept work at ys fits = over_take work at ys fits

module _ (p : Parameters) (secret : List ℕ) where
  -- the errors written at the front
  pub errors_written : (work es : List ℕ) (n : ℕ) → length es ≡ error_count_of p → es ≡ map (residue p.q) (errors p secret)
      → ErrorsHeld p secret (take 0 work ++ (es ++ drop (n - 0) (drop 0 work)))
  errors_written work es n l made = record { errors_held = front_held work es n (error_count_of p) l ∙ made }

  module _ (sealing work : List ℕ) where
    -- and the multipliers after them
    pub multipliers_written : (ms : List ℕ) (start end : ℕ) → start ≡ error_count_of p → end ≡ start + multiplier_count_of p → length ms ≡ multiplier_count_of p
        → end ≤ length work
        → ErrorsHeld p secret work → ms ≡ map (residue p.q) (multipliers_drawn p sealing)
        → Held p secret sealing (take start work ++ (ms ++ drop (end - start) (drop start work)))
    multipliers_written ms start end s f l fits held made =
        let all : take start work ++ (ms ++ drop (end - start) (drop start work)) ≡ over work (error_count_of p) ms =
        over_lent work start ms end (omega arith) ∙ ap (λ (n : ℕ). over work n ms) s in
        record {
          errors_held = ap (λ (ws : List ℕ). region ws 0 (error_count_of p)) all ∙ front_kept work (error_count_of p) ms (omega arith) ∙ held.errors_held;
          multipliers_held =
              ap (λ (ws : List ℕ). region ws (error_count_of p) (multiplier_count_of p)) all
              ∙ region_over_same work (error_count_of p) ms (omega arith) (multiplier_count_of p) l ∙ made;
        }

    module _ (held : Held p secret sealing work) (start : ℕ) (s : start ≡ error_count_of p) where
      -- the part of the errors
      pub errors_part : take (start - 0) (drop 0 work) ≡ map (residue p.q) (errors p secret)
      errors_part = region_part work 0 start start (omega arith) ∙ ap (region work 0) s ∙ held.errors_held

      -- the part of the multipliers
      pub multipliers_part : (count : ℕ) → count ≡ multiplier_count_of p
          → take (start + count - start) (drop start work) ≡ map (residue p.q) (multipliers_drawn p sealing)
      multipliers_part count c =
          region_part work start (multiplier_count_of p) (start + count) (omega arith) ∙ ap (λ (n : ℕ). region work n (multiplier_count_of p)) s
          ∙ held.multipliers_held
