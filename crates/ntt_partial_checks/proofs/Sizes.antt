-- Laws of the number of a transform by its size.
-- Assumes nothing.
use mathlib.Core.Path.{◌≡◌, refl, sym, ◌∙◌}
use mathlib.Core.Bool.{Bool, true, false, cond}
use Prim.Native.Nat.{ℕ, zero, suc, ◌+◌, ◌*◌, ◌≤◌, ◌<◌}
use native.Mathlib.Nat.{mul_comm, mul-zero, mul-suc}
use native.Mathlib.Omega.{arith}
use lib.Dec.{eqb}
use borrow.Author.Tests.{eqb-true, eq-eqb, ne_eqb}
use Rattle.std.specs.Prelude.{Result, Err, IsErrAnd, MatchResult}
use Rattle.std.proofs.lemmas.Result.{err_from_is_err_and}
use Rattle.calls.specs.declared.Refusal.{Refusal}
use Rattle.calls.specs.Outcome.{Outcome, outcome}
use Rattle.sets.specs.declared.Parameters.{Parameters}
use Rattle.sets.specs.Derived.{transform_size_of}
use Rattle.sets.specs.Rules.{Rules}
use Rattle.sets.proofs.Transforms.{first_size, second_size, third_size}
use Rattle.ntt_partial_checks.specs.Checks.{size_number_of}

-- a product of a number above 4,096 is 0 or above 4,096
no_product : (a b D : ℕ) → 4096 < a → 0 < D → D ≤ 4096 → a * b ≡ D → ⊥
no_product a zero D h some most e = let none : a * 0 ≡ 0 = mul-zero a in omega arith
no_product a (suc b) D h some most e = let more : a * suc b ≡ a * b + a = mul-suc a b in omega arith

module _ (p : Parameters) (kept : Rules p) where
  -- the first size is not 0
  first_some : 0 < p.d1
  first_some = omega (arith, kept.holds1, kept.some_d)

  -- a size that no transform has
  pub size_none : (n : ℕ) → (n ≡ p.d1 → ⊥) → (n ≡ p.d2 → ⊥) → (n ≡ p.d3 → ⊥) → size_number_of p n ≡ 0
  unfolding size_number_of
  size_none n a b c = rw (ne_eqb n p.d1 a, ne_eqb n p.d2 b, ne_eqb n p.d3 c)

  -- too many rows or too many columns
  pub size_large : (a b : ℕ) → 4096 < a → size_number_of p (a * b) ≡ 0
  size_large a b h =
      let none : (D : ℕ) → p.d1 ≤ D → D ≤ p.d3 → a * b ≡ D → ⊥ =
      λ D low high. no_product a b D h (omega (arith, first_some)) (omega (arith, kept.most_d3)) in
      size_none (a * b) (none p.d1 (omega arith) (omega (arith, kept.rising1, kept.rising2))) (none p.d2 kept.rising1 kept.rising2)
      (none p.d3 (omega (arith, kept.rising1, kept.rising2)) (omega arith))

  pub size_wide : (a b : ℕ) → 4096 < b → size_number_of p (a * b) ≡ 0
  size_wide a b h = rw (mul_comm a b) (size_large b a h)

-- the size of each transform has its number
pub size_one : (p : Parameters) (n : ℕ) → n ≡ p.d1 → size_number_of p n ≡ 1
unfolding size_number_of
size_one p n e = rw (eq-eqb n p.d1 e)

pub size_two : (p : Parameters) (n : ℕ) → (n ≡ p.d1 → ⊥) → n ≡ p.d2 → size_number_of p n ≡ 2
unfolding size_number_of
size_two p n a e = rw (ne_eqb n p.d1 a, eq-eqb n p.d2 e)

pub size_three : (p : Parameters) (n : ℕ) → (n ≡ p.d1 → ⊥) → (n ≡ p.d2 → ⊥) → n ≡ p.d3 → size_number_of p n ≡ 3
unfolding size_number_of
size_three p n a b e = rw (ne_eqb n p.d1 a, ne_eqb n p.d2 b, eq-eqb n p.d3 e)

-- a number that is not 0 is that of a transform of the size
pub size_found : (p : Parameters) (n : ℕ) → (size_number_of p n ≡ 0 → ⊥) → transform_size_of p (size_number_of p n) ≡ n
unfolding size_number_of
size_found p n some = found (eqb n p.d1) (eqb n p.d2) (eqb n p.d3) refl refl refl some
  where
    found : (one two three : Bool) → eqb n p.d1 ≡ one → eqb n p.d2 ≡ two → eqb n p.d3 ≡ three
        → (◌≡◌ {A = ℕ} (cond one 1 (cond two 2 (cond three 3 0))) 0 → ⊥) → transform_size_of p (cond one 1 (cond two 2 (cond three 3 0))) ≡ n
    found true two three a b c other = first_size p ∙ sym (eqb-true n p.d1 a)
    found false true three a b c other = second_size p ∙ sym (eqb-true n p.d2 b)
    found false false true a b c other = third_size p ∙ sym (eqb-true n p.d3 c)
    found false false false a b c other = absurd (other refl)

-- what `?` hands on is the refusal that was met
pub handed_refusal : (P : ℕ → Type 0) {o : Outcome} (e : Refusal) (r : Result ℕ Refusal) → IsErrAnd r (λ y. y ≡ e) → outcome (Err e) ≡ o
    → MatchResult r P (λ refusal. outcome (Err refusal) ≡ o)
handed_refusal P e r handed met = let same = err_from_is_err_and r handed in rw (same.1, same.2) met
