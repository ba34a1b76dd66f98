-- One result drawn from bytes: the invariant of the loop over its candidates.
-- Assumes nothing.
use mathlib.Core.Path.{◌≡◌, refl, sym, ap, ◌∙◌}
use mathlib.Core.List.{List, [], ◌∷◌}
use Prim.Native.Nat.{ℕ, suc, ◌+◌, ◌%◌, ◌≤◌, ◌<◌}
use native.Mathlib.Numerals.{add-one}
use native.Mathlib.Omega.{arith}
use lib.ListN.{length, drop}
use Rattle.calls.specs.Region.{region}
use Rattle.maths.specs.Bytes.{little_endian}
use Rattle.draws.specs.Uniform.{candidates, within, aside, last, verdict, Found, found, short, spent, later, find}
use Rattle.draws.specs.Uniform.{number, refusal, sample_of, sample_from, sample_at}
use Rattle.draws.proofs.Candidates.{candidates_none, candidates_first}
use Rattle.draws.proofs.Accept.{verdict_take, verdict_aside, verdict_last, find_within, find_aside, find_last}

-- one candidate more looked at is three bytes more
sample_later : (q position : ℕ) (f : Found) → sample_of q position (later f) ≡ sample_of q (position + 3) f
unfolding sample_of later
sample_later q position (found c looked cs) = ap (number (c % q)) (omega arith)
sample_later q position (short run) = refl
sample_later q position spent = refl

module _ (q threshold run position : ℕ) where
  -- no candidate
  pub sample_end : sample_from q threshold run position [] ≡ refusal 4
  unfolding find sample_of sample_from
  sample_end = refl

  module _ (c : ℕ) (cs : List ℕ) where
    -- the first candidate is taken
    pub sample_take : verdict threshold run c ≡ within → sample_from q threshold run position (c ∷ cs) ≡ number (c % q) (position + 3)
    unfolding sample_of sample_from
    sample_take e = ap (sample_of q position) (find_within threshold run c cs e)

    -- the first candidate is set aside
    pub sample_aside : verdict threshold run c ≡ aside → sample_from q threshold run position (c ∷ cs) ≡ sample_from q threshold (suc run) (position + 3) cs
    unfolding sample_from
    sample_aside e = ap (sample_of q position) (find_aside threshold run c cs e) ∙ sample_later q position (find threshold (suc run) cs)

    -- the first candidate is the last that may be set aside
    pub sample_last : verdict threshold run c ≡ last → sample_from q threshold run position (c ∷ cs) ≡ refusal 5
    unfolding sample_of sample_from
    sample_last e = ap (sample_of q position) (find_last threshold run c cs e)

-- the draw at a position is the draw at a later one, with some candidates set aside between them
pub record Sampling (bytes : List ℕ) (at q threshold before position run : ℕ) : Type 0 where
  pub same : sample_at q threshold before bytes at ≡ sample_from q threshold run position (candidates (drop position bytes))
  pub less : run < 128

-- before the first candidate
pub sampling_none : (bytes : List ℕ) (at q threshold before : ℕ) → before < 128 → Sampling bytes at q threshold before at before
unfolding sample_at
sampling_none bytes at q threshold before h = record { same = refl; less = h }

module _ {bytes : List ℕ} {at q threshold before position run : ℕ} (s : Sampling bytes at q threshold before position run) where
  -- the bytes end
  pub sampling_end : length bytes < position + 3 → refusal 4 ≡ sample_at q threshold before bytes at
  sampling_end h = sym (s.same ∙ rw (candidates_none bytes position h, sample_end))

  module _ {c : ℕ} (h : position + 3 ≤ length bytes) (e : c ≡ little_endian (region bytes position 3)) where
    -- the draw begins with the candidate at the position
    first : sample_at q threshold before bytes at ≡ sample_from q threshold run position (c ∷ candidates (drop (position + 3) bytes))
    first = s.same ∙ rw (candidates_first bytes position h, e)

    -- the candidate is taken
    pub sampling_take : {x : ℕ} → c < threshold → x ≡ c % q → number x (position + 3) ≡ sample_at q threshold before bytes at
    sampling_take l v = ap (λ (y : ℕ). number y (position + 3)) v ∙ sym (first ∙ sample_take q threshold run position c _ (verdict_take threshold run c l))

    -- the candidate is set aside
    pub sampling_aside : threshold ≤ c → (run + 1 ≡ 128 → ⊥) → Sampling bytes at q threshold before (position + 3) (run + 1)
    sampling_aside l n =
        let less : run + 1 < 128 = omega (arith, s.less) in
        record { same = first ∙ rw add-one (sample_aside q threshold run position c _ (verdict_aside threshold run c l (omega arith))); less = less }

    -- the candidate is the last that may be set aside
    pub sampling_last : threshold ≤ c → run + 1 ≡ 128 → refusal 5 ≡ sample_at q threshold before bytes at
    sampling_last l n = sym (first ∙ sample_last q threshold run position c _ (verdict_last threshold run c l (omega arith)))

-- the draw goes on, or the last candidate that may be set aside was
pub record Sampled (bytes : List ℕ) (at q threshold before position run : ℕ) : Type 0 where
  pub going : run < 128 → Sampling bytes at q threshold before position run
  pub spent : 128 ≤ run → refusal 5 ≡ sample_at q threshold before bytes at

-- before the first candidate
pub sampled_none : (bytes : List ℕ) (at q threshold before : ℕ) → before < 128 → Sampled bytes at q threshold before at before
sampled_none bytes at q threshold before h =
    record { going = λ _. sampling_none bytes at q threshold before h; spent = λ most. absurd (omega (arith, h, most)) }

-- a candidate is set aside
pub sampled_next :
    {bytes : List ℕ} {at q threshold before position run c : ℕ} →
    Sampling bytes at q threshold before position run → position + 3 ≤ length bytes → c ≡ little_endian (region bytes position 3) → threshold ≤ c
    → Sampled bytes at q threshold before (position + 3) (run + 1)
sampled_next s h e l =
    record { going = λ less. sampling_aside s h e l (λ most. omega (arith, less, most)); spent = λ most. sampling_last s h e l (omega (arith, s.less, most)) }
