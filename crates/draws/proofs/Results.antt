-- Uniform draws one result at a time: what one result tells of the whole draw, and the invariants of the two loops over the results.
-- Assumes nothing.
use mathlib.Core.Path.{◌≡◌, refl, sym, ap, ◌∙◌}
use mathlib.Core.List.{List, [], ◌∷◌}
use mathlib.Core.Logic.{◌⊎◌, inl, inr}
use Prim.Native.Nat.{ℕ, suc, ◌+◌, ◌-◌, ◌*◌, ◌/◌, ◌%◌, ◌≤◌, ◌<◌}
use native.Mathlib.Nat.{add-zero, sub-zero}
use native.Mathlib.Numerals.{add-one}
use native.Mathlib.Omega.{arith}
use lib.ListN.{length, get_or, drop, set, length-drop}
use lib.Seq.{drop-drop, drop-cons}
use Rattle.calls.specs.Outcome.{accepted, refused}
use Rattle.calls.proofs.Outcome.{accepted_refused}
use Rattle.calls.proofs.Filled.{Filled, filled_none, filled_more}
use Rattle.draws.specs.Uniform.{candidates, verdict, Drawn, taken, ended, exhausted, put, accept, numbers, Sample, number, refusal, sample_from, sample_at}
use Rattle.draws.specs.Calls.{drawn_answer}
use Rattle.draws.proofs.Candidates.{candidates_drop, candidates_length}
use Rattle.draws.proofs.Accept.{by_verdict, accept_none, accept_end, accept_take, accept_aside, accept_last, accept_within}
use Rattle.draws.proofs.Sampling.{sample_end, sample_take, sample_aside, sample_last}

-- a draw that gave a number was not refused
number_refusal : {s : Sample} {x next n : ℕ} → s ≡ number x next → s ≡ refusal n → ⊥
number_refusal a r = let z : ◌≡◌ {A = ℕ} 0 1 = cc in omega arith

-- the first result is a number, taken after some candidates were used, and the other results come from the rest
record First (q threshold wanted run position : ℕ) (cs : List ℕ) (x next : ℕ) : Type 0 where
  used : ℕ
  enough : used ≤ length cs
  next_position : next ≡ position + 3 * used
  rest : accept q threshold (suc wanted) run cs ≡ put x (accept q threshold wanted 0 (drop used cs))

-- a draw that is refused at its first result: with 4 all candidates were set aside, run of them in a row; with 5 one was the last that may be
abbrev pub Stop : ℕ → ℕ → Drawn → Type 0
Stop n run drawn = ((n ≡ 4) × (drawn ≡ ended [] run)) ⊎ ((n ≡ 5) × (drawn ≡ exhausted 0))

-- the answer of such a draw
stop_answer : (place n run : ℕ) (drawn : Drawn) → Stop n run drawn → drawn_answer place drawn ≡ refused n place
unfolding drawn_answer
stop_answer place n run drawn (inl s) = rw (s.1, s.0, add-zero)
stop_answer place n run drawn (inr s) = rw (s.1, s.0, add-zero)

module _ (q threshold wanted : ℕ) where
  -- a draw of one result that gives a number gives it first in a draw of more
  first_number : (run position : ℕ) (cs : List ℕ) (x next : ℕ) → sample_from q threshold run position cs ≡ number x next
      → First q threshold wanted run position cs x next
  first_number run position [] x next e = absurd (number_refusal e (sample_end q threshold run position))
  first_number run position (c ∷ cs) x next e =
      by_verdict (verdict threshold run c)
      (λ v. let same : number x next ≡ number (c % q) (position + 3) = sym e ∙ sample_take q threshold run position c cs v in
      let value : x ≡ c % q = cc in
      let place : next ≡ position + 3 = cc in
      record { used = 1; enough = omega arith; next_position = place; rest = rw value (accept_take q threshold wanted run c cs v) })
      (λ v. let later = first_number (suc run) (position + 3) cs x next (sym (sample_aside q threshold run position c cs v) ∙ e) in
      record {
        used = suc later.used;
        enough = omega (arith, later.enough);
        next_position = omega (arith, later.next_position);
        rest = accept_aside q threshold wanted run c cs v ∙ later.rest;
      })
      (λ v. absurd (number_refusal e (sample_last q threshold run position c cs v)))

  -- the first result is refused: the candidates ended and all were set aside, or one was the last that may be
  first_refused : (run position : ℕ) (cs : List ℕ) (n : ℕ) → sample_from q threshold run position cs ≡ refusal n →
      Stop n (run + length cs) (accept q threshold (suc wanted) run cs)
  first_refused run position [] n e =
      let four : n ≡ 4 = cc (sample_end q threshold run position) in
      inl (four, rw (accept_end q threshold wanted run, add-zero))
  first_refused run position (c ∷ cs) n e =
      by_verdict (verdict threshold run c)
      (λ v. absurd (number_refusal (sample_take q threshold run position c cs v) e))
      (λ v. let later = first_refused (suc run) (position + 3) cs n (sym (sample_aside q threshold run position c cs v) ∙ e) in
      let count : run + length (c ∷ cs) ≡ suc run + length cs = omega arith in
      rw (accept_aside q threshold wanted run c cs v, count) later)
      (λ v. let five : n ≡ 5 = cc (sample_last q threshold run position c cs v) in
      inr (five, accept_last q threshold wanted run c cs v))

  module _ (run : ℕ) (bytes : List ℕ) (position : ℕ) where
    -- a result drawn from bytes: the draw of the others goes on at the next position
    pub next_number_lem : (x next : ℕ) → sample_at q threshold run bytes position ≡ number x next
        → accept q threshold (suc wanted) run (candidates (drop position bytes)) ≡ put x (accept q threshold wanted 0 (candidates (drop next bytes)))
    unfolding sample_at
    next_number_lem x next e =
        let f = first_number run position (candidates (drop position bytes)) x next e in
        f.rest ∙ rw (← candidates_drop f.used (drop position bytes), drop-drop, ← f.next_position)

    -- the next position is not past the end
    pub next_within : (x next : ℕ) → position ≤ length bytes → sample_at q threshold run bytes position ≡ number x next → next ≤ length bytes
    unfolding sample_at
    next_within x next h e =
        let f = first_number run position (candidates (drop position bytes)) x next e in
        let count : length (candidates (drop position bytes)) ≡ (length bytes - position) / 3 = candidates_length (drop position bytes) ∙ rw length-drop in
        omega (arith, f.enough, f.next_position)

    -- a result that is refused
    pub next_refused : (n : ℕ) → sample_at q threshold run bytes position ≡ refusal n
        → Stop n (run + (length bytes - position) / 3) (accept q threshold (suc wanted) run (candidates (drop position bytes)))
    unfolding sample_at
    next_refused n e =
        let count : length (candidates (drop position bytes)) ≡ (length bytes - position) / 3 = candidates_length (drop position bytes) ∙ rw length-drop in
        rw (← count) (first_refused run position (candidates (drop position bytes)) n e)

    -- the draw is refused with this result's place
    pub next_refusal : (place n : ℕ) → sample_at q threshold run bytes position ≡ refusal n
        → drawn_answer place (accept q threshold (suc wanted) run (candidates (drop position bytes))) ≡ refused n place
    next_refusal place n e = stop_answer place n _ _ (next_refused n e)

-- a finished result before a draw moves the places of the others by one
answer_put : (place x : ℕ) (d : Drawn) → drawn_answer place (put x d) ≡ drawn_answer (place + 1) d
unfolding drawn_answer put
answer_put place x (taken xs) = refl
answer_put place x (ended xs run) = ap (refused 4) (omega arith)
answer_put place x (exhausted i) = ap (refused 5) (omega arith)

-- after i results: the answer is that of the other results, from a position on
pub record Looking (bytes : List ℕ) (q threshold wanted position i : ℕ) : Type 0 where
  pub within : i ≤ wanted
  pub same : drawn_answer 0 (accept q threshold wanted 0 (candidates bytes)) ≡ drawn_answer i
      (accept q threshold (wanted - i) 0 (candidates (drop position bytes)))

-- before the first result
pub looking_none : (bytes : List ℕ) (q threshold wanted : ℕ) → Looking bytes q threshold wanted 0 0
looking_none bytes q threshold wanted = record { within = omega arith; same = rw sub-zero }

module _ {bytes : List ℕ} {q threshold wanted position i : ℕ} (l : Looking bytes q threshold wanted position i) where
  -- a result is drawn
  pub looking_more : (x next : ℕ) → i < wanted → sample_at q threshold 0 bytes position ≡ number x next → Looking bytes q threshold wanted next (i + 1)
  looking_more x next h e =
      let m : wanted - i ≡ suc (wanted - (i + 1)) = omega arith in
      record { within = omega arith; same = l.same ∙ rw (m, next_number_lem q threshold (wanted - (i + 1)) 0 bytes position x next e) (answer_put i x _) }

  -- a result is refused
  pub looking_refused : (n : ℕ) → i < wanted → sample_at q threshold 0 bytes position ≡ refusal n →
      refused n i ≡ drawn_answer 0 (accept q threshold wanted 0 (candidates bytes))
  looking_refused n h e =
      let m : wanted - i ≡ suc (wanted - (i + 1)) = omega arith in
      sym (l.same ∙ rw m (next_refusal q threshold (wanted - (i + 1)) 0 bytes position i n e))

  -- all results are drawn
  pub looking_all : wanted ≤ i → accepted ≡ drawn_answer 0 (accept q threshold wanted 0 (candidates bytes))
  unfolding drawn_answer
  looking_all h =
      let m : wanted - i ≡ 0 = omega arith in
      sym (l.same ∙ rw (m, accept_none))

-- an accepted draw gives its numbers
answer_taken : (place : ℕ) (d : Drawn) → drawn_answer place d ≡ accepted → d ≡ taken (numbers d)
unfolding drawn_answer numbers
answer_taken place (taken xs) e = refl
answer_taken place (ended xs run) e = absurd (accepted_refused e refl)
answer_taken place (exhausted i) e = absurd (accepted_refused e refl)

-- a draw whose first result is x gives x first, and then the numbers of the others
put_taken : (x y : ℕ) (d : Drawn) (ys : List ℕ) → put x d ≡ taken (y ∷ ys) → (x ≡ y) × (d ≡ taken ys)
unfolding put
put_taken x y (taken xs) ys e = (cc, cc)
put_taken x y (ended xs run) ys e = let z : ◌≡◌ {A = ℕ} 0 1 = cc in absurd (omega arith)
put_taken x y (exhausted i) ys e = let z : ◌≡◌ {A = ℕ} 0 1 = cc in absurd (omega arith)

-- the numbers of a whole draw from bytes
abbrev residues_of_lem : List ℕ → ℕ → ℕ → ℕ → List ℕ
residues_of_lem bytes q threshold wanted = numbers (accept q threshold wanted 0 (candidates bytes))

-- after i results: they stand in the output, and the draw of the others gives the other numbers
pub record Filling (bytes : List ℕ) (q threshold : ℕ) (old : List ℕ) (position i : ℕ) (new : List ℕ) : Type 0 where
  pub filled : Filled old 0 (length old) (residues_of_lem bytes q threshold (length old)) i new
  pub rest : accept q threshold (length old - i) 0 (candidates (drop position bytes)) ≡ taken (drop i (residues_of_lem bytes q threshold (length old)))

-- before the first result
pub filling_none : (bytes : List ℕ) (q threshold : ℕ) (old : List ℕ) → drawn_answer 0 (accept q threshold (length old) 0 (candidates bytes)) ≡ accepted
    → Filling bytes q threshold old 0 0 old
filling_none bytes q threshold old e =
    let whole = answer_taken 0 (accept q threshold (length old) 0 (candidates bytes)) e in
    record {
      filled = filled_none (rw whole at (accept_within q threshold (length old) 0 (candidates bytes) (omega arith))) (omega arith);
      rest = rw sub-zero whole;
    }

module _ {bytes : List ℕ} {q threshold : ℕ} {old : List ℕ} {position i : ℕ} {new : List ℕ} (f : Filling bytes q threshold old position i new)
    (h : i < length old) where
  -- a result is drawn and written
  pub filling_more : (x next : ℕ) → sample_at q threshold 0 bytes position ≡ number x next → Filling bytes q threshold old next (i + 1) (set new i x)
  filling_more x next e =
      let m : length old - i ≡ suc (length old - (i + 1)) = omega arith in
      let ys = residues_of_lem bytes q threshold (length old) in
      let first : put x (accept q threshold (length old - (i + 1)) 0 (candidates (drop next bytes))) ≡ taken (get_or ys i 0 ∷ drop (suc i) ys) =
      sym (next_number_lem q threshold (length old - (i + 1)) 0 bytes position x next e)
      ∙ rw m at f.rest
      ∙ ap taken (drop-cons ys i 0 (omega (arith, f.filled.entries))) in
      let parts = put_taken x (get_or ys i 0) _ (drop (suc i) ys) first in
      record { filled = filled_more 0 f.filled h (omega arith) parts.0; rest = rw (add-one i) (rw (add-one i) at parts.1) }

  -- no result is refused
  pub filling_refused : (n : ℕ) → sample_at q threshold 0 bytes position ≡ refusal n → ⊥
  unfolding drawn_answer
  filling_refused n e =
      let m : length old - i ≡ suc (length old - (i + 1)) = omega arith in
      accepted_refused {number = n} {place = 0} (ap (drawn_answer 0) f.rest) (rw m (next_refusal q threshold (length old - (i + 1)) 0 bytes position 0 n e))
