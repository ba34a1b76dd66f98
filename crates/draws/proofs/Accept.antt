-- Laws of uniform draws: one candidate, candidates in two parts, how many candidates suffice, and the numbers taken.
-- Assumes nothing.
use mathlib.Core.Path.{◌≡◌, refl, ap, ◌∙◌}
use mathlib.Core.Bool.{Bool, true, false, cond}
use mathlib.Core.List.{List, [], ◌∷◌, ◌++◌}
use Prim.Native.Nat.{ℕ, zero, suc, ◌+◌, ◌-◌, ◌*◌, ◌%◌, ◌≤◌, ◌<◌}
use native.Mathlib.Nat.{sub-zero, mod-lt}
use native.Mathlib.Omega.{arith}
use borrow.Author.Tests.{lt-ltb, le-ltb, ltb-true}
use lib.Dec.{ltb}
use lib.ListN.{length, get_or}
use Rattle.draws.specs.Uniform.{Verdict, within, aside, last, verdict, Found, found, short, spent, later, find}
use Rattle.draws.specs.Uniform.{Drawn, taken, ended, exhausted, put, continued, accept, numbers, after, resume}

-- a candidate below the threshold is taken
pub verdict_take : (threshold run c : ℕ) → c < threshold → verdict threshold run c ≡ within
unfolding verdict
verdict_take threshold run c h = rw (lt-ltb c threshold)

-- another is set aside, where it is not the 128th
pub verdict_aside : (threshold run c : ℕ) → threshold ≤ c → suc run < 128 → verdict threshold run c ≡ aside
unfolding verdict
verdict_aside threshold run c h less = rw (le-ltb c threshold, lt-ltb (suc run) 128)

-- the 128th is the last
pub verdict_last : (threshold run c : ℕ) → threshold ≤ c → 128 ≤ suc run → verdict threshold run c ≡ last
unfolding verdict
verdict_last threshold run c h more = rw (le-ltb c threshold, le-ltb (suc run) 128)

-- a candidate that is set aside and is not the last is not the 128th
aside_run : (threshold run c : ℕ) → verdict threshold run c ≡ aside → suc run < 128
unfolding verdict
aside_run threshold run c e = go (ltb c threshold) (ltb (suc run) 128) refl e
  where
    go : (t s : Bool) → ltb (suc run) 128 ≡ s → cond t within (cond s aside last) ≡ aside → suc run < 128
    go true s l e = let z : ◌≡◌ {A = ℕ} 0 1 = cc in absurd (omega arith)
    go false true l e = ltb-true _ _ l
    go false false l e = let z : ◌≡◌ {A = ℕ} 0 1 = cc in absurd (omega arith)

-- a proof by the three verdicts
pub by_verdict : {P : Type 0} (v : Verdict) → (v ≡ within → P) → (v ≡ aside → P) → (v ≡ last → P) → P
by_verdict within f g h = f refl
by_verdict aside f g h = g refl
by_verdict last f g h = h refl

-- what is found where the first candidate is taken, set aside, or the last that may be
module _ (threshold run c : ℕ) (cs : List ℕ) where
  pub find_within : verdict threshold run c ≡ within → find threshold run (c ∷ cs) ≡ found c 1 cs
  unfolding find
  find_within e = rw (e, find)

  pub find_aside : verdict threshold run c ≡ aside → find threshold run (c ∷ cs) ≡ later (find threshold (suc run) cs)
  unfolding find
  find_aside e = rw (e, find)

  pub find_last : verdict threshold run c ≡ last → find threshold run (c ∷ cs) ≡ spent
  unfolding find
  find_last e = rw (e, find)

-- how many candidates were looked at does not matter to what is drawn
continued_later : (q : ℕ) (rest : List ℕ → Drawn) (f : Found) → continued q rest (later f) ≡ continued q rest f
unfolding continued later
continued_later q rest (found c looked cs) = refl
continued_later q rest (short run) = refl
continued_later q rest spent = refl

-- a draw that ended before it had the results wanted: each finished result took 128 candidates at most
pub record Short (wanted used : ℕ) (xs : List ℕ) (run : ℕ) : Type 0 where
  pub finished : length xs < wanted
  pub most : used ≤ 128 * length xs + run
  pub less : run < 128

-- the results of a draw by its case; used counts its candidates with those set aside in a row before it
abbrev pub Within : ℕ → ℕ → Drawn → Type 0
Within wanted used (taken xs) = length xs ≡ wanted
Within wanted used (ended xs run) = Short wanted used xs run
Within wanted used (exhausted i) = i < wanted

-- one finished result more
put_within : (wanted used more x : ℕ) (d : Drawn) → more ≤ used + 128 → Within wanted used d → Within (suc wanted) more (put x d)
unfolding put
put_within wanted used more x (taken xs) h w = omega arith
put_within wanted used more x (ended xs run) h w = omega arith
put_within wanted used more x (exhausted i) h w = omega arith

-- one residue more is a residue
put_below : {q : ℕ} (x : ℕ) (d : Drawn) (i : ℕ) → x < q → ((j : ℕ) → get_or (numbers d) j 0 < q) → get_or (numbers (put x d)) i 0 < q
unfolding put numbers
put_below x (taken xs) zero h rest = h
put_below x (taken xs) (suc i) h rest = rest i
put_below x (ended xs run) zero h rest = h
put_below x (ended xs run) (suc i) h rest = rest i
put_below x (exhausted k) i h rest = rest i

module _ (q threshold : ℕ) where
  -- no results wanted: no candidate is taken
  pub accept_none : (run : ℕ) (cs : List ℕ) → accept q threshold 0 run cs ≡ taken []
  unfolding accept
  accept_none run cs = refl

  -- results wanted and no candidate
  pub accept_end : (wanted run : ℕ) → accept q threshold (suc wanted) run [] ≡ ended [] run
  unfolding find continued accept
  accept_end wanted run = refl

  module _ (wanted run c : ℕ) (cs : List ℕ) where
    -- the first candidate is taken
    pub accept_take : verdict threshold run c ≡ within → accept q threshold (suc wanted) run (c ∷ cs) ≡ put (c % q) (accept q threshold wanted 0 cs)
    unfolding continued accept
    accept_take e = ap (continued q (accept q threshold wanted 0)) (find_within threshold run c cs e)

    -- the first candidate is set aside
    pub accept_aside : verdict threshold run c ≡ aside → accept q threshold (suc wanted) run (c ∷ cs) ≡ accept q threshold (suc wanted) (suc run) cs
    unfolding accept
    accept_aside e =
        ap (continued q (accept q threshold wanted 0)) (find_aside threshold run c cs e)
        ∙ continued_later q (accept q threshold wanted 0) (find threshold (suc run) cs)

    -- the first candidate is the last that may be set aside
    pub accept_last : verdict threshold run c ≡ last → accept q threshold (suc wanted) run (c ∷ cs) ≡ exhausted 0
    unfolding continued accept
    accept_last e = ap (continued q (accept q threshold wanted 0)) (find_last threshold run c cs e)

  -- one finished result more, before or after a draw goes on
  resume_put : (wanted x : ℕ) (d : Drawn) (cs : List ℕ) → resume q threshold (suc wanted) (put x d) cs ≡ put x (resume q threshold wanted d cs)
  unfolding put resume after
  resume_put wanted x (taken xs) cs = refl
  resume_put wanted x (ended xs run) cs =
      let e : suc wanted - suc (length xs) ≡ wanted - length xs = omega arith in
      rw e
  resume_put wanted x (exhausted i) cs = refl

  -- candidates in two parts: the draw from the first part goes on with the second
  pub accept_append : (wanted run : ℕ) (cs ds : List ℕ) → accept q threshold wanted run (cs ++ ds) ≡ resume q threshold wanted
      (accept q threshold wanted run cs) ds
  unfolding resume after
  accept_append zero run cs ds = rw (accept_none run cs, accept_none run (cs ++ ds))
  accept_append (suc wanted) run [] ds = rw (accept_end wanted run, sub-zero)
  accept_append (suc wanted) run (c ∷ cs) ds =
      by_verdict (verdict threshold run c)
      (λ e. rw (accept_take wanted run c cs e, accept_take wanted run c (cs ++ ds) e, resume_put) (ap (put (c % q)) (accept_append wanted 0 cs ds)))
      (λ e. rw (accept_aside wanted run c cs e, accept_aside wanted run c (cs ++ ds) e) (accept_append (suc wanted) (suc run) cs ds))
      (λ e. rw (accept_last wanted run c cs e, accept_last wanted run c (cs ++ ds) e))

  -- the draw of some results from some candidates keeps within bounds
  pub accept_within : (wanted run : ℕ) (cs : List ℕ) → run < 128 → Within wanted (length cs + run) (accept q threshold wanted run cs)
  accept_within zero run cs h = rw (accept_none run cs)
  accept_within (suc wanted) run [] h = rw (accept_end wanted run) (record { finished = omega arith; most = omega arith; less = h })
  accept_within (suc wanted) run (c ∷ cs) h =
      by_verdict (verdict threshold run c)
      (λ v. rw (accept_take wanted run c cs v) (put_within wanted (length cs + 0) (suc (length cs) + run) (c % q) (accept q threshold wanted 0 cs) (omega arith)
      (accept_within wanted 0 cs (omega arith))))
      (λ v. let e : suc (length cs) + run ≡ length cs + suc run = omega arith in rw (accept_aside wanted run c cs v, e)
      (accept_within (suc wanted) (suc run) cs (aside_run threshold run c v)))
      (λ v. rw (accept_last wanted run c cs v) (omega arith))

  -- each number taken is a residue
  pub accept_below : (wanted run : ℕ) (cs : List ℕ) (i : ℕ) → 0 < q → get_or (numbers (accept q threshold wanted run cs)) i 0 < q
  unfolding numbers
  accept_below zero run cs i h = rw (accept_none run cs) h
  accept_below (suc wanted) run [] i h = rw (accept_end wanted run) h
  accept_below (suc wanted) run (c ∷ cs) i h =
      by_verdict (verdict threshold run c)
      (λ v. rw (accept_take wanted run c cs v) (put_below (c % q) (accept q threshold wanted 0 cs) i (mod-lt c h) (λ j. accept_below wanted 0 cs j h)))
      (λ v. rw (accept_aside wanted run c cs v) (accept_below (suc wanted) (suc run) cs i h))
      (λ v. rw (accept_last wanted run c cs v) h)
