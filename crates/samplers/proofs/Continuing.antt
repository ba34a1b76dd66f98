-- One block of a uniform draw: the numbers taken so far, and the invariant of the loop over the results.
-- Assumes nothing.
use mathlib.Core.Path.{◌≡◌, refl, sym, ap, ◌∙◌}
use mathlib.Core.List.{List, [], ◌∷◌, ◌++◌, append-nil, append_assoc}
use mathlib.Core.Bool.{cond}
use mathlib.Core.Logic.{inl, inr}
use Prim.Native.Nat.{ℕ, suc, ◌+◌, ◌-◌, ◌/◌, ◌≤◌, ◌<◌}
use native.Mathlib.Nat.{add-zero}
use native.Mathlib.Numerals.{add-one}
use native.Mathlib.Omega.{arith}
use lib.Dec.{eqb}
use lib.ListN.{length, drop, set, length-append, length-set, take-append-drop}
use lib.Seq.{set_split}
use Rattle.calls.specs.Region.{over}
use Rattle.calls.proofs.Region.{over_append}
use Rattle.draws.specs.Uniform.{candidates, Drawn, taken, ended, exhausted, put, accept, after, number, refusal, sample_at}
use Rattle.draws.proofs.Accept.{accept_none, accept_within}
use Rattle.draws.proofs.Results.{next_number_lem, next_within, next_refused}
use Rattle.samplers.specs.Blocks.{reached, stopped, standing_after, Written}

-- finished results before a draw that has all its numbers
pub after_taken : (xs ys : List ℕ) → after xs (taken ys) ≡ taken (xs ++ ys)
unfolding after put
after_taken [] ys = refl
after_taken (x ∷ xs) ys = ap (put x) (after_taken xs ys)

-- before a draw that ended
pub after_ended : (xs ys : List ℕ) (run : ℕ) → after xs (ended ys run) ≡ ended (xs ++ ys) run
unfolding after put
after_ended [] ys run = refl
after_ended (x ∷ xs) ys run = ap (put x) (after_ended xs ys run)

-- before a draw that was refused
pub after_exhausted : (xs : List ℕ) (i : ℕ) → after xs (exhausted i) ≡ exhausted (length xs + i)
unfolding after put
after_exhausted [] i = ap exhausted (omega arith)
after_exhausted (x ∷ xs) i = ap (put x) (after_exhausted xs i) ∙ ap exhausted (omega arith)

-- one result more
after_put : (xs : List ℕ) (x : ℕ) (drawn : Drawn) → after xs (put x drawn) ≡ after (xs ++ (x ∷ [])) drawn
unfolding after
after_put [] x drawn = refl
after_put (y ∷ xs) x drawn = ap (put y) (after_put xs x drawn)

-- nothing written
pub over_none : (xs : List ℕ) (at : ℕ) → over xs at [] ≡ xs
unfolding over
over_none xs at = rw (append-nil, add-zero) (take-append-drop at xs)

-- one entry written
over_one : (xs : List ℕ) (at x : ℕ) → at < length xs → set xs at x ≡ over xs at (x ∷ [])
unfolding over
over_one xs at x h = set_split xs at x h ∙ rw (append_assoc, add-one)

-- after some results from a block: they stand in the output, and the draw goes on from a position
pub record Continuing (bytes : List ℕ) (q threshold from before : ℕ) (old : List ℕ) (position done run : ℕ) (new : List ℕ) : Type 0 where
  pub numbers : List ℕ
  pub same :
      accept q threshold (length old - from) before (candidates bytes)
      ≡ after numbers (accept q threshold (length old - done) run (candidates (drop position bytes)))
  pub count : done ≡ from + length numbers
  pub within : done ≤ length old
  pub inside : position ≤ length bytes
  pub less : run < 128
  pub kept : length new ≡ length old
  pub written : new ≡ over old from numbers

-- before the first result
pub continuing_none : (bytes : List ℕ) (q threshold from before : ℕ) (old : List ℕ) → from ≤ length old → before < 128 →
    Continuing bytes q threshold from before old 0 from before old
unfolding after
continuing_none bytes q threshold from before old h less =
    record {
      numbers = [];
      same = refl;
      count = omega arith;
      within = h;
      inside = omega arith;
      less = less;
      kept = refl;
      written = sym (over_none old from);
    }

module _ {bytes : List ℕ} {q threshold from before : ℕ} {old : List ℕ} {position done run : ℕ} {new : List ℕ}
    (s : Continuing bytes q threshold from before old position done run new)
  where
    -- the whole draw
    abbrev whole : Drawn
    whole = accept q threshold (length old - from) before (candidates bytes)

    -- all results are drawn
    pub continuing_all : length old ≤ done → (reached done 0 ≡ standing_after from whole) × Written from whole old new
    continuing_all h =
        let none : length old - done ≡ 0 = omega arith in
        let e : whole ≡ taken s.numbers = s.same ∙ rw (none, accept_none) (after_taken s.numbers [] ∙ ap taken (append-nil s.numbers)) in
        rw e (ap (λ (k : ℕ). reached k 0) s.count, s.written)

    module _ (unfinished : done < length old) where
      -- the draw of the results that are left
      abbrev rest : Drawn
      rest = accept q threshold (suc (length old - (done + 1))) run (candidates (drop position bytes))

      -- it is what the whole draw goes on with
      onwards : whole ≡ after s.numbers rest
      onwards = let left : length old - done ≡ suc (length old - (done + 1)) = omega arith in s.same ∙ rw left

      -- a result is drawn and written
      pub continuing_more : (x next : ℕ) → sample_at q threshold run bytes position ≡ number x next →
          Continuing bytes q threshold from before old next (done + 1) 0 (set new done x)
      continuing_more x next e =
          record {
            numbers = s.numbers ++ (x ∷ []);
            same = onwards ∙ rw (next_number_lem q threshold (length old - (done + 1)) run bytes position x next e) (after_put s.numbers x _);
            count = rw length-append (omega (arith, s.count));
            within = omega arith;
            inside = next_within q threshold 0 run bytes position x next s.inside e;
            less = omega arith;
            kept = length-set new done x ∙ s.kept;
            written =
                over_one new done x (omega (arith, s.kept))
                ∙ rw (s.written, s.count) (over_append old from s.numbers (omega (arith, s.count)) (x ∷ []));
          }

      -- a result is refused: where the draw stands, and how many candidates were set aside in a row when the bytes ended
      pub continuing_stop : (n : ℕ) → sample_at q threshold run bytes position ≡ refusal n →
          (cond (eqb n 4) (reached done (run + (length bytes - position) / 3)) (stopped n) ≡ standing_after from whole) × Written from whole old new
      continuing_stop n e =
          elim (next_refused q threshold (length old - (done + 1)) run bytes position n e) [
            | inl end ↦
                let whole_is : whole ≡ ended s.numbers (run + (length bytes - position) / 3) =
                onwards
                ∙ rw end.1
                (after_ended s.numbers [] _ ∙ ap (λ (xs : List ℕ). ended xs (run + (length bytes - position) / 3)) (append-nil s.numbers)) in
                rw (whole_is, end.0) (ap (λ (k : ℕ). reached k (run + (length bytes - position) / 3)) s.count, s.written)
            | inr last ↦
                let whole_is : whole ≡ exhausted (length s.numbers + 0) = onwards ∙ rw last.1 (after_exhausted s.numbers 0) in
                rw (whole_is, last.0) (refl, s.kept)
          ]

      -- a run of candidates at the end of a block is below 128
      pub continuing_run : (n : ℕ) → sample_at q threshold run bytes position ≡ refusal n → n ≡ 4 → run + (length bytes - position) / 3 < 128
      continuing_run n e four =
          elim (next_refused q threshold (length old - (done + 1)) run bytes position n e) [
            | inl end ↦ (rw end.1 at (accept_within q threshold (suc (length old - (done + 1))) run (candidates (drop position bytes)) s.less)).less
            | inr last ↦ absurd (omega (arith, last.0))
          ]
