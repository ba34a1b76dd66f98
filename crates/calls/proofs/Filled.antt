-- The invariant of a loop that writes a region from the front, one entry a turn, and what each turn does to it.
-- Assumes nothing.
use mathlib.Core.Path.{◌≡◌, refl, sym, ap, ◌∙◌}
use mathlib.Core.List.{List}
use Prim.Native.Nat.{ℕ, suc, ◌+◌, ◌≤◌, ◌<◌}
use native.Mathlib.Nat.{zero-add}
use native.Mathlib.Numerals.{add-one}
use native.Mathlib.Omega.{arith}
use lib.ListN.{length, get_or, set, take, length-set}
use lib.Seq.{paste, paste-zero, paste-suc, length-take-le, take_all}
use Rattle.maths.specs.Vector.{at}
use Rattle.calls.specs.Region.{over}
use Rattle.calls.proofs.Region.{over_parts, over_outside, over_whole}

-- new is old with the first i of the n entries of ys in place from at on
pub record Filled {A : Type 0} (old : List A) (at n : ℕ) (ys : List A) (i : ℕ) (new : List A) : Type 0 where
  pub entries : length ys ≡ n
  pub room : at + n ≤ length old
  pub within : i ≤ n
  pub kept_length : length new ≡ length old
  pub written : new ≡ over old at (take i ys)

-- what is written so far is a copy of the first i entries, as the library has it
paste_over : {A : Type 0} (old : List A) (at : ℕ) (ys : List A) (i : ℕ) → i ≤ length ys → paste old at ys i ≡ over old at (take i ys)
paste_over old at ys i h = over_parts old at (take i ys) (at + i) (omega (arith, length-take-le i ys h))

module _ {A : Type 0} {old : List A} {at n : ℕ} {ys : List A} where
  -- before the first turn
  pub filled_none : length ys ≡ n → at + n ≤ length old → Filled old at n ys 0 old
  filled_none e h =
      record { entries = e; room = h; within = omega arith; kept_length = refl; written = paste-zero old at ys ∙ paste_over old at ys 0 (omega arith) }

  -- a turn writes the next entry at its place
  pub filled_more : {i k : ℕ} {new : List A} {x : A} (d : A) → Filled old at n ys i new → i < n → k ≡ at + i → x ≡ get_or ys i d
      → Filled old at n ys (i + 1) (set new k x)
  filled_more {i} {k} {new} {x} d f h p e =
      let was : new ≡ paste old at ys i = f.written ∙ sym (paste_over old at ys i (omega arith)) in
      record {
        entries = f.entries;
        room = f.room;
        within = omega arith;
        kept_length = length-set new k x ∙ f.kept_length;
        written = rw (add-one, p, was, e) (paste-suc old at ys i d (omega arith) (omega arith) ∙ paste_over old at ys (suc i) (omega arith));
      }

  -- after the last turn the whole of ys stands in place
  pub filled_all : {i : ℕ} {new : List A} → Filled old at n ys i new → n ≤ i → new ≡ over old at ys
  filled_all {i} f h = f.written ∙ ap (over old at) (take_all i ys (omega arith))

-- a number that a loop over a region has not reached yet is as it was
pub ahead_at : {old ys new : List ℕ} {start n i : ℕ} (k : ℕ) → Filled old start n ys i new → i ≤ k → at new (start + k) ≡ at old (start + k)
ahead_at {old} {ys} {start = start} {i = i} k f h =
    let size : length (take i ys) ≡ i = length-take-le i ys (omega (arith, f.entries, f.within)) in
    rw f.written (over_outside old start (take i ys) (omega (arith, f.room, f.within)) (start + k) 0 (λ j l e. omega arith))

-- the number that a loop over all places reaches next is as it was
pub ahead : {old ys new : List ℕ} {n k : ℕ} → Filled old 0 n ys k new → at new k ≡ at old k
ahead {k = k} f = rw zero-add at (ahead_at k f (omega arith))

-- after the last turn of a loop that writes all places
pub filled_whole : {A : Type 0} {old : List A} {n : ℕ} {ys : List A} {i : ℕ} {new : List A} → Filled old 0 n ys i new → length old ≡ n → n ≤ i → new ≡ ys
filled_whole {old = old} {ys = ys} f e h = filled_all f h ∙ over_whole old ys (omega arith)
