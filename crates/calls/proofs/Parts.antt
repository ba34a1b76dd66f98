-- Parts of lists as the code lends them.
-- Assumes nothing.
use mathlib.Core.Path.{◌≡◌, refl, sym, ap, ◌∙◌}
use mathlib.Core.List.{List, ◌++◌}
use Prim.Native.Nat.{ℕ, zero, suc, ◌+◌, ◌-◌, ◌≤◌, ◌<◌}
use native.Mathlib.Nat.{zero-add, sub-zero}
use native.Mathlib.Omega.{arith}
use lib.ListN.{length, take, drop, replicate, length-append, length-replicate, length-take, length-drop, take-append-drop}
use lib.Seq.{take_at, take_all, take-append-le}
use Rattle.calls.specs.Outcome.{Outcome, refused, leaves}
use Rattle.calls.specs.Region.{region, over, joined}
use Rattle.calls.proofs.Outcome.{leaves_refused}
use Rattle.calls.proofs.Region.{over_front, over_length, over_lent, over_append, over_whole, over_outside}
use Rattle.calls.proofs.Region.{same_entries, region_part, region_length, region_entry}

module _ {A : Type 0} (xs : List A) where
  -- the front of a list that was written over
  pub front : (ys : List A) → length ys ≤ length xs → take (length ys) (over xs 0 ys) ≡ ys
  front ys fits = rw zero-add at (over_front xs 0 ys (rw zero-add fits))

  -- the length of a part
  pub part_length : (start end n : ℕ) → end ≡ start + n → start + n ≤ length xs → length (take (end - start) (drop start xs)) ≡ n
  part_length start end n e fits = rw (region_part xs start n end e) (region_length xs start n fits)

  -- the same where the part ends inside the list
  pub part_long : (start end : ℕ) → end ≤ length xs → length (take (end - start) (drop start xs)) ≡ end - start
  part_long start end fits = simp (length-take, length-drop) (omega arith)

  -- the length of the part from n on
  pub rest_length : (n m : ℕ) → length xs ≡ n + m → length (take (length xs - n) (drop n xs)) ≡ m
  rest_length n m e = simp (length-take, length-drop) (omega arith)

  -- that part is all that follows
  pub rest_whole : (n : ℕ) → take (length xs - n) (drop n xs) ≡ drop n xs
  rest_whole n = take_all (length xs - n) (drop n xs) (rw length-drop (omega arith))

  -- a slice whose first n entries came back as ys keeps its length
  pub back_length : (ys : List A) (n : ℕ) → length ys ≡ n → n ≤ length xs → length (take 0 xs ++ (ys ++ drop (n - 0) (drop 0 xs))) ≡ length xs
  back_length ys n l h = ap length (over_lent xs 0 ys n (omega arith)) ∙ over_length xs 0 ys (omega arith)

  -- a region before a write
  pub region_before : (at : ℕ) (ys : List A) (from n : ℕ) → at + length ys ≤ length xs → from + n ≤ at → region (over xs at ys) from n ≡ region xs from n
  region_before at ys from n fits before =
      let size : length (region (over xs at ys) from n) ≡ n = region_length (over xs at ys) from n (omega (arith, over_length xs at ys fits)) in
      same_entries _ _ (size ∙ sym (region_length xs from n (omega arith)))
      (λ d i h. let k : i < n = omega arith in
      region_entry (over xs at ys) from n i d k ∙ over_outside xs at ys fits (from + i) d (λ j m same. omega arith) ∙ sym (region_entry xs from n i d k))

  -- the first entries as the code lends them
  pub front_part : (n end : ℕ) → end ≡ n → take (end - 0) xs ≡ region xs 0 n
  front_part n end e = region_part xs 0 n end (e ∙ sym (zero-add n))

  -- how many they are
  pub front_length : (n : ℕ) → n ≤ length xs → length (take (n - 0) xs) ≡ n
  front_length n h = rw (front_part n n refl) (region_length xs 0 n (rw zero-add h))

  -- a slice whose first n entries came back as ys
  pub part_front : (rest : List A) (n : ℕ) → length xs ≡ n → take (n - 0) (xs ++ rest) ≡ xs
  part_front rest n e = rw sub-zero (take_at xs rest n e)

  -- there is room for them
  pub front_room : (rest : List A) (n : ℕ) → length xs ≡ n → n ≤ length (xs ++ rest)
  front_room rest n e = simp length-append (omega arith)

  -- the first entries of a list that was written over
  pub front_first : (ys : List A) (n : ℕ) → n ≤ length ys → take n (over xs 0 ys) ≡ take n ys
  unfolding over
  front_first ys n h = take-append-le n ys _ h

-- a refused call leaves the slice whose first n entries were lent as it was
pub front_refused : {o : Outcome} {number place : ℕ} (xs ys new front : List ℕ) (n : ℕ) → o ≡ refused number place
    → ys ≡ leaves o front (take (n - 0) (drop 0 xs))
    → (refused number place ≡ o) × (take 0 xs ++ (ys ++ drop (n - 0) (drop 0 xs)) ≡ leaves o new xs)
front_refused xs ys new front n e l =
    let same : ys ≡ take (n - 0) (drop 0 xs) = l ∙ leaves_refused front (take (n - 0) (drop 0 xs)) e in
    (sym e, ap (λ (zs : List ℕ). take 0 xs ++ (zs ++ drop (n - 0) (drop 0 xs))) same ∙ take-append-drop (n - 0) (drop 0 xs) ∙ sym (leaves_refused new xs e))

-- how many entries the front of a local array has
pub array_front : (room n : ℕ) → n ≤ room → length (take (n - 0) (drop 0 (replicate {A = ℕ} room 0))) ≡ n
array_front room n h = front_length (replicate room 0) n (rw length-replicate h)

-- a list written in two parts, one after the other
pub two_parts : {A : Type 0} (out new xs ys : List A) (n : ℕ) → new ≡ over out 0 xs → length xs ≡ n → length out ≡ n + length ys
    → take n new ++ (ys ++ drop (length new - n) (drop n new)) ≡ xs ++ ys
two_parts {A = A} out new xs ys n written first whole =
    let room : 0 + length xs ≤ length out = omega arith in
    let kept : length new ≡ length out = ap length written ∙ over_length out 0 xs room in
    over_lent new n ys (length new) (omega arith)
    ∙ ap (λ (zs : List A). over zs n ys) written
    ∙ ap (λ (k : ℕ). over (over out 0 xs) k ys) (sym first ∙ sym (zero-add (length xs)))
    ∙ over_append out 0 xs room ys
    ∙ over_whole out (xs ++ ys) (rw length-append (omega arith))

-- vectors that are the same one by one
pub joined_cong : {A : Type 0} (t : ℕ) (f g : ℕ → List A) → ((i : ℕ) → i < t → f i ≡ g i) → joined t f ≡ joined t g
unfolding joined
joined_cong zero f g same = refl
joined_cong (suc t) f g same = rw (joined_cong t f g (λ i h. same i (omega arith)), same t (omega arith))
