-- Laws of regions, for any entries and any places: the length, the entry at a place, a region of a list that was written over, one write over another, vectors
-- one after the other.
-- Assumes nothing.
use mathlib.Core.Path.{◌≡◌, refl, sym, ap, ◌∙◌}
use mathlib.Core.List.{List, [], ◌∷◌, ◌++◌, append_assoc, append-nil}
use mathlib.Core.Logic.{inl, inr}
use Prim.Native.Nat.{ℕ, zero, suc, ◌+◌, ◌-◌, ◌*◌, ◌≤◌, ◌<◌}
use native.Mathlib.Nat.{zero-add, add-zero, mul-zero, mul-suc, mul_comm, mul-le-mul_left, eq-or-lt_of_le, le_of_suc-le-suc}
use native.Mathlib.Decide.{dec_lt}
use native.Mathlib.Omega.{arith}
use lib.ListN.{length, get_or, take, drop, length-append, length-take, length-drop, take-append-drop, get_or-append}
use lib.Seq.{length-take-le, take_at, drop_at, drop-drop, take-add, take-append-le, drop-append-le, get_or-take, get_or-drop, get_or-append-add, ext_get_or}
use lib.Seq.{take_all}
use lib.Seq.{drop-length}
use Rattle.calls.specs.Region.{region, over, vector, joined}

-- vector i of t vectors of n entries ends with them or before
pub vector_fits : (n t i : ℕ) → i < t → n * i + n ≤ t * n
vector_fits n t i h = rw (← mul-suc n i, mul_comm t n) (mul-le-mul_left {m = suc i} {n = t} n h)

module _ {A : Type 0} where
  -- two lists of one length that agree at each place are equal, whatever entry is read past the end
  pub same_entries : (xs ys : List A) → length xs ≡ length ys → ((d : A) (i : ℕ) → i < length xs → get_or xs i d ≡ get_or ys i d) → xs ≡ ys
  same_entries [] [] e h = refl
  same_entries [] (y ∷ ys) e h = absurd (omega arith)
  same_entries (x ∷ xs) ys e h = ext_get_or x (x ∷ xs) ys e (h x)

  -- the entry of a region
  pub region_entry : (xs : List A) (start n i : ℕ) (d : A) → i < n → get_or (region xs start n) i d ≡ get_or xs (start + i) d
  unfolding region
  region_entry xs start n i d h = rw (get_or-take, get_or-drop)

  -- a region that fits has its length
  pub region_length : (xs : List A) (start n : ℕ) → start + n ≤ length xs → length (region xs start n) ≡ n
  unfolding region
  region_length xs start n fits = simp (length-take, length-drop) (omega arith)

  -- the part of a slice from a place to an end is a region
  pub region_part : (xs : List A) (start n end : ℕ) → end ≡ start + n → take (end - start) (drop start xs) ≡ region xs start n
  unfolding region
  region_part xs start n end e = let m : end - start ≡ n = omega arith in rw m

  -- the region of all places is the list
  pub region_whole : (xs : List A) (n : ℕ) → length xs ≡ n → region xs 0 n ≡ xs
  unfolding region
  region_whole xs n e = take_all n xs (omega arith)

  -- a region of a region
  pub region_region : (xs : List A) (start n from m : ℕ) → start + n ≤ length xs → from + m ≤ n → region (region xs start n) from m ≡ region xs (start + from) m
  region_region xs start n from m fits inside =
      let l = region_length xs start n fits in
      let lm : length (region (region xs start n) from m) ≡ m = region_length (region xs start n) from m (omega arith) in
      same_entries _ _ (lm ∙ sym (region_length xs (start + from) m (omega arith)))
      (λ d i h. let k : i < m = omega arith in
      region_entry (region xs start n) from m i d k ∙ region_entry xs start n (from + i) d (omega arith)
      ∙ ap (λ (j : ℕ). get_or xs j d) (omega arith) ∙ sym (region_entry xs (start + from) m i d k))

  -- a region written with its own entries changes nothing
  pub over_region : (xs : List A) (start n : ℕ) → start + n ≤ length xs → over xs start (region xs start n) ≡ xs
  unfolding over region
  over_region xs start n fits = rw (region_length xs start n fits, ← take-add start n xs, take-append-drop)

  -- the entries before a place, ys, and the entries from the end of ys on
  pub over_parts : (xs : List A) (start : ℕ) (ys : List A) (end : ℕ) → end ≡ start + length ys → take start xs ++ ys ++ drop end xs ≡ over xs start ys
  unfolding over
  over_parts xs start ys end e = rw e

  -- a part of a slice that was lent for writing and came back as ys is a write
  pub over_lent : (xs : List A) (start : ℕ) (ys : List A) (end : ℕ) → end ≡ start + length ys
      → take start xs ++ (ys ++ drop (end - start) (drop start xs)) ≡ over xs start ys
  over_lent xs start ys end e = rw (drop-drop, ← append_assoc) (over_parts xs start ys (start + (end - start)) (omega arith))

  -- all places written over
  pub over_whole : (xs ys : List A) → length ys ≡ length xs → over xs 0 ys ≡ ys
  unfolding over
  over_whole xs ys e = rw (zero-add, e, drop-length) (append-nil ys)

  module _ (xs : List A) (start : ℕ) (ys : List A) (fits : start + length ys ≤ length xs) where
    -- where the entries written end
    head_length : length (take start xs ++ ys) ≡ start + length ys
    head_length = simp (length-append, length-take) (omega arith)

    -- a write keeps the length
    pub over_length : length (over xs start ys) ≡ length xs
    unfolding over
    over_length = simp (length-append, length-take, length-drop) (omega arith)

    -- the entries before the place stay
    pub over_take : take start (over xs start ys) ≡ take start xs
    unfolding over
    over_take = rw append_assoc (take_at (take start xs) (ys ++ drop (start + length ys) xs) start (length-take-le start xs (omega arith)))

    -- the entries after those written stay
    pub over_drop : drop (start + length ys) (over xs start ys) ≡ drop (start + length ys) xs
    unfolding over
    over_drop = drop_at (take start xs ++ ys) (drop (start + length ys) xs) (start + length ys) head_length

    -- the entries up to the last one written
    pub over_front : take (start + length ys) (over xs start ys) ≡ take start xs ++ ys
    unfolding over
    over_front = take_at (take start xs ++ ys) (drop (start + length ys) xs) (start + length ys) head_length

    -- an entry that was written
    pub over_inside : (i : ℕ) (d : A) → i < length ys → get_or (over xs start ys) (start + i) d ≡ get_or ys i d
    unfolding over
    over_inside i d h =
        get_or-append (take start xs ++ ys) (drop (start + length ys) xs) d (start + i) (omega (arith, head_length))
        ∙ (rw (length-take-le start xs (omega arith)) at (get_or-append-add (take start xs) ys i d))

    -- an entry at a place that was not written
    pub over_outside : (k : ℕ) (d : A) → ((j : ℕ) → j < length ys → k ≡ start + j → ⊥) → get_or (over xs start ys) k d ≡ get_or xs k d
    unfolding over
    over_outside k d h = go (dec_lt k start) (dec_lt k (start + length ys))
      where
        rest : List A
        rest = drop (start + length ys) xs

        after : (m : ℕ) → k ≡ start + length ys + m → get_or (take start xs ++ ys ++ rest) k d ≡ get_or xs k d
        after m e = rw (e, ← head_length) (get_or-append-add (take start xs ++ ys) (drop (length (take start xs ++ ys)) xs) m d ∙ get_or-drop _ xs m d)

        go : Dec (k < start) → Dec (k < start + length ys) → get_or (take start xs ++ ys ++ rest) k d ≡ get_or xs k d
        go (yes l) r =
            get_or-append (take start xs ++ ys) rest d k (omega (arith, head_length))
            ∙ get_or-append (take start xs) ys d k (simp length-take (omega arith)) ∙ get_or-take start xs k d l
        go (no l) (yes r) = absurd (h (k - start) (omega arith) (omega arith))
        go (no l) (no r) = after (k - (start + length ys)) (omega arith)

    -- a region of the entries written
    pub region_over_inside : (from n : ℕ) → from + n ≤ length ys → region (over xs start ys) (start + from) n ≡ region ys from n
    region_over_inside from n inside =
        let l : length (region (over xs start ys) (start + from) n) ≡ n = region_length (over xs start ys) (start + from) n (omega (arith, over_length)) in
        same_entries _ _ (l ∙ sym (region_length ys from n inside))
        (λ e i h. let k : i < n = omega arith in
        region_entry (over xs start ys) (start + from) n i e k ∙ ap (λ (j : ℕ). get_or (over xs start ys) j e) (omega arith)
        ∙ over_inside (from + i) e (omega arith) ∙ sym (region_entry ys from n i e k))

    -- the region of all entries written
    pub region_over_same : (n : ℕ) → length ys ≡ n → region (over xs start ys) start n ≡ ys
    region_over_same n e =
        ap (λ (k : ℕ). region (over xs start ys) k n) (sym (add-zero start)) ∙ region_over_inside 0 n (omega arith) ∙ region_whole ys n e

    -- of two writes at the same place the later one stays
    pub over_over : (zs : List A) → length ys ≡ length zs → over (over xs start ys) start zs ≡ over xs start zs
    over_over zs e =
        sym (over_parts (over xs start ys) start zs (start + length ys) (omega arith))
        ∙ rw (over_take, over_drop) (over_parts xs start zs (start + length ys) (omega arith))

    -- two writes side by side are one
    pub over_append : (zs : List A) → over (over xs start ys) (start + length ys) zs ≡ over xs start (ys ++ zs)
    over_append zs =
        let end = start + length ys + length zs in
        sym (over_parts (over xs start ys) (start + length ys) zs end refl)
        ∙ rw (over_front, ← drop-drop (length zs) (start + length ys) (over xs start ys), over_drop, drop-drop, append_assoc (take start xs) ys zs)
        (over_parts xs start (ys ++ zs) end (simp length-append (omega arith)))

  -- vector i of t vectors has its length
  pub vector_length_lem : (n t i : ℕ) (xs : List A) → length xs ≡ t * n → i < t → length (vector n xs i) ≡ n
  vector_length_lem n t i xs size h = region_length xs (n * i) n (rw size (vector_fits n t i h))

  -- what holds of each entry by its place holds of each entry of vector i
  pub vector_each : (P : ℕ → A → Type 0) (n t : ℕ) (xs : List A) (d : A) → ((m : ℕ) → m < t * n → P m (get_or xs m d)) → (i l : ℕ) → i < t → l < n
      → P (n * i + l) (get_or (vector n xs i) l d)
  vector_each P n t xs d each i l h k = rw (region_entry xs (n * i) n l d k) (each (n * i + l) (omega (arith, vector_fits n t i h)))

  -- the length of vectors of n entries each, one after the other
  pub joined_length : (n t : ℕ) (f : ℕ → List A) → ((i : ℕ) → i < t → length (f i) ≡ n) → length (joined t f) ≡ n * t
  unfolding joined
  joined_length n zero f size = sym (mul-zero n)
  joined_length n (suc t) f size = rw (length-append, joined_length n t f (λ i h. size i (omega arith)), size t (omega arith), mul-suc)

  -- vector i of them
  pub vector_joined : (n t : ℕ) (f : ℕ → List A) → ((i : ℕ) → i < t → length (f i) ≡ n) → (i : ℕ) → i < t → vector n (joined t f) i ≡ f i
  unfolding joined region
  vector_joined n zero f size i h = absurd (omega arith)
  vector_joined n (suc t) f size i h =
      let front : length (joined t f) ≡ n * t = joined_length n t f (λ j l. size j (omega arith)) in
      elim (eq-or-lt_of_le (le_of_suc-le-suc h)) [
        | inl last ↦ rw (last, drop_at (joined t f) (f t) (n * t) front) (take_all n (f t) (omega (arith, size t (omega arith))))
        | inr before ↦
            let room : n * suc i ≤ n * t = mul-le-mul_left n before in
            rw (drop-append-le (n * i) (joined t f) (f t) (omega arith), take-append-le n (drop (n * i) (joined t f)) (f t) (rw length-drop (omega arith)))
            (vector_joined n t f (λ j l. size j (omega arith)) i before)
      ]

  -- what holds of each entry of each vector, and of the entry read past the end, holds of each entry of all
  pub joined_each : (P : A → Type 0) (d : A) → P d → (t : ℕ) (f : ℕ → List A) → ((i j : ℕ) → i < t → P (get_or (f i) j d)) → (j : ℕ)
      → P (get_or (joined t f) j d)
  unfolding joined
  joined_each P d past zero f each j = past
  joined_each P d past (suc t) f each j =
      elim (dec_lt j (length (joined t f))) [
        | yes before ↦ rw (get_or-append (joined t f) (f t) d j before) (joined_each P d past t f (λ i k h. each i k (omega arith)) j)
        | no after ↦
            let place : j ≡ length (joined t f) + (j - length (joined t f)) = omega arith in
            rw (place, get_or-append-add (joined t f) (f t) (j - length (joined t f)) d) (each t (j - length (joined t f)) (omega arith))
      ]
