-- Laws of the places of multipliers: bounds on places, and the bytes that a position needs.
-- Assumes nothing.
use mathlib.Core.Path.{◌≡◌, refl, sym, ap, ◌∙◌}
use mathlib.Core.Bool.{Bool, true, false, ◌&&◌}
use mathlib.Core.List.{List}
use Prim.Native.Nat.{ℕ, zero, suc, ◌+◌, ◌*◌, ◌/◌, ◌≤◌, ◌<◌}
use native.Mathlib.Nat.{mod-lt, le_trans, mul-le-mul_left, mul-le-mul_right, add-zero}
use native.Mathlib.Omega.{arith}
use borrow.Author.Count.{below_none, below_more}
use borrow.Author.Tests.{ltb-true, leb-true, lt-ltb, le-leb}
use lib.Dec.{leb, ltb}
use lib.IntN.{ℤ, pos}
use lib.ListN.{length, get_or, set, replicate, length-replicate}
use Rattle.calls.specs.Checks.{further, passing}
use Rattle.calls.proofs.Checks.{passing_before, passing_is}
use Rattle.calls.proofs.Filled.{Filled, filled_none, filled_more}
use Rattle.sets.specs.declared.Parameters.{Parameters}
use Rattle.sets.specs.Rules.{Rules, ByteRules}
use Rattle.sets.specs.Derived.{multiplier_count_of, multiplier_bytes_of, multiplier_draw_bytes_of}
use Rattle.draws.specs.Small.{signs_at_of, sign_bit}
use Rattle.draws.specs.Calls.{in_turn, lent, lent_results_of}

-- a position, times the bytes of one size
pub place_most : (position width : ℕ) → position ≤ 8192 → width ≤ 2 → position * width ≤ 16384
place_most position width h k = le_trans (mul-le-mul_left position k) (omega arith)

-- a sign bit is 0 or 1
pub sign_bit_most : (bytes : List ℕ) (signs position : ℕ) → sign_bit bytes signs position < 2
unfolding sign_bit
sign_bit_most bytes signs position = mod-lt _ (omega arith)

module _ (p : Parameters) (rules : Rules p) where
  -- the first sign byte
  pub signs_most : ByteRules p → signs_at_of p ≤ 16384
  unfolding signs_at_of
  signs_most bytes = place_most (multiplier_count_of p) (multiplier_bytes_of p) rules.most_multipliers bytes.most_size

-- the bytes of a position are lent
pub record Lent (p : Parameters) (bytes : List ℕ) (position : ℕ) : Type 0 where
  pub sizes : position * multiplier_bytes_of p + multiplier_bytes_of p ≤ length bytes
  pub sign : signs_at_of p + position / 8 < length bytes

-- the test tells which bytes are lent
pub lent_true : (p : Parameters) (bytes : List ℕ) (position : ℕ) → lent p bytes position ≡ true → Lent p bytes position
unfolding lent
lent_true p bytes position e = go (leb (position * multiplier_bytes_of p + multiplier_bytes_of p) (length bytes)) refl e
  where
    go : (t : Bool) → leb (position * multiplier_bytes_of p + multiplier_bytes_of p) (length bytes) ≡ t
        → t && ltb (signs_at_of p + position / 8) (length bytes) ≡ true
        → Lent p bytes position
    go true sizes sign = record { sizes = leb-true _ _ sizes; sign = ltb-true _ _ sign }
    go false sizes sign = let z : ◌≡◌ {A = ℕ} 0 1 = cc in absurd (omega arith)

-- the bytes of one whole sealing hold those of each position
pub lent_whole : (p : Parameters) (bytes : List ℕ) (position : ℕ) → ByteRules p → position < multiplier_count_of p → multiplier_draw_bytes_of p ≤ length bytes
    → lent p bytes position ≡ true
unfolding lent signs_at_of multiplier_draw_bytes_of
lent_whole p bytes position rules h enough =
    let eights : multiplier_count_of p ≡ 8 * (p.t * ((p.k + 1) / 8)) = unfold multiplier_count_of in omega (arith, ap (λ (m : ℕ). p.t * m) rules.signs) in
    let sizes : position * multiplier_bytes_of p + multiplier_bytes_of p ≤ multiplier_count_of p * multiplier_bytes_of p = omega
    (arith, mul-le-mul_right (multiplier_bytes_of p) h) in
    rw (
      le-leb (position * multiplier_bytes_of p + multiplier_bytes_of p) (length bytes) (omega arith),
      lt-ltb (multiplier_count_of p * multiplier_bytes_of p + position / 8)
          (length bytes) (omega arith),
    )

-- the results whose bytes are lent, counted as entries that pass a test
lent_passing : (p : Parameters) (bytes : List ℕ) (first n : ℕ)
    → lent_results_of p bytes first n ≡ passing {A = ℕ} (λ position x. lent p bytes position) first (replicate n 0)
unfolding lent_results_of passing
lent_passing p bytes first zero = refl
lent_passing p bytes first (suc n) = ap (further (lent p bytes first)) (lent_passing p bytes (suc first) n)

-- each result before the first that fails has its bytes
pub lent_before : (p : Parameters) (bytes : List ℕ) (first n k : ℕ) → k < lent_results_of p bytes first n → lent p bytes (first + k) ≡ true
lent_before p bytes first n k h = passing_before {A = ℕ} (λ position x. lent p bytes position) first (replicate n 0) 0 k
    (rw (lent_passing p bytes first n) at h)

-- the first i results have their bytes
pub record LentUpTo (p : Parameters) (bytes : List ℕ) (first n i : ℕ) : Type 0 where
  pub within : i ≤ n
  pub each : (k : ℕ) → k < i → lent p bytes (first + k) ≡ true

-- before the first result
pub lent_none : (p : Parameters) (bytes : List ℕ) (first n : ℕ) → LentUpTo p bytes first n 0
lent_none p bytes first n = record { within = omega arith; each = below_none _ }

module _ {p : Parameters} {bytes : List ℕ} {first n i : ℕ} (l : LentUpTo p bytes first n i) where
  -- one result more
  pub lent_more : i < n → lent p bytes (first + i) ≡ true → LentUpTo p bytes first n (i + 1)
  lent_more h e = record { within = omega arith; each = below_more _ _ l.each e }

  -- i is the count where the next result has not its bytes or is not wanted
  counted : (i < n → lent p bytes (first + i) ≡ false) → i ≡ lent_results_of p bytes first n
  counted e =
      let size = length-replicate {A = ℕ} n 0 in
      passing_is {A = ℕ} (λ position x. lent p bytes position) first (replicate n 0) 0 i (omega (arith, l.within)) l.each (λ h. e (omega arith))
      ∙ sym (lent_passing p bytes first n)

  -- the next result has not its bytes
  pub lent_stop : lent p bytes (first + i) ≡ false → i ≡ lent_results_of p bytes first n
  lent_stop e = counted (λ h. e)

  -- no result is left
  pub lent_all : n ≤ i → i ≡ lent_results_of p bytes first n
  lent_all h = counted (λ k. absurd (omega arith))

-- how many numbers in turn
pub turn_length : (f : ℕ → ℤ) (first n : ℕ) → length (in_turn f first n) ≡ n
unfolding in_turn
turn_length f first zero = refl
turn_length f first (suc n) = ap suc (turn_length f (suc first) n)

-- each number in turn
pub turn_at : (f : ℕ → ℤ) (first n i : ℕ) (d : ℤ) → i < n → get_or (in_turn f first n) i d ≡ f (first + i)
unfolding in_turn
turn_at f first zero i d h = absurd (omega arith)
turn_at f first (suc n) zero d h = rw add-zero
turn_at f first (suc n) (suc i) d h = let e : first + suc i ≡ suc first + i = omega arith in rw e (turn_at f (suc first) n i d (omega arith))

-- the invariant of a loop that writes numbers in turn
abbrev pub Turned : (ℕ → ℤ) → ℕ → List ℤ → ℕ → List ℤ → Type 0
Turned f first old i new = Filled old 0 (length old) (in_turn f first (length old)) i new

-- before the first number
pub turned_none : (f : ℕ → ℤ) (first : ℕ) (old : List ℤ) → Turned f first old 0 old
turned_none f first old = filled_none (turn_length f first (length old)) (omega arith)

-- one number more
pub turned_more : (f : ℕ → ℤ) (first : ℕ) {old : List ℤ} {i : ℕ} {new : List ℤ} {x : ℤ} → Turned f first old i new → i < length old → x ≡ f (first + i)
    → Turned f first old (i + 1) (set new i x)
turned_more f first {old} {i} t h e = filled_more (pos 0) t h (omega arith) (e ∙ sym (turn_at f first (length old) i (pos 0) h))
