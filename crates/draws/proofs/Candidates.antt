-- Laws of candidates: the first at a byte position, their count, and the candidates of bytes in two parts.
-- Assumes nothing.
use mathlib.Core.Path.{◌≡◌, refl, ap, ◌∙◌}
use mathlib.Core.List.{List, [], ◌∷◌}
use Prim.Native.Nat.{ℕ, zero, suc, ◌+◌, ◌*◌, ◌/◌, ◌^◌, ◌≤◌, ◌<◌}
use native.Mathlib.Numerals.{add-one}
use native.Mathlib.Omega.{arith}
use lib.ListN.{length, get_or, drop, length-drop}
use lib.Seq.{drop-cons, drop-drop, drop-nil}
use Rattle.calls.specs.Region.{region}
use Rattle.maths.specs.Bytes.{little_endian}
use Rattle.draws.specs.Uniform.{candidates}

-- the number of no bytes
little_none : (bytes : List ℕ) (position : ℕ) → little_endian (region bytes position 0) ≡ 0
unfolding little_endian region
little_none bytes position = refl

-- the number of one more byte
little_more : (bytes : List ℕ) (position n : ℕ) → position < length bytes
    → little_endian (region bytes position (suc n)) ≡ get_or bytes position 0 + 256 * little_endian (region bytes (position + 1) n)
unfolding little_endian region
little_more bytes position n h = rw (drop-cons bytes position 0 h, add-one)

module _ (bytes : List ℕ) (position : ℕ) where
  -- the number of one byte
  pub little_one : position < length bytes → little_endian (region bytes position 1) ≡ get_or bytes position 0
  little_one h = omega (arith, little_more bytes position 0 h, little_none bytes (position + 1))

  -- the number of two bytes
  pub little_two : position + 1 < length bytes → little_endian (region bytes position 2) ≡ get_or bytes position 0 + 256 * get_or bytes (position + 1) 0
  little_two h = omega (
    arith,
    little_more bytes position 1 (omega arith),
    little_more bytes (position + 1) 0 (omega arith),
    little_none bytes (position + 1 + 1),
  )

  -- the number of three bytes
  pub little_three : position + 3 ≤ length bytes
      → little_endian (region bytes position 3) ≡ get_or bytes position 0 + 256 * get_or bytes (position + 1) 0 + 65536 * get_or bytes (position + 2) 0
  little_three h =
      let next : position + 1 + 1 ≡ position + 2 = omega arith in
      omega (
        arith,
        little_more bytes position 2 (omega arith),
        little_more bytes (position + 1) 1 (omega arith),
        rw next at (little_more bytes (position + 1 + 1) 0 (omega arith)),
        ap (λ (k : ℕ). little_endian (region bytes k 1)) next,
        little_none bytes (position + 2 + 1),
      )

  -- is below 2^24
  pub little_three_below : position + 3 ≤ length bytes → ((k : ℕ) → get_or bytes k 0 < 256) → little_endian (region bytes position 3) < 2 ^ 24
  little_three_below h byte = omega (arith, little_three h, byte position, byte (position + 1), byte (position + 2))

-- fewer than three bytes hold no candidate
few_none : (bytes : List ℕ) → length bytes < 3 → candidates bytes ≡ []
unfolding candidates
few_none [] h = refl
few_none (a ∷ []) h = refl
few_none (a ∷ b ∷ []) h = refl
few_none (a ∷ b ∷ c ∷ bytes) h = absurd (omega arith)

-- three bytes or more begin with a candidate
some_first : (bytes : List ℕ) → 3 ≤ length bytes → candidates bytes ≡ little_endian (region bytes 0 3) ∷ candidates (drop 3 bytes)
unfolding candidates region
some_first [] h = absurd (omega arith)
some_first (a ∷ []) h = absurd (omega arith)
some_first (a ∷ b ∷ []) h = absurd (omega arith)
some_first (a ∷ b ∷ c ∷ bytes) h = refl

module _ (bytes : List ℕ) (position : ℕ) where
  -- where fewer than three bytes are left there is no candidate
  pub candidates_none : length bytes < position + 3 → candidates (drop position bytes) ≡ []
  candidates_none h = few_none (drop position bytes) (rw length-drop (omega arith))

  -- else the first candidate is the number of the next three bytes
  pub candidates_first : position + 3 ≤ length bytes → candidates (drop position bytes) ≡ little_endian (region bytes position 3) ∷ candidates
      (drop (position + 3) bytes)
  unfolding region
  candidates_first h = some_first (drop position bytes) (rw length-drop (omega arith)) ∙ rw (drop-drop 3 position bytes)

-- the count of candidates
pub candidates_length : (bytes : List ℕ) → length (candidates bytes) ≡ length bytes / 3
unfolding candidates
candidates_length [] = refl
candidates_length (a ∷ []) = refl
candidates_length (a ∷ b ∷ []) = refl
candidates_length (a ∷ b ∷ c ∷ bytes) = omega (arith, candidates_length bytes)

-- the candidates after the first and k more
after_first : (k : ℕ) (bytes : List ℕ) → drop k (candidates (drop 3 bytes)) ≡ drop (suc k) (candidates bytes)
unfolding candidates
after_first k [] = drop-nil k
after_first k (a ∷ []) = drop-nil k
after_first k (a ∷ b ∷ []) = drop-nil k
after_first k (a ∷ b ∷ c ∷ bytes) = refl

-- the candidates after the first k
pub candidates_drop : (k : ℕ) (bytes : List ℕ) → candidates (drop (3 * k) bytes) ≡ drop k (candidates bytes)
candidates_drop zero bytes = refl
candidates_drop (suc k) bytes =
    let e : 3 * suc k ≡ 3 + 3 * k = omega arith in
    rw (e, ← drop-drop) (candidates_drop k (drop 3 bytes) ∙ after_first k bytes)
