-- The steps of the transform of a row: 16 transforms of 16 numbers in two halves, and the exchange of rows and columns (003 section 3.2.2).
-- Assumes nothing.
use Rattle.std.specs.Prelude.{◌≡◌, ◌⊎◌, List, ℕ, ◌+◌, ◌*◌, ◌^◌, ◌≤◌, ◌<◌, length, set}
use Rattle.maths.specs.Vector.{at, AllBelow}
use Rattle.maths.specs.Congruence.{Mod}
use Rattle.maths.specs.Transform.{transform_at}
use Rattle.maths.specs.Butterfly.{Butterfly}
use Rattle.montgomery.specs.Scaled.{unscale}
use Rattle.ntt_butterflies.specs.Lazy.{Lift}

-- to with four numbers written at place, place + apart, place + 2 · apart and place + 3 · apart
unfoldable pub written_apart : List ℕ → ℕ → ℕ → ℕ → ℕ → ℕ → ℕ → List ℕ
written_apart to place apart z₀ z₁ z₂ z₃ = set (set (set (set to place z₀) (place + apart) z₁) (place + 2 * apart) z₂) (place + 3 * apart) z₃

-- 256 numbers below lift, and 8 scaled powers
pub record StepReady (q lift : ℕ) (roots from to : List ℕ) : Type 0 where
  pub lifted : Lift q lift
  pub roots_size : length roots ≡ 8
  pub roots_below : AllBelow q 8 roots
  pub from_size : length from ≡ 256
  pub from_below : AllBelow lift 256 from
  pub to_size : length to ≡ 256

-- the butterflies of part p of the first half, which give a block of 64
abbrev pub PartValue : ℕ → List ℕ → List ℕ → List ℕ → ℕ → ℕ → Type 0
PartValue q roots from to p i =
    Butterfly q (unscale q (at roots p)) (unscale q (at roots (4 + p))) (unscale q (at roots (2 * p)))
    (at from (16 * p + i)) (at from (64 + (16 * p + i))) (at from (128 + (16 * p + i))) (at from (192 + (16 * p + i)))
    (at to (64 * p + i)) (at to (64 * p + (16 + i))) (at to (64 * p + (32 + i))) (at to (64 * p + (48 + i)))

-- part p is done, and what stands outside its block is as in old
pub record Part (q lift : ℕ) (roots from : List ℕ) (p : ℕ) (old to : List ℕ) : Type 0 where
  pub values : (i : ℕ) → i < 16 → PartValue q roots from to p i
  pub below : (i : ℕ) → i < 64 → at to (64 * p + i) < 4 * lift
  pub others : (i : ℕ) → (i < 64 * p) ⊎ (64 * p + 64 ≤ i) → at to i ≡ at old i

-- the first half
pub record Parts (q lift : ℕ) (roots from to : List ℕ) : Type 0 where
  pub values : (p i : ℕ) → p < 4 → i < 16 → PartValue q roots from to p i
  pub below : AllBelow (4 * lift) 256 to

-- the second half
pub record Quarters (q lift : ℕ) (roots from to : List ℕ) : Type 0 where
  pub values : (i : ℕ) → i < 64
      → Butterfly q 1 (unscale q (at roots 4)) 1 (at from i) (at from (64 + i)) (at from (128 + i)) (at from (192 + i))
      (at to i) (at to (64 + i)) (at to (128 + i)) (at to (192 + i))
  pub below : AllBelow (4 * lift) 256 to

-- 256 numbers below 2 · q, and 8 scaled powers
pub record SixteenReady (q : ℕ) (roots from to : List ℕ) : Type 0 where
  pub roots_size : length roots ≡ 8
  pub roots_below : AllBelow q 8 roots
  pub from_size : length from ≡ 256
  pub from_below : AllBelow (2 * q) 256 from
  pub to_size : length to ≡ 256

-- roots holds the first 8 powers of v in scaled form, and power 8 of v is −1
pub record Roots (q v : ℕ) (roots : List ℕ) : Type 0 where
  pub powers : (i : ℕ) → i < 8 → Mod q (unscale q (at roots i)) (v ^ i)
  pub minus : Mod q (v ^ 8 + 1) 0

-- 16 transforms of 16 numbers: column c has the places c, 16 + c, 32 + c, ..
pub record Sixteen (q : ℕ) (roots from to : List ℕ) : Type 0 where
  pub values : (v : ℕ) → Roots q v roots → (i c : ℕ) → i < 16 → c < 16
      → Mod q (at to (16 * i + c)) (transform_at 16 v (λ j. at from (16 * j + c)) i)
  pub below : AllBelow (32 * q) 256 to

-- row a of the exchange is done, and what stands outside it is as in old
pub record ExchangedRow (from : List ℕ) (a : ℕ) (old to : List ℕ) : Type 0 where
  pub values : (b : ℕ) → b < 16 → at to (16 * a + b) ≡ at from (16 * b + a)
  pub others : (i : ℕ) → (i < 16 * a) ⊎ (16 * a + 16 ≤ i) → at to i ≡ at old i

-- the exchange of rows and columns
pub record Exchanged (from to : List ℕ) : Type 0 where
  pub values : (a b : ℕ) → a < 16 → b < 16 → at to (16 * a + b) ≡ at from (16 * b + a)
