-- Where digits of one width begin among digits of another (003, algorithms 17 and 20), turn by turn of a loop that takes them in order.
-- Assumes nothing.
use mathlib.Core.Path.{◌≡◌, ap}
use Prim.Native.Nat.{ℕ, ◌+◌, ◌*◌, ◌/◌, ◌%◌, ◌≤◌, ◌<◌}
use native.Mathlib.Nat.{mul-add, mul-le-mul_left, mul-le-mul_right, div-add-mod', mod-lt}
use native.Mathlib.Omega.{arith}

-- digit j of `to` bits begins at the given bit of digit i of `from` bits
pub record Position (from to i bit j : ℕ) : Type 0 where
  pub place : from * i + bit ≡ to * j
  pub low : bit < from

-- the next digit begins `to` bits further, with n digits passed
pub position_next : {from to i bit j i' bit' : ℕ} (n : ℕ) → Position from to i bit j → i' ≡ i + n → from * n + bit' ≡ bit + to → bit' < from
    → Position from to i' bit' (j + 1)
position_next n p passed e h = record { place = rw passed (omega arith); low = h }

-- numbers of 8 bits or more: no more are passed than bytes are written
pub numbers_passed : {kept i bit j : ℕ} → Position kept 8 i bit j → 8 ≤ kept → i ≤ j
numbers_passed {i = i} p h = omega (arith, mul-le-mul_right i h)

-- numbers of at most 24 bits: no more than three bytes are passed for each
pub bytes_passed : {kept i bit j : ℕ} → Position 8 kept j bit i → kept ≤ 24 → j ≤ 3 * i
bytes_passed {i = i} p h = omega (arith, mul-le-mul_right i h)

-- `to` digits of `from` bits are as long as `from` digits of `to` bits: where digit j begins, from the whole groups before it and the digits left
module _ (from to j : ℕ) (h : 0 < from) where
  pub position_within : Position from to (j / from * to + j % from * to / from) (j % from * to % from) j
  position_within =
      record {
        place = omega (
          arith,
          mul-add from (j / from * to) (j % from * to / from),
          ap (λ (n : ℕ). n * to) (div-add-mod' j from),
          div-add-mod' (j % from * to) from,
        );
        low = mod-lt (j % from * to) h;
      }

  -- the same, where two functions gave the digit and the bit
  pub position_given : {i bit : ℕ} → i ≡ j / from * to + j % from * to / from → bit ≡ j % from * to % from → Position from to i bit j
  position_given e f = rw (e, f) position_within

-- the numbers of whole groups are no more than the bytes
pub grouped_within : (kept j : ℕ) → 8 ≤ kept → j / kept * 8 ≤ j
grouped_within kept j h = omega (arith, div-add-mod' j kept, mul-le-mul_left (j / kept) h)
