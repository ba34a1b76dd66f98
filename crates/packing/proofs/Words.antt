-- Packing by words (003, algorithms 17 and 19): bits of numbers are held back until there are enough for four bytes.
-- Assumes nothing.
use mathlib.Core.Path.{◌≡◌, refl, sym, ap, ◌∙◌}
use mathlib.Core.List.{List}
use Prim.Native.Nat.{ℕ, ◌+◌, ◌-◌, ◌*◌, ◌/◌, ◌%◌, ◌^◌, ◌≤◌, ◌<◌}
use native.Mathlib.Nat.{mul-zero, mul-add, mul_assoc, mul_comm, div-one, one-mul, div-div-eq-div-mul, add-mul-div_left, div-lt_iff_lt-mul, mul-le-mul_left}
use native.Mathlib.Omega.{arith}
use lib.ListN.{length, drop, take, set}
use lib.Pow.{pow-add, pow_pos}
use Rattle.maths.specs.Vector.{at}
use Rattle.maths.proofs.Vector.{tabulate_at}
use Rattle.calls.specs.Region.{over}
use lib.Seq.{length-take-le}
use Rattle.calls.proofs.Region.{over_length, over_over}
use Rattle.calls.proofs.Filled.{Filled, filled_more}
use Rattle.packing.specs.Digits.{value, digits, pack, Digit}
use Rattle.packing.specs.Dropped.{high_parts, pack_dropping_of, Widths}
use Rattle.packing.proofs.Digits.{value_at, window_digit}
use Rattle.packing.proofs.Dropped.{high_at, high_digit}

-- i numbers are taken, j bytes are written, and the bits between are held
pub record Held (kept : ℕ) (xs : List ℕ) (i bits j held : ℕ) : Type 0 where
  pub place : kept * i ≡ 8 * j + bits
  pub small : held < 2 ^ bits
  pub rest : value kept xs / 2 ^ (8 * j) ≡ held + 2 ^ bits * value kept (drop i xs)

-- before the first number
pub held_none : (kept : ℕ) (xs : List ℕ) → Held kept xs 0 0 0 0
held_none kept xs =
    record { place = omega (arith, mul-zero kept); small = omega arith; rest = div-one (value kept xs) ∙ omega (arith, one-mul (value kept xs)) }

module _ {kept : ℕ} {xs : List ℕ} {i bits j held : ℕ} (h : Held kept xs i bits j held) where
  -- one number more is held
  pub held_more : (x : ℕ) → x ≡ at xs i → x < 2 ^ kept → Held kept xs (i + 1) (bits + kept) j (held + x * 2 ^ bits)
  held_more x e low =
      let grown : 2 ^ bits * (x + 1) ≤ 2 ^ bits * 2 ^ kept = mul-le-mul_left (2 ^ bits) (omega arith) in
      record {
        place = omega (arith, h.place);
        small = rw pow-add (omega (arith, h.small, grown));
        rest = h.rest ∙ rw (value_at kept i xs, ← e, pow-add) (omega arith);
      }

  -- the bytes that leave first are those of the bits held
  pub held_byte : (k : ℕ) → 8 * k + 8 ≤ bits → value kept xs / 2 ^ (8 * (j + k)) % 2 ^ 8 ≡ held / 2 ^ (8 * k) % 2 ^ 8
  held_byte k fits =
      rw (mul-add, pow-add, ← div-div-eq-div-mul, h.rest) (window_digit bits (8 * k) 8 held (value kept (drop i xs)) fits)

  -- n bytes are written
  pub held_less : (n : ℕ) → 8 * n ≤ bits → Held kept xs i (bits - 8 * n) (j + n) (held / 2 ^ (8 * n))
  held_less n fits =
      let split : 2 ^ bits ≡ 2 ^ (8 * n) * 2 ^ (bits - 8 * n) = rw (← pow-add) (ap (λ (m : ℕ). 2 ^ m) (omega arith)) in
      record {
        place = omega (arith, h.place);
        small = (div-lt_iff_lt-mul (pow_pos (8 * n))).1 (rw (mul_comm (2 ^ (bits - 8 * n)), ← split) h.small);
        rest = rw (mul-add, pow-add, ← div-div-eq-div-mul, h.rest, split, mul_assoc) (add-mul-div_left held _ (pow_pos (8 * n)));
      }

module _ (width cmp : ℕ) (xs : List ℕ) where
  -- one number more is held, by its high part
  pub held_taken : {i bits j held number after : ℕ} → Widths width cmp → Digit width xs → Held (width - cmp) (high_parts cmp xs) i bits j held
      → number ≡ at xs i → after ≡ held + number / 2 ^ cmp * 2 ^ bits → Held (width - cmp) (high_parts cmp xs) (i + 1) (bits + (width - cmp)) j after
  held_taken {i} {number = number} w digit h e r =
      let same : at (high_parts cmp xs) i ≡ number / 2 ^ cmp = high_at cmp xs i ∙ ap (λ (x : ℕ). x / 2 ^ cmp) (sym e) in
      rw r (held_more h (number / 2 ^ cmp) (sym same) (rw same at (high_digit width cmp xs (omega arith) digit i)))

  -- byte j + k of packed numbers, from the bits held
  held_packed : {i bits j held : ℕ} (count k : ℕ) → Held (width - cmp) (high_parts cmp xs) i bits j held → 8 * k + 8 ≤ bits → j + k < count
      → held / 2 ^ (8 * k) % 2 ^ 8 ≡ at (pack_dropping_of width cmp count xs) (j + k)
  unfolding pack_dropping_of pack digits
  held_packed {j = j} count k h fits below = sym (tabulate_at count _ (j + k) below ∙ held_byte h k fits)

  -- one of these bytes, written
  held_step : {old new : List ℕ} {i bits j held place byte : ℕ} (count k : ℕ) → Held (width - cmp) (high_parts cmp xs) i bits j held → 8 * k + 8 ≤ bits
      → j + k < count → place ≡ j + k → byte ≡ held / 2 ^ (8 * k) % 2 ^ 8 → Filled old 0 count (pack_dropping_of width cmp count xs) place new
      → Filled old 0 count (pack_dropping_of width cmp count xs) (j + (k + 1)) (set new place byte)
  held_step {j = j} {place = place} count k h fits below e b f =
      let more : place + 1 ≡ j + (k + 1) = omega arith in
      rw more at (filled_more {k = place} 0 f (omega arith) (omega arith) (b ∙ held_packed count k h fits below ∙ ap (at
      (pack_dropping_of width cmp count xs)) (sym e)))

  -- four bytes of the bits held are the next four of packed numbers
  pub held_written : {old new after : List ℕ} {i bits j held : ℕ} (count : ℕ) → Held (width - cmp) (high_parts cmp xs) i bits j held → 32 ≤ bits → j + 4 ≤ count
      → Filled old 0 count (pack_dropping_of width cmp count xs) j new
      → after
      ≡ set (set (set (set new j (held % 2 ^ 8)) (j + 1) (held / 2 ^ 8 % 2 ^ 8)) (j + 2) (held / 2 ^ 16 % 2 ^ 8)) (j + 3) (held / 2 ^ 24 % 2 ^ 8)
      → Filled old 0 count (pack_dropping_of width cmp count xs) (j + 4) after
  held_written {held = held} count h enough room f e =
      let one = held_step count 0 h (omega arith) (omega arith) (omega arith) (ap (λ (x : ℕ). x % 2 ^ 8) (sym (div-one held))) f in
      let two = held_step count 1 h (omega arith) (omega arith) refl refl one in
      let three = held_step count 2 h (omega arith) (omega arith) refl refl two in
      rw e (held_step count 3 h (omega arith) (omega arith) refl refl three)

-- what is written first is the beginning of what is written in all, and keeps the length: f gives a list of each length
module _ (f : ℕ → List ℕ) (long : (n : ℕ) → length (f n) ≡ n) (old : List ℕ) {new : List ℕ} {i : ℕ} (within : i ≤ length old)
    (e : new ≡ over old 0 (take i (f (length old)))) where
  part_length : length (take i (f (length old))) ≡ i
  part_length = length-take-le i _ (rw long within)

  pub begun_length : length new ≡ length old
  begun_length = ap length e ∙ over_length old 0 _ (omega (arith, part_length))

  pub begun_filled : Filled new 0 (length new) (f (length new)) i new
  begun_filled =
      record {
        entries = long (length new);
        room = omega arith;
        within = omega (arith, begun_length);
        kept_length = refl;
        written = rw (begun_length, e) (sym (over_over old 0 _ (omega (arith, part_length)) _ refl));
      }
