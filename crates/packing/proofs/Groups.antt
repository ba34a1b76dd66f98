-- Unpacking in groups (003, algorithms 20 and 22): eight numbers begin with a byte and end with one.
-- Assumes nothing.
use mathlib.Core.Path.{◌≡◌, sym, ap, ◌∙◌}
use mathlib.Core.List.{List, ◌++◌}
use Prim.Native.Nat.{ℕ, ◌+◌, ◌-◌, ◌*◌, ◌/◌, ◌%◌, ◌^◌, ◌≤◌, ◌<◌}
use native.Mathlib.Nat.{mul-add, mul_comm, mul-le-mul_right}
use native.Mathlib.Omega.{arith}
use lib.ListN.{length, take}
use lib.Seq.{take-add, length-take-le, ext_get_or}
use Rattle.maths.specs.Vector.{at}
use Rattle.maths.proofs.Vector.{tabulate_length, tabulate_at}
use Rattle.calls.specs.Region.{region, over}
use Rattle.calls.proofs.Region.{region_entry, region_length, over_length, over_append}
use Rattle.calls.proofs.Filled.{Filled}
use Rattle.packing.specs.Digits.{group, four_bytes, Digit}
use Rattle.packing.specs.Dropped.{unpack_dropped_of, Widths}
use Rattle.packing.proofs.Dropped.{unpack_dropped_at}
use Rattle.packing.proofs.Position.{Position}

-- the bits before a number of a group are few
pub group_bits : (k kept : ℕ) → k < 8 → kept ≤ 24 → k * kept ≤ 168
group_bits k kept h n = let most : k * kept ≤ 7 * kept = mul-le-mul_right kept (omega arith) in omega arith

-- a group has eight numbers
pub group_length : (kept cmp j : ℕ) (bytes : List ℕ) → length (group kept cmp j bytes) ≡ 8
unfolding group
group_length kept cmp j bytes = tabulate_length 8 _

-- number k of a group
pub group_at : (kept cmp j : ℕ) (bytes : List ℕ) (k : ℕ) → k < 8
    → at (group kept cmp j bytes) k ≡ four_bytes bytes (j + k * kept / 8) / 2 ^ (k * kept % 8) % 2 ^ kept * 2 ^ cmp
unfolding group
group_at kept cmp j bytes k h = tabulate_at 8 _ k h

-- the first entries, and the region after them
front_region : (ys : List ℕ) (i m : ℕ) → take (i + m) ys ≡ take i ys ++ region ys i m
unfolding region
front_region ys i m = take-add i m ys

-- several entries more stand in place
filled_several : {old ys new : List ℕ} {n i m : ℕ} (zs : List ℕ) → Filled old 0 n ys i new → length zs ≡ m → i + m ≤ n
    → ((k : ℕ) → k < m → at zs k ≡ at ys (i + k)) → Filled old 0 n ys (i + m) (over new i zs)
filled_several {old} {ys} {new} {n} {i} {m} zs f size room each =
    let front = take i ys in
    let part : length front ≡ i = length-take-le i ys (omega (arith, f.entries)) in
    let long : length (region ys i m) ≡ m = region_length ys i m (omega (arith, f.entries)) in
    let entry : (k : ℕ) → k < length zs → at zs k ≡ at (region ys i m) k = λ k h.
    let low : k < m = omega arith in each k low ∙ sym (region_entry ys i m k 0 low)
    in
    let same : zs ≡ region ys i m = ext_get_or 0 zs (region ys i m) (size ∙ sym long) entry in
    let whole : front ++ zs ≡ take (i + m) ys = ap (λ (l : List ℕ). front ++ l) same ∙ sym (front_region ys i m) in
    let was : new ≡ over old 0 front = f.written in
    let end : 0 + length front ≡ i = omega arith in
    let first : 0 + length front ≤ length old = omega (arith, f.room) in
    record {
      entries = f.entries;
      room = f.room;
      within = room;
      kept_length = over_length new i zs (omega (arith, f.kept_length, f.room)) ∙ f.kept_length;
      written = ap (λ (l : List ℕ). over l i zs) was
          ∙ ap (λ (k : ℕ). over (over old 0 front) k zs) (sym end)
          ∙ over_append old 0 front first zs
          ∙ ap (over old 0) whole;
    }

-- the same, where a function gave the list
pub filled_given : {old ys new after : List ℕ} {n i m : ℕ} (zs : List ℕ) → Filled old 0 n ys i new → length zs ≡ m → i + m ≤ n
    → ((k : ℕ) → k < m → at zs k ≡ at ys (i + k)) → after ≡ over new i zs → Filled old 0 n ys (i + m) after
filled_given zs f size room each e = rw e (filled_several zs f size room each)

module _ (width cmp : ℕ) (w : Widths width cmp) where
  -- a group that begins with byte j holds the numbers from place i on
  pub group_numbers : (count i j : ℕ) (bytes : List ℕ) → Digit 8 bytes → Position 8 (width - cmp) j 0 i → (k : ℕ) → k < 8 → i + k < count
      → at (group (width - cmp) cmp j bytes) k ≡ at (unpack_dropped_of width cmp count bytes) (i + k)
  group_numbers count i j bytes digit p k h below =
      group_at (width - cmp) cmp j bytes k h
      ∙ sym (unpack_dropped_at width cmp count (i + k) (k * (width - cmp) % 8) (j + k * (width - cmp) / 8) bytes w digit (position_in k h) below)
    where
      position_in : (k : ℕ) → k < 8 → Position 8 (width - cmp) (j + k * (width - cmp) / 8) (k * (width - cmp) % 8) (i + k)
      position_in k h =
          record {
            place = omega (arith, p.place, mul-add (width - cmp) i k, mul_comm (width - cmp) k);
            low = omega arith;
          }

  -- a group begins with as many bytes for each group before it as a number has bits
  pub group_place : (g : ℕ) → Position 8 (width - cmp) (g * (width - cmp)) 0 (8 * g)
  group_place g = record { place = omega (arith, mul_comm g (width - cmp)); low = omega arith }
