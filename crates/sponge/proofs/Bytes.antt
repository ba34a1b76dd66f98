-- Laws of lanes and bytes: a lane of a block, and the lengths of what a state gives out.
-- Assumes nothing.
use mathlib.Core.Path.{◌≡◌, refl, sym, ap, ◌∙◌}
use mathlib.Core.List.{List, ◌++◌}
use Prim.Native.Nat.{ℕ, zero, suc, ◌+◌, ◌*◌, ◌/◌, ◌%◌, ◌≤◌, ◌<◌}
use native.Mathlib.Nat.{div-div-eq-div-mul}
use native.Mathlib.Numerals.{add-one}
use native.Mathlib.Omega.{arith}
use lib.ListN.{length, get_or, take, drop, length-append, drop_of_length-le}
use lib.Seq.{drop-cons}
use Rattle.std.specs.Int.{w64, to_le_bytes}
use Rattle.calls.specs.Region.{over}
use Rattle.calls.proofs.Region.{over_append, over_length, over_whole}
use Rattle.keccak.specs.Lane.{lane}
use Rattle.maths.specs.Bytes.{little_endian, bytes_of}
use Rattle.sponge.specs.Sponge.{lane_of, lanes}

-- the first byte and those after it
first_byte : (xs : List ℕ) (n j k : ℕ) → j < length xs → k ≡ j + 1
    → little_endian (take (suc n) (drop j xs)) ≡ get_or xs j 0 + 256 * little_endian (take n (drop k xs))
unfolding little_endian
first_byte xs n j k h e = rw (e, add-one, drop-cons xs j 0)

-- a lane inside a block, byte by byte
pub lane_inside : (xs : List ℕ) (i j : ℕ) → j ≡ 8 * i → j + 8 ≤ length xs →
    get_or xs j 0 + 256 * (get_or xs (j + 1) 0 + 256 * (get_or xs (j + 2) 0 + 256 * (get_or xs (j + 3) 0
    + 256 * (get_or xs (j + 4) 0 + 256 * (get_or xs (j + 5) 0 + 256 * (get_or xs (j + 6) 0 + 256 * get_or xs (j + 7) 0)))))) ≡ lane_of xs i
unfolding lane_of little_endian
lane_inside xs i j e h =
    rw (
      ← e,
      first_byte xs 7 j (j + 1) (omega arith) refl,
      first_byte xs 6 (j + 1) (j + 2) (omega arith) (omega arith),
      first_byte xs 5 (j + 2) (j + 3) (omega arith) (omega arith),
      first_byte xs 4 (j + 3) (j + 4) (omega arith) (omega arith),
      first_byte xs 3 (j + 4) (j + 5) (omega arith) (omega arith),
      first_byte xs 2 (j + 5) (j + 6) (omega arith) (omega arith),
      first_byte xs 1 (j + 6) (j + 7) (omega arith) (omega arith),
      first_byte xs 0 (j + 7) (j + 8) (omega arith) (omega arith),
    ) (omega arith)

-- a lane past the end of a block is 0
pub lane_past : (xs : List ℕ) (i : ℕ) → length xs ≤ 8 * i → 0 ≡ lane_of xs i
unfolding lane_of little_endian
lane_past xs i h = rw (drop_of_length-le xs h)

-- the bytes of a lane, as the library gives them
pub eight_bytes : (v : ℕ) → to_le_bytes w64 v ≡ bytes_of 8 v
unfolding bytes_of
eight_bytes v = simp div-div-eq-div-mul

-- the number of bytes
pub bytes_of_length : (n v : ℕ) → length (bytes_of n v) ≡ n
unfolding bytes_of
bytes_of_length zero v = refl
bytes_of_length (suc n) v = ap suc (bytes_of_length n _)

-- a lane has eight bytes
pub lanes_length : (s : List (List ℕ)) (n : ℕ) → length (lanes s n) ≡ 8 * n
unfolding lanes
lanes_length s zero = refl
lanes_length s (suc n) = rw (length-append, lanes_length s n, bytes_of_length) (omega arith)

-- the invariant of the loop that lays lanes out: new is old with the bytes of the first i lanes in front
pub record Laid (s : List (List ℕ)) (old : List ℕ) (i : ℕ) (new : List ℕ) : Type 0 where
  pub within : i ≤ 17
  pub room : length old ≡ 136
  pub kept : length new ≡ 136
  pub written : new ≡ over old 0 (lanes s i)

-- before the first turn
pub laid_none : (s : List (List ℕ)) (old : List ℕ) → length old ≡ 136 → Laid s old 0 old
unfolding lanes over
laid_none s old h = record { within = omega arith; room = h; kept = h; written = refl }

-- a turn lays the next lane out
pub laid_more : {s : List (List ℕ)} {old : List ℕ} {i : ℕ} {new : List ℕ} (b : List ℕ) → Laid s old i new → i < 17 → b ≡ bytes_of 8 (lane s (i % 5) (i / 5))
    → Laid s old (i + 1) (over new (8 * i) b)
unfolding lanes
laid_more {s} {old} {i} {new} b f h e =
    let l : length (lanes s i) ≡ 8 * i = lanes_length s i in
    let lb : length b ≡ 8 = ap length e ∙ bytes_of_length 8 _ in
    let k : 8 * i ≡ 0 + length (lanes s i) = omega arith in
    record {
      within = omega arith;
      room = f.room;
      kept = over_length new (8 * i) b (omega (arith, f.kept)) ∙ f.kept;
      written =
          rw (add-one, f.written)
          (ap (λ (p : ℕ). over (over old 0 (lanes s i)) p b) k ∙ over_append old 0 (lanes s i) (omega (arith, f.room)) b
          ∙ ap (λ (x : List ℕ). over old 0 (lanes s i ++ x)) e);
    }

-- after the last turn
pub laid_all : {s : List (List ℕ)} {old : List ℕ} {i : ℕ} {new : List ℕ} → Laid s old i new → 17 ≤ i → new ≡ lanes s 17
laid_all {s} {old} {i} f h =
    let e : i ≡ 17 = omega arith in
    f.written ∙ ap (λ (n : ℕ). over old 0 (lanes s n)) e ∙ over_whole old (lanes s 17) (lanes_length s 17 ∙ sym f.room)
