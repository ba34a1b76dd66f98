-- Laws of the walk over c2.
-- Assumes nothing.
use mathlib.Core.Path.{◌≡◌, refl, sym, ap, ◌∙◌}
use mathlib.Core.List.{List, append-nil}
use Prim.Native.Nat.{ℕ, zero, suc, ◌+◌, ◌*◌, ◌≤◌, ◌<◌}
use native.Mathlib.Numerals.{add-one}
use native.Mathlib.Omega.{arith}
use lib.ListN.{length, take, drop, set}
use lib.Seq.{take_all, drop-length, take-suc, drop-cons, append_snoc, set_at, length-take-le, length_front}
use Rattle.maths.specs.Vector.{at}
use Rattle.c2_place.specs.Walk.{Walked}

-- a bit times a residue is a residue
pub bit_times : (half bit q : ℕ) → bit < 2 → half < q → half * bit < q
bit_times half zero q b h = omega arith
bit_times half (suc zero) q b h = omega arith
bit_times half (suc (suc bit)) q b h = absurd (omega arith)

module _ {finished before : List ℕ} where
  -- before the first place all is as it was
  pub walked_none : length before ≡ length finished → Walked finished before 0 before
  walked_none size = record { size = size; within = omega arith; places = refl }

  module _ {j : ℕ} {c2 : List ℕ} (w : Walked finished before j c2) where
    -- the walk keeps the length
    pub walked_length : length c2 ≡ length finished
    walked_length =
        ap length w.places
        ∙ length_front before (take j finished) j
        (length-take-le j finished w.within ∙ sym (length-take-le j before (omega (arith, w.size, w.within)))) ∙ w.size

    -- the next place is finished
    pub walked_more : {x : ℕ} → j < length finished → x ≡ at finished j → Walked finished before (j + 1) (set c2 j x)
    walked_more {x} h e =
        let front : length (take j finished) ≡ j = length-take-le j finished w.within in
        record {
          size = w.size;
          within = omega arith;
          places =
              rw (
                w.places,
                drop-cons before j 0 (omega (arith, w.size)),
                set_at (take j finished) (at before j) (drop (suc j) before) x j front,
                e,
                add-one,
                take-suc finished j 0 h,
              ) (sym (append_snoc (take j finished) (at finished j) (drop (suc j) before)));
        }

    -- after the last place all is finished
    pub walked_all : length finished ≤ j → c2 ≡ finished
    walked_all h =
        let all : j ≡ length finished = omega (arith, w.within) in
        w.places ∙ rw (all, take_all (length finished) finished (omega arith), ← w.size, drop-length, append-nil)
