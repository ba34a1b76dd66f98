-- The loops that put the powers of the twist in their places: within a row, and over the rows, the last row first.
-- Assumes nothing.
use mathlib.Core.Path.{◌≡◌, refl, ◌∙◌}
use mathlib.Core.Logic.{inl, inr}
use mathlib.Core.List.{List}
use Prim.Native.Nat.{ℕ, zero, suc, ◌+◌, ◌*◌, ◌≤◌, ◌<◌}
use native.Mathlib.Nat.{eq-or-lt_of_le, le_of_suc-le-suc, zero-mul, mul-lt-mul_of_pos_left, mul-le-mul_right}
use native.Mathlib.Numerals.{add-one}
use native.Mathlib.Omega.{arith}
use lib.ListN.{length, set, length-set}
use lib.Seq.{get_or-set_same, get_or-set_other}
use Rattle.maths.specs.Vector.{at}
use Rattle.ntt_tables.specs.Steps.{TwistedRow, Twisted}

-- the places of row r that are written after c turns
pub record Twisting (r : ℕ) (old : List ℕ) (c : ℕ) (new : List ℕ) : Type 0 where
  pub within : c ≤ 256
  pub size : length new ≡ length old
  pub values : (i : ℕ) → i < c → at new (r * 256 + i) ≡ at old (r * i)
  pub before : (i : ℕ) → i < r * 256 → at new i ≡ at old i
  pub after : (i : ℕ) → r * 256 + c ≤ i → at new i ≡ at old i

module _ {r : ℕ} {old : List ℕ} where
  -- before the first column
  pub twisting_none : Twisting r old 0 old
  twisting_none = record { within = omega arith; size = refl; values = λ i h. absurd (omega arith); before = λ i h. refl; after = λ i h. refl }

  module _ {c : ℕ} {new : List ℕ} (s : Twisting r old c new) where
    -- a power stands before its row, but for row 0, which takes the first power everywhere
    pub source : (m : ℕ) → m ≡ r → c < 256 → at new (r * c) ≡ at old (r * c)
    source zero e h =
        let least : 0 ≤ c = omega arith in
        rw (← e, zero-mul) (elim (eq-or-lt_of_le least) [
          | inl none ↦ s.after 0 (rw (← e, zero-mul) (omega arith))
          | inr some ↦ rw (← e, zero-mul) at (s.values 0 some)
        ])
    source (suc m) e h = s.before (r * c) (mul-lt-mul_of_pos_left {m = c} {n = 256} h (omega arith))

    -- one more column
    pub twisting_more : {k v : ℕ} → k ≡ r * 256 + c → k < length new → c < 256 → v ≡ at new (r * c) → Twisting r old (c + 1) (set new k v)
    twisting_more {k} {v} e here h value =
        record {
          within = omega arith;
          size = length-set new k v ∙ s.size;
          values = λ i l.
              elim (eq-or-lt_of_le (le_of_suc-le-suc (rw add-one at l))) [
                | inl last ↦ rw (last, ← e, get_or-set_same new k v 0 here) (value ∙ source r refl h)
                | inr less ↦ get_or-set_other new k (r * 256 + i) v 0 (λ t. omega arith) ∙ s.values i less
              ];
          before = λ i l. get_or-set_other new k i v 0 (λ t. omega arith) ∙ s.before i l;
          after = λ i l. get_or-set_other new k i v 0 (λ t. omega arith) ∙ s.after i (omega arith);
        }

  -- after the last column
  pub twisting_all : {c : ℕ} {new : List ℕ} → Twisting r old c new → 256 ≤ c → TwistedRow r old new
  twisting_all s h =
      record { size = s.size; values = λ i l. s.values i (omega arith); before = s.before; after = λ i l. s.after i (omega (arith, s.within)) }

-- the rows from r on are done, those before it are as they were
pub record RowsTwisted (δ : ℕ) (old : List ℕ) (r : ℕ) (new : List ℕ) : Type 0 where
  pub within : r ≤ δ
  pub size : length new ≡ length old
  pub values : (i c : ℕ) → r ≤ i → i < δ → c < 256 → at new (i * 256 + c) ≡ at old (i * c)
  pub before : (i : ℕ) → i < r * 256 → at new i ≡ at old i
  pub after : (i : ℕ) → δ * 256 ≤ i → at new i ≡ at old i

module _ {δ : ℕ} {old : List ℕ} where
  -- before the last row
  pub rows_twisted_none : RowsTwisted δ old δ old
  rows_twisted_none =
      record { within = omega arith; size = refl; values = λ i c l h k. absurd (omega arith); before = λ i h. refl; after = λ i h. refl }

  -- one more row
  pub rows_twisted_more : {r m : ℕ} {new next : List ℕ} → RowsTwisted δ old r new → r ≡ m + 1 → TwistedRow m new next → RowsTwisted δ old m next
  rows_twisted_more {r} {m} {new} {next} s e t =
      record {
        within = omega (arith, s.within);
        size = t.size ∙ s.size;
        values = λ i c l h k.
            elim (eq-or-lt_of_le l) [
              | inl same ↦ rw (← same) (t.values c k ∙ s.before (m * c) (omega (arith, mul-le-mul_right {m = c} {n = 255} m (omega arith))))
              | inr less ↦ t.after (i * 256 + c) (omega (arith, mul-le-mul_right {m = m + 1} {n = i} 256 (omega arith))) ∙ s.values i c (omega arith) h k
            ];
        before = λ i h. t.before i h ∙ s.before i (omega arith);
        after = λ i h. t.after i (omega (arith, s.within)) ∙ s.after i h;
      }

  -- after the first row
  pub rows_twisted_all : {r : ℕ} {new : List ℕ} → RowsTwisted δ old r new → r ≡ 0 → Twisted δ old new
  rows_twisted_all s e = record { size = s.size; values = λ i c h k. s.values i c (omega arith) h k; after = s.after }
