-- What a loop has written so far, one number a turn at consecutive places: something is known of each, and other places are as before.
-- Assumes nothing.
use mathlib.Core.Path.{◌≡◌, refl, ◌∙◌}
use mathlib.Core.Logic.{◌⊎◌, inl, inr, ◌≢◌}
use mathlib.Core.List.{List}
use Prim.Native.Nat.{ℕ, ◌+◌, ◌≤◌, ◌<◌}
use native.Mathlib.Nat.{eq-or-lt_of_le, le_of_suc-le-suc}
use native.Mathlib.Numerals.{add-one}
use native.Mathlib.Omega.{arith}
use lib.ListN.{length, set, length-set}
use lib.Seq.{get_or-set_same, get_or-set_other}
use Rattle.maths.specs.Vector.{at}

-- the last turn, or one before it
pub last_or_before : {i j : ℕ} {A : Type 0} → j < i + 1 → (j ≡ i → A) → (j < i → A) → A
last_or_before h last before = elim (eq-or-lt_of_le (le_of_suc-le-suc (rw add-one at h))) [ inl e ↦ last e | inr l ↦ before l ]

-- a place outside is none of those inside
pub outside : {start size k : ℕ} → (k < start) ⊎ (start + size ≤ k) → (j : ℕ) → j < size → k ≢ start + j
outside (inl low) j h e = omega arith
outside (inr high) j h e = omega arith

-- a place outside is outside of fewer
outside_fewer : {start size fewer k : ℕ} → (k < start) ⊎ (start + size ≤ k) → fewer ≤ size → (k < start) ⊎ (start + fewer ≤ k)
outside_fewer (inl low) h = inl low
outside_fewer (inr high) h = inr (omega arith)

-- the first i of the size places from start on are written, and P holds of each; other places are as in old
pub record Written (P : ℕ → ℕ → Type 0) (start size : ℕ) (old : List ℕ) (i : ℕ) (to : List ℕ) : Type 0 where
  pub within : i ≤ size
  pub kept : length to ≡ length old
  pub each : (j : ℕ) → j < i → P j (at to (start + j))
  pub others : (k : ℕ) → (k < start) ⊎ (start + i ≤ k) → at to k ≡ at old k

-- before the first turn
pub written_none : (P : ℕ → ℕ → Type 0) (start size : ℕ) (old : List ℕ) → Written P start size old 0 old
written_none P start size old = record { within = omega arith; kept = refl; each = λ j h. absurd (omega arith); others = λ k h. refl }

module _ {P : ℕ → ℕ → Type 0} {start size : ℕ} {old : List ℕ} {i : ℕ} {to : List ℕ} (t : Written P start size old i to) where
  -- one more turn
  pub written_more : (k v : ℕ) → k ≡ start + i → i < size → start + size ≤ length old → P i v → Written P start size old (i + 1) (set to k v)
  written_more k v place more room holds =
      record {
        within = omega arith;
        kept = length-set to k v ∙ t.kept;
        each = λ j h.
            last_or_before h
            (λ e. rw (e, ← place, get_or-set_same to k v 0 (omega (arith, t.kept))) holds)
            (λ l. rw (get_or-set_other to k (start + j) v 0 (λ e. omega arith)) (t.each j l));
        others = λ j h.
            get_or-set_other to k j v 0 (λ e. outside h i (omega arith) (e ∙ place)) ∙ t.others j (outside_fewer h (omega arith));
      }
