-- A vector is sent as it reads: zeros after its end, up to the end of a row, change nothing.
-- Assumes nothing.
use mathlib.Core.Path.{◌≡◌, sym, ◌∙◌}
use mathlib.Core.List.{List}
use Prim.Native.Nat.{ℕ, ◌+◌, ◌-◌, ◌*◌, ◌≤◌, ◌<◌}
use native.Mathlib.Nat.{add-sub_of_le}
use native.Mathlib.Decide.{dec_lt}
use native.Mathlib.Omega.{arith}
use lib.ListN.{length, take, replicate, length-take, length-replicate, get_or-replicate}
use lib.Seq.{get_or-take}
use Rattle.maths.specs.Vector.{at, AllBelow}
use Rattle.maths.specs.Transform.{send}
use Rattle.maths.proofs.Vector.{at_past, equal_by_place}
use Rattle.maths.proofs.Congruence.{mod_eq}
use Rattle.maths.proofs.Convolution.{transform_mod}
use Rattle.maths.proofs.Transform.{send_length, send_at}
use Rattle.calls.specs.Region.{over}
use Rattle.calls.proofs.Region.{over_inside, over_outside}

-- n zeros
abbrev zeros : ℕ → List ℕ
zeros n = replicate n 0

-- vectors that read the same are sent alike
send_same : (q ρ δ w : ℕ) (xs ys : List ℕ) → ((j : ℕ) → at xs j ≡ at ys j) → send q ρ δ w xs ≡ send q ρ δ w ys
send_same q ρ δ w xs ys same =
    equal_by_place (δ * ρ) _ _ (send_length q ρ δ w xs) (send_length q ρ δ w ys)
    (λ i h. send_at q ρ δ w xs i h ∙ (transform_mod (δ * ρ) w (at xs) (at ys) _ (λ j l. mod_eq (same j))).same ∙ sym (send_at q ρ δ w ys i h))

-- xs with zeros from place n to place s
module _ (xs : List ℕ) (n s : ℕ) (front : n ≤ s) (fits : s ≤ length xs) where
  zeros_fit : n + length (zeros (s - n)) ≤ length xs
  zeros_fit = rw length-replicate (omega arith)

  -- a number before place n is as it was
  before : (j : ℕ) → j < n → at (over xs n (zeros (s - n))) j ≡ at xs j
  before j h = over_outside xs n (zeros (s - n)) zeros_fit j 0 (λ l k e. omega arith)

  -- a number from place n on is zero
  after : (j : ℕ) → n ≤ j → j < s → at (over xs n (zeros (s - n))) j ≡ 0
  after j low high =
      let inside : j - n < s - n = omega arith in
      let zero-at : at (over xs n (zeros (s - n))) (n + (j - n)) ≡ 0 = over_inside xs n (zeros (s - n)) zeros_fit (j - n) 0 (rw length-replicate inside)
      ∙ get_or-replicate (s - n) (j - n) 0 0 inside in
      rw (add-sub_of_le low) at zero-at

  -- the first s numbers read as the first n of xs
  padded_at : (j : ℕ) → at (take s (over xs n (zeros (s - n)))) j ≡ at (take n xs) j
  padded_at j = go (dec_lt j n) (dec_lt j s)
    where
      go : Dec (j < n) → Dec (j < s) → at (take s (over xs n (zeros (s - n)))) j ≡ at (take n xs) j
      go (yes h) k = get_or-take s _ j 0 (omega arith) ∙ before j h ∙ sym (get_or-take n xs j 0 h)
      go (no h) (yes k) = get_or-take s _ j 0 k ∙ after j (omega arith) k ∙ sym (at_past (take n xs) j (rw length-take (omega arith)))
      go (no h) (no k) = at_past (take s _) j (rw length-take (omega arith)) ∙ sym (at_past (take n xs) j (rw length-take (omega arith)))

  -- and are sent alike
  pub padded_send : (q ρ δ w : ℕ) → send q ρ δ w (take s (over xs n (zeros (s - n)))) ≡ send q ρ δ w (take n xs)
  padded_send q ρ δ w = send_same q ρ δ w _ (take n xs) padded_at

  -- where the first n numbers are residues, the first s are
  pub padded_below : (q : ℕ) → 0 < q → AllBelow q n xs → AllBelow q s (over xs n (zeros (s - n)))
  padded_below q some below =
      record {
        each = λ j h. elim (dec_lt j n) [ yes k ↦ rw (before j k) (below.each j k) | no k ↦ rw (after j (omega arith) h) some ];
      }
