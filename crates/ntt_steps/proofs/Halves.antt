-- The two halves: the loops that write them, part by part, and what the transforms of 16 numbers are made of.
-- Assumes nothing.
use mathlib.Core.Path.{◌≡◌, refl, ◌∙◌}
use mathlib.Core.Logic.{◌⊎◌, inl}
use mathlib.Core.List.{List}
use Prim.Native.Nat.{ℕ, ◌+◌, ◌-◌, ◌*◌, ◌≤◌, ◌<◌}
use native.Mathlib.Nat.{mul-mod_left, zero-add}
use native.Mathlib.Decide.{dec_le}
use native.Mathlib.Omega.{arith}
use lib.ListN.{length}
use Rattle.maths.specs.Vector.{at}
use Rattle.maths.specs.Congruence.{Mod}
use Rattle.maths.specs.Transform.{transform_at}
use Rattle.maths.specs.Butterfly.{Butterfly}
use Rattle.maths.proofs.Fourfold.{sixteen_values}
use Rattle.calls.proofs.Written.{last_or_before}
use Rattle.montgomery.specs.Scaled.{unscale, Odd}
use Rattle.ntt_butterflies.specs.Lazy.{ButterflyReady, LazyButterfly}
use Rattle.ntt_steps.specs.Steps.{StepReady, PartValue, Part, Parts, Quarters, SixteenReady, Roots, Sixteen}
use Rattle.ntt_steps.proofs.FourWritten.{FourWritten}

-- what a turn of part p writes
abbrev pub PartTurn : ℕ → ℕ → List ℕ → List ℕ → ℕ → ℕ → ℕ → ℕ → ℕ → ℕ → Type 0
PartTurn q lift roots from p i z₀ z₁ z₂ z₃ =
    LazyButterfly q lift (unscale q (at roots p)) (unscale q (at roots (4 + p))) (unscale q (at roots (2 * p)))
    (at from (16 * p + i)) (at from (64 + (16 * p + i))) (at from (128 + (16 * p + i))) (at from (192 + (16 * p + i))) z₀ z₁ z₂ z₃

-- what a turn of the second half writes
abbrev pub QuarterTurn : ℕ → ℕ → List ℕ → List ℕ → ℕ → ℕ → ℕ → ℕ → ℕ → Type 0
QuarterTurn q lift roots from i z₀ z₁ z₂ z₃ =
    LazyButterfly q lift 1 (unscale q (at roots 4)) 1 (at from i) (at from (64 + i)) (at from (128 + i)) (at from (192 + i)) z₀ z₁ z₂ z₃

-- a bound of the numbers in four blocks is one of all their places
four_below : (limit start size : ℕ) (to : List ℕ) → ((j : ℕ) → j < size → at to (start + j) < limit)
    → ((j : ℕ) → j < size → at to (start + (size + j)) < limit) → ((j : ℕ) → j < size → at to (start + (2 * size + j)) < limit)
    → ((j : ℕ) → j < size → at to (start + (3 * size + j)) < limit) → (i : ℕ) → i < 4 * size → at to (start + i) < limit
four_below limit start size to zeroth first second third i h =
    elim (dec_le size i) [
      | no a ↦ zeroth i (omega arith)
      | yes a ↦ elim (dec_le (2 * size) i) [
        | no b ↦ let e : size + (i - size) ≡ i = omega arith in rw e at (first (i - size) (omega arith))
        | yes b ↦ elim (dec_le (3 * size) i) [
          | no c ↦ let e : 2 * size + (i - 2 * size) ≡ i = omega arith in rw e at (second (i - 2 * size) (omega arith))
          | yes c ↦ let e : 3 * size + (i - 3 * size) ≡ i = omega arith in rw e at (third (i - 3 * size) (omega arith))
        ]
      ]
    ]

module _ {q lift : ℕ} {roots from to : List ℕ} (ready : StepReady q lift roots from to) where
  -- the numbers at the places j, 64 + j, 128 + j and 192 + j go into a butterfly
  pub places_ready : (j : ℕ) → j < 64 → ButterflyReady q lift (at from j) (at from (64 + j)) (at from (128 + j)) (at from (192 + j))
  places_ready j h =
      let below = ready.from_below.each in
      record {
        lifted = ready.lifted;
        a_below = below j (omega arith);
        b_below = below (64 + j) (omega arith);
        c_below = below (128 + j) (omega arith);
        d_below = below (192 + j) (omega arith);
      }

-- a part after its last turn
pub part_all : {q lift : ℕ} {roots from : List ℕ} {p : ℕ} {old to : List ℕ} {i : ℕ} → FourWritten (PartTurn q lift roots from p) (64 * p) 16 old i to → 16 ≤ i
    → Part q lift roots from p old to
part_all {q} {lift} {roots} {from} {p} {old} {to} t h =
    record {
      values = λ j l. (t.each j (omega arith)).values;
      below = four_below (4 * lift) (64 * p) 16 to (λ j l. (t.each j (omega arith)).zeroth_below) (λ j l. (t.each j (omega arith)).first_below)
          (λ j l. (t.each j (omega arith)).second_below) (λ j l. (t.each j (omega arith)).third_below);
      others = t.others;
    }

-- the second half after its last turn
pub quarters_all : {q lift : ℕ} {roots from old to : List ℕ} {i : ℕ} → FourWritten (QuarterTurn q lift roots from) 0 64 old i to → 64 ≤ i
    → Quarters q lift roots from to
quarters_all {q} {lift} {roots} {from} {old} {to} t h =
    let turn : (i : ℕ) → i < 64 → QuarterTurn q lift roots from i (at to i) (at to (64 + i)) (at to (128 + i)) (at to (192 + i)) =
    λ i l. simp zero-add at (t.each i (omega arith)) in
    record {
      values = λ i l. (turn i l).values;
      below = record {
        each = λ i l. rw zero-add at (four_below (4 * lift) 0 64 to (λ j m. (t.each j (omega arith)).zeroth_below) (λ j m. (t.each j (omega arith)).first_below)
            (λ j m. (t.each j (omega arith)).second_below) (λ j m. (t.each j (omega arith)).third_below) i l);
      };
    }

-- the first n parts are done
pub record PartsDone (q lift : ℕ) (roots from old : List ℕ) (n : ℕ) (to : List ℕ) : Type 0 where
  pub within : n ≤ 4
  pub kept : length to ≡ length old
  pub values : (p i : ℕ) → p < n → i < 16 → PartValue q roots from to p i
  pub below : (i : ℕ) → i < 64 * n → at to i < 4 * lift

-- before the first part
pub parts_none : (q lift : ℕ) (roots from old : List ℕ) → PartsDone q lift roots from old 0 old
parts_none q lift roots from old =
    record { within = omega arith; kept = refl; values = λ p i h l. absurd (omega arith); below = λ i h. absurd (omega arith) }

-- a part that was done stays as it was
part_stays : (q : ℕ) (roots from : List ℕ) (p i n : ℕ) (to new : List ℕ) → p < n → i < 16 → ((k : ℕ) → (k < 64 * n) ⊎ (64 * n + 64 ≤ k) → at new k ≡ at to k)
    → PartValue q roots from to p i → PartValue q roots from new p i
part_stays q roots from p i n to new h l same value =
    rw (
      same (64 * p + i) (inl (omega arith)),
      same (64 * p + (16 + i)) (inl (omega arith)),
      same (64 * p + (32 + i)) (inl (omega arith)),
      same (64 * p + (48 + i)) (inl (omega arith)),
    ) value

-- the next part may begin
pub parts_next : {q lift : ℕ} {roots from old : List ℕ} {n : ℕ} {to : List ℕ} → StepReady q lift roots from old → PartsDone q lift roots from old n to
    → StepReady q lift roots from to
parts_next ready t =
    record {
      lifted = ready.lifted;
      roots_size = ready.roots_size;
      roots_below = ready.roots_below;
      from_size = ready.from_size;
      from_below = ready.from_below;
      to_size = t.kept ∙ ready.to_size;
    }

-- one more part
pub parts_more : {q lift : ℕ} {roots from old : List ℕ} {n : ℕ} {to : List ℕ} (new : List ℕ) → PartsDone q lift roots from old n to → n < 4
    → length new ≡ length to → Part q lift roots from n to new → PartsDone q lift roots from old (n + 1) new
parts_more {q} {lift} {roots} {from} {old} {n} {to} new t more size part =
    record {
      within = omega arith;
      kept = size ∙ t.kept;
      values = λ p i h l. last_or_before h (λ e. rw e (part.values i l)) (λ b. part_stays q roots from p i n to new b l part.others (t.values p i b l));
      below = λ i h.
          elim (dec_le (64 * n) i) [
            | yes a ↦ let e : 64 * n + (i - 64 * n) ≡ i = omega arith in rw e at (part.below (i - 64 * n) (omega arith))
            | no b ↦ rw (part.others i (inl (omega arith))) (t.below i (omega arith))
          ];
    }

-- after the last part
pub parts_all : {q lift : ℕ} {roots from old : List ℕ} {n : ℕ} {to : List ℕ} → PartsDone q lift roots from old n to → 4 ≤ n → Parts q lift roots from to
parts_all t h = record { values = λ p i a b. t.values p i (omega arith) b; below = record { each = λ i l. t.below i (omega arith) } }

-- 16 numbers of a column, which are 16 places apart
module _ {q : ℕ} {roots from half to : List ℕ} {first second : ℕ} (some : 0 < q) (narrow : Parts q first roots from half)
    (wide : Quarters q second roots half to) (c : ℕ) (c_below : c < 16) where
  -- column c of a list
  column : List ℕ → ℕ → ℕ
  column xs j = at xs (16 * j + c)

  -- the butterflies of the first half in this column
  narrow_column : (p : ℕ) → p < 4
      → Butterfly q (unscale q (at roots p)) (unscale q (at roots (4 + p))) (unscale q (at roots (2 * p)))
      (column from p) (column from (4 + p)) (column from (8 + p)) (column from (12 + p))
      (column half (4 * p)) (column half (4 * p + 1)) (column half (4 * p + 2)) (column half (4 * p + 3))
  unfolding column
  narrow_column p h =
      let a₁ : 16 * (4 + p) + c ≡ 64 + (16 * p + c) = omega arith in
      let a₂ : 16 * (8 + p) + c ≡ 128 + (16 * p + c) = omega arith in
      let a₃ : 16 * (12 + p) + c ≡ 192 + (16 * p + c) = omega arith in
      let b₀ : 16 * (4 * p) + c ≡ 64 * p + c = omega arith in
      let b₁ : 16 * (4 * p + 1) + c ≡ 64 * p + (16 + c) = omega arith in
      let b₂ : 16 * (4 * p + 2) + c ≡ 64 * p + (32 + c) = omega arith in
      let b₃ : 16 * (4 * p + 3) + c ≡ 64 * p + (48 + c) = omega arith in
      rw (a₁, a₂, a₃, b₀, b₁, b₂, b₃) (narrow.values p c h c_below)

  -- and those of the second half
  wide_column : (j : ℕ) → j < 4
      → Butterfly q 1 (unscale q (at roots 4)) 1 (column half j) (column half (4 + j)) (column half (8 + j)) (column half (12 + j))
      (column to j) (column to (4 + j)) (column to (8 + j)) (column to (12 + j))
  unfolding column
  wide_column j h =
      let a₁ : 16 * (4 + j) + c ≡ 64 + (16 * j + c) = omega arith in
      let a₂ : 16 * (8 + j) + c ≡ 128 + (16 * j + c) = omega arith in
      let a₃ : 16 * (12 + j) + c ≡ 192 + (16 * j + c) = omega arith in
      simp (a₁, a₂, a₃) (wide.values (16 * j + c) (omega arith))

  -- together they transform the column
  column_values : (v : ℕ) → Roots q v roots → (i : ℕ) → i < 16 → Mod q (at to (16 * i + c)) (transform_at 16 v (λ j. at from (16 * j + c)) i)
  unfolding column
  column_values v powers =
      sixteen_values v some powers.minus (λ p. unscale q (at roots p)) (λ p. unscale q (at roots (4 + p))) (λ p. unscale q (at roots (2 * p)))
      (column from) (column half) (column to) (λ p h. powers.powers p (omega arith)) (λ p h. powers.powers (4 + p) (omega arith))
      (λ p h. powers.powers (2 * p) (omega arith)) (powers.powers 4 (omega arith)) narrow_column wide_column

-- both halves
pub halves : {q : ℕ} {roots from half to : List ℕ} → 0 < q → Parts q (2 * q) roots from half → Quarters q (8 * q) roots half to → Sixteen q roots from to
halves some narrow wide =
    record {
      values = λ v powers i c h k. column_values some narrow wide c k v powers i h;
      below = record { each = λ i h. omega (arith, wide.below.each i h) };
    }

-- the first half may begin
pub narrow_ready : {q : ℕ} {roots from to half : List ℕ} → Odd q → SixteenReady q roots from to → length half ≡ 256 → StepReady q (2 * q) roots from half
narrow_ready {q} odd ready size =
    record {
      lifted = record {
        multiple = mul-mod_left 2 q;
        two_q = omega arith;
        room = omega (arith, odd.small);
      };
      roots_size = ready.roots_size;
      roots_below = ready.roots_below;
      from_size = ready.from_size;
      from_below = ready.from_below;
      to_size = size;
    }

-- and the second
pub wide_ready : {q : ℕ} {roots from to half : List ℕ} → Odd q → SixteenReady q roots from to → length half ≡ 256 → Parts q (2 * q) roots from half
    → StepReady q (8 * q) roots half to
wide_ready {q} odd ready size narrow =
    record {
      lifted = record {
        multiple = mul-mod_left 8 q;
        two_q = omega arith;
        room = omega (arith, odd.small);
      };
      roots_size = ready.roots_size;
      roots_below = ready.roots_below;
      from_size = size;
      from_below = record { each = λ i h. omega (arith, narrow.below.each i h) };
      to_size = ready.to_size;
    }
