-- Two lists compared entry by entry: the differences found are none exactly where the lists have the same numbers.
-- Assumes nothing.
use mathlib.Core.Path.{◌≡◌, refl, sym, ap, ◌∙◌}
use mathlib.Core.Bool.{Bool, true, false, ◌&&◌}
use mathlib.Core.List.{List, [], ◌∷◌}
use Prim.Native.Nat.{ℕ, ◌+◌, ◌*◌, ◌≤◌}
use native.Mathlib.Omega.{arith}
use borrow.Author.Tests.{eqb-true, eqb-false, eq-eqb, ne_eqb}
use lib.Bits.{bit_or, bit_xor, bit_and, or_zero_l, or_add_and, xor_add_and, xor_self, and_le_l, and_le_r}
use lib.Dec.{eqb}
use lib.ListN.{length}
use Rattle.scheme.specs.Exchange.{same}

-- a sum that is no larger than its second part
none_first : (o n a b : ℕ) → o + n ≡ a + b → n ≤ b → o ≡ 0 → a ≡ 0
none_first o n a b e h z = omega arith

-- or than its first part
none_second : (o n a b : ℕ) → o + n ≡ a + b → n ≤ a → o ≡ 0 → b ≡ 0
none_second o n a b e h z = omega arith

-- twice a number that is no larger than either part
both_equal : (o n a b : ℕ) → o + n * 2 ≡ a + b → n ≤ a → n ≤ b → o ≡ 0 → a ≡ b
both_equal o n a b e h k z = omega arith

module _ (difference a b : ℕ) where
  -- a further pair of numbers adds no difference where they are equal
  equal_none : difference ≡ 0 → a ≡ b → bit_or difference (bit_xor a b) ≡ 0
  equal_none d e = ap (λ (n : ℕ). bit_or n (bit_xor a b)) d ∙ or_zero_l (bit_xor a b) ∙ ap (λ (n : ℕ). bit_xor n b) e ∙ xor_self b

  -- what was found stays, and unequal numbers add to it
  none_found : bit_or difference (bit_xor a b) ≡ 0 → (difference ≡ 0) × (a ≡ b)
  none_found z =
      let sum = or_add_and difference (bit_xor a b) in (
        none_first _ _ difference (bit_xor a b) sum (and_le_r difference (bit_xor a b)) z,
        both_equal (bit_xor a b) (bit_and a b) a b (xor_add_and a b) (and_le_l a b) (and_le_r a b)
            (none_second _ _ difference (bit_xor a b) sum (and_le_l difference (bit_xor a b)) z),
      )

  -- as tests
  difference_told : eqb (bit_or difference (bit_xor a b)) 0 ≡ eqb difference 0 && eqb a b
  difference_told = picked (eqb difference 0) (eqb a b) refl refl
    where
      picked : (s t : Bool) → eqb difference 0 ≡ s → eqb a b ≡ t → eqb (bit_or difference (bit_xor a b)) 0 ≡ s && t
      picked true true e f = eq-eqb _ 0 (equal_none (eqb-true difference 0 e) (eqb-true a b f))
      picked true false e f = ne_eqb _ 0 (λ z. eqb-false a b f (none_found z).1)
      picked false t e f = ne_eqb _ 0 (λ z. eqb-false difference 0 e (none_found z).0)

and_assoc : (a b c : Bool) → a && b && c ≡ a && (b && c)
and_assoc true b c = refl
and_assoc false b c = refl

and_true : (a : Bool) → a && true ≡ a
and_true true = refl
and_true false = refl

-- between two turns: the differences found so far, and those of the entries that are left, tell whether the lists are the same
pub record Compared (x y left-x left-y : List ℕ) (difference : ℕ) : Type 0 where
  pub sizes : length left-x ≡ length left-y
  pub told : eqb difference 0 && same left-x left-y ≡ same x y

-- two lists of no entries are the same
none_left : (xs ys : List ℕ) → length xs ≡ 0 → length ys ≡ 0 → same xs ys ≡ true
unfolding same
none_left [] [] h k = refl
none_left [] (y ∷ ys) h k = absurd (omega arith)
none_left (x ∷ xs) ys h k = absurd (omega arith)

module _ {x y left-x left-y : List ℕ} where
  -- before the first turn
  pub compared_none : length x ≡ length y → left-x ≡ x → left-y ≡ y → Compared x y left-x left-y 0
  compared_none h e f = rw (e, f) (record { sizes = h; told = refl })

  module _ {difference : ℕ} (r : Compared x y left-x left-y difference) where
    -- a turn takes one entry of each
    pub compared_more : {a b : ℕ} {after-x after-y : List ℕ} → left-x ≡ a ∷ after-x → left-y ≡ b ∷ after-y
        → Compared x y after-x after-y (bit_or difference (bit_xor a b))
    unfolding same
    compared_more {a} {b} {after-x} {after-y} e f =
        let rest : Bool = same after-x after-y in
        let whole = rw (e, f) at r.told in
        let sizes = rw (e, f) at r.sizes in
        record {
          sizes = omega arith;
          told = ap (λ (t : Bool). t && rest) (difference_told difference a b) ∙ and_assoc (eqb difference 0) (eqb a b) rest ∙ whole;
        }

    -- after the last turn
    pub compared_all : length left-x ≡ 0 → eqb difference 0 ≡ same x y
    compared_all e =
        let ended = none_left left-x left-y e (sym r.sizes ∙ e) in
        sym (and_true (eqb difference 0)) ∙ ap (λ (t : Bool). eqb difference 0 && t) (sym ended) ∙ r.told
