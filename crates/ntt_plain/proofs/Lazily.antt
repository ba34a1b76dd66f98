-- Steps whose numbers are kept below 2 · q, each divided by 2^32 on the way: the loop that writes them, that such divisions go through columns, twist and
-- rows as a factor, and that the settling at the end makes up for them.
-- Assumes nothing.
use mathlib.Core.Path.{◌≡◌, sym, ap, ◌∙◌}
use mathlib.Core.Logic.{inl, inr}
use mathlib.Core.List.{List}
use Prim.Native.Nat.{ℕ, ◌+◌, ◌-◌, ◌*◌, ◌/◌, ◌%◌, ◌^◌, ◌≤◌, ◌<◌}
use native.Mathlib.Nat.{eq-zero-or-pos, zero-add, zero-mul, one-mul, mod-mod, mod-lt, le_of_eq}
use native.Mathlib.Omega.{arith}
use lib.ListN.{length, set}
use Rattle.maths.specs.Vector.{at, tabulate}
use Rattle.maths.specs.Congruence.{Mod}
use Rattle.maths.specs.Transform.{send, recover}
use Rattle.maths.proofs.Vector.{at_past, tabulate_length, tabulate_at, equal_by_place}
use Rattle.maths.proofs.Sum.{sum_mul_right}
use Rattle.maths.proofs.Congruence.{mod_refl, mod_eq, mod_sym, mod_trans, mod_mul, mod_sum, mod_remainder}
use Rattle.calls.proofs.Written.{Written, written_more}
use Rattle.montgomery.specs.Scaled.{unscale, Odd}
use Rattle.montgomery.proofs.Laws.{back, unscale_back, unscale_cong, unscale_product, unscale_remainder, unscale_power}
use Rattle.montgomery.proofs.Laws.{four_scales, unscale_fourfold}
use Rattle.ntt_plain.specs.Plain.{strided_sum_of, columns, twisted, rows, Lazily}
use Rattle.ntt_plain.proofs.Steps.{columns_length, twisted_length, rows_length, scaled_length, columns_at, twisted_at, rows_at, scaled_at}
use Rattle.ntt_plain.proofs.Steps.{scaled, RootPowers, rows_sent, columns_recovered}

-- what is written at place j: below 2 · q, and congruent to the exact number there divided by 2^32
pub record Lazy (q : ℕ) (exact : List ℕ) (j r : ℕ) : Type 0 where
  pub below : r < 2 * q
  pub value : Mod q r (unscale q (at exact j))

-- the first i numbers of new are written, and the others are those of old
abbrev pub LazilyWritten : ℕ → List ℕ → List ℕ → ℕ → List ℕ → Type 0
LazilyWritten q exact old i new = Written (Lazy q exact) 0 (length old) old i new

module _ {q : ℕ} {exact old : List ℕ} {i : ℕ} {new : List ℕ} (w : LazilyWritten q exact old i new) where
  -- a turn writes the next number
  lazily_more : {r : ℕ} → i < length old → Lazy q exact i r → LazilyWritten q exact old (i + 1) (set new i r)
  lazily_more {r} h made = written_more w i r (sym (zero-add i)) h (omega arith) made

  -- after the last turn
  pub lazily_all : length old ≡ length exact → length old ≤ i → Lazily q exact new
  lazily_all size h =
      let each : (j : ℕ) → j < length exact → Lazy q exact j (at new j) = λ j l. rw zero-add at (w.each j (omega arith)) in
      record {
        kept = w.kept ∙ size;
        below = record { each = λ j l. (each j (omega (arith, w.kept))).below };
        values = λ j l. (each j l).value;
      }

-- the long step at a place of columns or rows
lazy_sum : {q j r : ℕ} {exact : List ℕ} (s : ℕ) → at exact j ≡ s % q → r % q ≡ unscale q s → r < 2 * q → Lazy q exact j r
lazy_sum {q} {j} {exact = exact} s e value below =
    let same : unscale q (at exact j) ≡ unscale q s = unscale_cong (mod_trans (mod_eq e) (mod_remainder q s)) in
    record { below = below; value = rw same (record { same = value ∙ sym (unscale_remainder q s) }) }

-- the product at a place of the twist
lazy_product : {q j r : ℕ} {exact : List ℕ} (a w : ℕ) → at exact j ≡ a * w % q → r % q ≡ a * unscale q w % q → r < 2 * q → Lazy q exact j r
lazy_product {q} a w e value below = lazy_sum (a * w) e (value ∙ sym (unscale_product q a w)) below

-- a turn of each loop
pub columns_more : {q i r : ℕ} {old new : List ℕ} (ρ m s : ℕ) (powers x : List ℕ) → LazilyWritten q (columns q ρ m (length old) powers x) old i new
    → i < length old → s ≡ strided_sum_of x (i % ρ) ρ m powers (i / ρ * ρ) → r % q ≡ unscale q s → r < 2 * q
    → LazilyWritten q (columns q ρ m (length old) powers x) old (i + 1) (set new i r)
columns_more {q} {i} {old = old} ρ m s powers x w h e value below =
    lazily_more w h (lazy_sum s (columns_at q ρ m (length old) powers x i h ∙ ap (λ (t : ℕ). t % q) (sym e)) value below)

pub rows_more : {q i r : ℕ} {old new : List ℕ} (ρ δ s : ℕ) (powers x : List ℕ) → LazilyWritten q (rows q ρ δ powers x) old i new
    → length old ≡ length x → i < length x → s ≡ strided_sum_of x (i / ρ * ρ) 1 ρ powers (i % ρ * δ) → r % q ≡ unscale q s → r < 2 * q
    → LazilyWritten q (rows q ρ δ powers x) old (i + 1) (set new i r)
rows_more {q} {i} ρ δ s powers x w size h e value below =
    lazily_more w (omega arith) (lazy_sum s (rows_at q ρ δ powers x i h ∙ ap (λ (t : ℕ). t % q) (sym e)) value below)

pub twisted_more : {q i r : ℕ} {old new : List ℕ} (ρ y : ℕ) (powers : List ℕ) → LazilyWritten q (twisted q ρ powers old) old i new
    → i < length old → y ≡ i / ρ * (i % ρ) → r % q ≡ at new i * unscale q (at powers y) % q → r < 2 * q
    → LazilyWritten q (twisted q ρ powers old) old (i + 1) (set new i r)
twisted_more {q} {i} {old = old} {new} ρ y powers w h e value below =
    let exact : at (twisted q ρ powers old) i ≡ at new i * at powers y % q = rw (w.others i (inr (omega arith)), e) (twisted_at q ρ powers old i h) in
    lazily_more w h (lazy_product (at new i) (at powers y) exact value below)

-- each number of ys is congruent to that of xs times f
record Times (q f : ℕ) (xs ys : List ℕ) : Type 0 where
  size : length ys ≡ length xs
  each : (i : ℕ) → Mod q (at ys i) (at xs i * f)

-- the places of xs are enough: past them both have 0
times_of : {q f : ℕ} {xs ys : List ℕ} → length ys ≡ length xs → ((i : ℕ) → i < length xs → Mod q (at ys i) (at xs i * f)) → Times q f xs ys
times_of {q} {f} {xs} {ys} same value =
    record {
      size = same;
      each = λ i.
          elim (eq-zero-or-pos (length xs - i)) [
            | inl past ↦ rw (at_past xs i (omega arith), at_past ys i (omega arith), zero-mul) (mod_refl 0)
            | inr h ↦ value i (omega arith)
          ];
    }

-- two factors one after the other
times_trans : {q f g : ℕ} {xs ys zs : List ℕ} → Times q f xs ys → Times q g ys zs → Times q (f * g) xs zs
times_trans {q} {f} {g} {xs} {ys} {zs} s t =
    record {
      size = t.size ∙ s.size;
      each = λ i.
          let turned : at xs i * f * g ≡ at xs i * (f * g) = omega arith in
          mod_trans (t.each i) (mod_trans (mod_mul (s.each i) (mod_refl g)) (mod_eq turned));
    }

-- a step's numbers are the exact ones times the inverse of 2^32
lazily_times : {q : ℕ} {exact got : List ℕ} → Lazily q exact got → Times q (back q) exact got
lazily_times {q} {exact} made = times_of made.kept (λ i h. mod_trans (made.values i h) (unscale_back q (at exact i)))

-- the remainders of numbers that differ by a factor
remainder_times : {q b : ℕ} (f a : ℕ) → Mod q b (a * f) → Mod q (b % q) (a % q * f)
remainder_times {q} {b} f a h = mod_trans (mod_remainder q b) (mod_trans h (mod_mul (mod_sym (mod_remainder q a)) (mod_refl f)))

-- a factor of all numbers goes through each step
module _ {q f : ℕ} {xs ys : List ℕ} (t : Times q f xs ys) (powers : List ℕ) where
  sum_times : (first stride count step : ℕ) → Mod q (strided_sum_of ys first stride count powers step) (strided_sum_of xs first stride count powers step * f)
  unfolding strided_sum_of
  sum_times first stride count step =
      mod_trans
      (mod_sum count _ (λ j. at xs (first + stride * j) * at powers (step * j % length powers) * f)
      (λ j h.
      let p = at powers (step * j % length powers) in
      let turned : at xs (first + stride * j) * f * p ≡ at xs (first + stride * j) * p * f = omega arith in
      mod_trans (mod_mul (t.each (first + stride * j)) (mod_refl p)) (mod_eq turned)))
      (mod_eq (sum_mul_right count f _))

  columns_times : (ρ m places : ℕ) → Times q f (columns q ρ m places powers xs) (columns q ρ m places powers ys)
  columns_times ρ m places =
      times_of (columns_length q ρ m places powers ys ∙ sym (columns_length q ρ m places powers xs))
      (λ i h.
      let within : i < places = rw columns_length at h in
      rw (columns_at q ρ m places powers xs i within, columns_at q ρ m places powers ys i within) (remainder_times f _ (sum_times _ _ _ _)))

  twisted_times : (ρ : ℕ) → Times q f (twisted q ρ powers xs) (twisted q ρ powers ys)
  twisted_times ρ =
      times_of (twisted_length q ρ powers ys ∙ t.size ∙ sym (twisted_length q ρ powers xs))
      (λ i h.
      let within : i < length xs = rw twisted_length at h in
      let p = at powers (i / ρ * (i % ρ)) in
      let turned : at xs i * f * p ≡ at xs i * p * f = omega arith in
      rw (twisted_at q ρ powers xs i within, twisted_at q ρ powers ys i (omega (arith, t.size)))
      (remainder_times f (at xs i * p) (mod_trans (mod_mul (t.each i) (mod_refl p)) (mod_eq turned))))

  rows_times : (ρ δ : ℕ) → Times q f (rows q ρ δ powers xs) (rows q ρ δ powers ys)
  rows_times ρ δ =
      times_of (rows_length q ρ δ powers ys ∙ t.size ∙ sym (rows_length q ρ δ powers xs))
      (λ i h.
      let within : i < length xs = rw rows_length at h in
      rw (rows_at q ρ δ powers xs i within, rows_at q ρ δ powers ys i (omega (arith, t.size))) (remainder_times f _ (sum_times _ _ _ _)))

-- the remainder of 2^64 is a residue
pub scale_below : {q s : ℕ} → Odd q → s ≡ 2 ^ 64 % q → s < q
scale_below {q} o e = rw e (mod-lt (2 ^ 64) (omega (arith, o.some)))

-- the factor of the settling: four products with the remainder of 2^64, each of which is a product with 2^32
raised : {q s r : ℕ} (a : ℕ) → Odd q → s ≡ 2 ^ 64 % q → r % q ≡ a * unscale q s % q → Mod q r (a * 2 ^ 32)
raised {q} {s} a o e h =
    let one : unscale q s ≡ 2 ^ 32 % q = rw e (unscale_power o (2 ^ 32)) in
    mod_trans (record { same = h }) (mod_mul (mod_refl a) (mod_trans (mod_eq one) (mod_remainder q (2 ^ 32))))

-- one product more, with what is congruent to z already
raised_more : {q s a z r : ℕ} → Odd q → s ≡ 2 ^ 64 % q → Mod q a z → r % q ≡ a * unscale q s % q → Mod q r (z * 2 ^ 32)
raised_more {a = a} o e h l = mod_trans (raised a o e l) (mod_mul h (mod_refl (2 ^ 32)))

-- all four
pub settling : {q s d : ℕ} (e a b c : ℕ) → Odd q → s ≡ 2 ^ 64 % q → a % q ≡ e * unscale q s % q → b % q ≡ a * unscale q s % q
    → c % q ≡ b * unscale q s % q → d ≡ c * unscale q s % q → (d < q) × Mod q d (e * 2 ^ 128)
settling {q} {s} {d} e a b c o same first second third fourth =
    let last : d % q ≡ c * unscale q s % q = rw fourth (mod-mod _ q) in (
      rw fourth (mod-lt _ (omega (arith, o.some))),
      mod_trans (raised_more o same (raised_more o same (raised_more o same (raised e o same first) second) third) last) (mod_eq (sym (four_scales e))),
    )

-- the settling makes up for three steps
settled : {q by : ℕ} {xs ys : List ℕ} (e : ℕ) → Odd q → Mod q by (e * 2 ^ 128) → Times q (back q * back q * back q) xs ys
    → tabulate (length ys) (λ i. at ys i * unscale q by % q) ≡ scaled q e xs
settled {q} {by} {xs} {ys} e o factor t =
    equal_by_place (length xs) _ _ (tabulate_length (length ys) _ ∙ t.size) (scaled_length q e xs)
    (λ i h.
    let turned : at xs i * e ≡ e * at xs i = omega arith in
    tabulate_at (length ys) _ i (omega (arith, t.size))
    ∙ (mod_trans (mod_mul (t.each i) (mod_refl (unscale q by))) (mod_trans (unscale_fourfold o (at xs i) by e factor) (mod_eq turned))).same
    ∙ sym (scaled_at q e xs i h))

-- rows are residues
scaled_rows : (q ρ δ : ℕ) (powers x : List ℕ) → scaled q 1 (rows q ρ δ powers x) ≡ rows q ρ δ powers x
scaled_rows q ρ δ powers x =
    equal_by_place (length x) _ _ (scaled_length q 1 _ ∙ rows_length q ρ δ powers x) (rows_length q ρ δ powers x)
    (λ i h. rw (scaled_at q 1 (rows q ρ δ powers x) i (rw rows_length h), one-mul, rows_at q ρ δ powers x i h, mod-mod))

module _ {q ρ δ w by : ℕ} {powers a b c d : List ℕ} (o : Odd q) (root : RootPowers q ρ δ w powers) (m places : ℕ) (x : List ℕ) (fits : m ≤ δ) where
  -- columns, twist and rows, settled, are what 003 stores of m rows
  pub sent_settled : length x ≡ m * ρ → places ≡ δ * ρ → Mod q by (1 * 2 ^ 128)
      → Lazily q (columns q ρ m places powers x) a → Lazily q (twisted q ρ powers a) b → Lazily q (rows q ρ δ powers b) c
      → d ≡ tabulate (length c) (λ i. at c i * unscale q by % q) → d ≡ send q ρ δ w x
  sent_settled long full factor first second third last =
      let twist = times_trans (twisted_times (lazily_times first) powers ρ) (lazily_times second) in
      last
      ∙ settled 1 o factor (times_trans (rows_times twist powers ρ δ) (lazily_times third))
      ∙ scaled_rows q ρ δ powers _
      ∙ ap (λ (n : ℕ). rows q ρ δ powers (twisted q ρ powers (columns q ρ m n powers x))) full
      ∙ rows_sent root m x fits (le_of_eq long)

  -- rows, twist and columns, settled, are e times the first m rows of what was stored
  pub recovered_settled : (e : ℕ) → length x ≡ δ * ρ → places ≡ m * ρ → Mod q by (e * 2 ^ 128)
      → Lazily q (rows q ρ δ powers x) a → Lazily q (twisted q ρ powers a) b → Lazily q (columns q ρ δ places powers b) c
      → d ≡ tabulate (length c) (λ i. at c i * unscale q by % q) → d ≡ recover q ρ δ w e (m * ρ) x
  recovered_settled e long front factor first second third last =
      let twist = times_trans (twisted_times (lazily_times first) powers ρ) (lazily_times second) in
      last
      ∙ settled e o factor (times_trans (columns_times twist powers ρ δ places) (lazily_times third))
      ∙ ap (λ (n : ℕ). scaled q e (columns q ρ δ n powers (twisted q ρ powers (rows q ρ δ powers x)))) front
      ∙ columns_recovered root m e x fits long
