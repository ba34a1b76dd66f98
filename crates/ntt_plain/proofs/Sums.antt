-- The loop of a written-out sum.
-- Assumes nothing.
use mathlib.Core.Path.{◌≡◌, sym}
use mathlib.Core.List.{List}
use Prim.Native.Nat.{ℕ, ◌+◌, ◌*◌, ◌%◌, ◌^◌, ◌≤◌, ◌<◌}
use native.Mathlib.Nat.{mod-add-mod, mod-lt, mod-eq_of_lt, mul-suc, mul-zero}
use native.Mathlib.Numerals.{add-one}
use native.Mathlib.Omega.{arith}
use lib.ListN.{length}
use Rattle.maths.specs.Vector.{at}
use Rattle.maths.proofs.Sum.{sum_none, sum_last}
use Rattle.montgomery.proofs.Laws.{product_below}
use Rattle.ntt_plain.specs.Plain.{strided_sum_of, Summable}

-- the sum after j products, the places of the next number and of its power, and room in 64 bits
pub record Summing (x : List ℕ) (first stride count : ℕ) (powers : List ℕ) (step total place power j : ℕ) : Type 0 where
  pub within : j ≤ count
  pub next : place ≡ first + stride * j
  pub next_power : power ≡ step * j % length powers
  pub power_below : power < length powers
  pub sum_so_far : total ≡ strided_sum_of x first stride j powers step
  pub room : total ≤ j * 2 ^ 49

module _ {x : List ℕ} {first stride count : ℕ} {powers : List ℕ} {step : ℕ} (ready : Summable x first stride count powers step) where
  -- before the first product
  pub summing_none : Summing x first stride count powers step 0 first 0 0
  unfolding strided_sum_of
  summing_none =
      record {
        within = omega arith;
        next = rw mul-zero (omega arith);
        next_power = rw mul-zero (sym (mod-eq_of_lt (omega arith)));
        power_below = omega (arith, ready.some_powers);
        sum_so_far = sym (sum_none _);
        room = omega arith;
      }

  -- a product is below 2^49
  pub term_below : (j power : ℕ) → j < count → power < length powers → at x (first + stride * j) * at powers power < 2 ^ 49
  term_below j power h k = product_below {b = 2 ^ 25} {d = 2 ^ 24} (ready.numbers.each _ (ready.places j h)) (ready.factors.each power k)

  -- one more product
  pub summing_more : {total place power j : ℕ} (term after : ℕ) → Summing x first stride count powers step total place power j → j < count
      → term ≡ at x place * at powers power
      → after ≡ (power + step) % length powers
      → Summing x first stride count powers step (total + term) (place + stride) after (j + 1)
  unfolding strided_sum_of
  summing_more {total} {place} {power} {j} term after s h e a =
      let small : term < 2 ^ 49 = rw (e, s.next) (term_below j power h s.power_below) in
      record {
        within = omega arith;
        next = rw (add-one, mul-suc) (omega (arith, s.next));
        next_power = rw (a, s.next_power, mod-add-mod, add-one, mul-suc);
        power_below = rw a (mod-lt (power + step) (omega (arith, s.power_below)));
        sum_so_far = rw (add-one, sum_last, e, s.sum_so_far, s.next, s.next_power);
        room = omega arith;
      }
