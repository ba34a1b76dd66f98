-- Numbers that are brought into scaled form and then sent: they may be sent, and what comes of it are scaled forms.
-- Assumes nothing.
use mathlib.Core.Path.{◌≡◌, sym, ap, ◌∙◌}
use mathlib.Core.List.{List, map, ◌++◌}
use Prim.Native.Nat.{ℕ, ◌-◌, ◌*◌, ◌%◌, ◌^◌, ◌≤◌}
use native.Mathlib.Nat.{sub-zero, mod-lt}
use native.Mathlib.Omega.{arith}
use lib.ListN.{length, take, drop, length-map}
use lib.Seq.{length-take-le}
use Rattle.maths.specs.Vector.{at, tabulate, AllBelow}
use Rattle.maths.proofs.Vector.{map_at, tabulate_unique}
use Rattle.maths.proofs.Congruence.{mod_refl, mod_mul, mod_remainder}
use Rattle.calls.specs.Region.{over}
use Rattle.calls.proofs.Region.{over_lent}
use Rattle.calls.proofs.Parts.{front}
use Rattle.sets.specs.declared.Parameters.{Parameters}
use Rattle.sets.specs.Table.{Listed}
use Rattle.sets.proofs.Rules.{listed_rules}
use Rattle.montgomery.specs.Scaled.{scale, unscale, Odd}
use Rattle.montgomery.proofs.Laws.{unscale_power}
use Rattle.ntt_products.specs.Stored.{sent}
use Rattle.ntt_products.specs.Placed.{Placed, SentScaled}
use Rattle.ntt_products.proofs.Front.{front_placed}
use Rattle.ntt_products.proofs.Scaling.{send_scaled}
use Rattle.ntt_products.proofs.Sizes.{rules_odd}
use Rattle.ntt_products.proofs.Vectors.{sent_placed}

-- products with the number that 2^64 is the scaled form of are scaled forms
scaled_numbers : {q : ℕ} → Odd q → (by : ℕ) (xs : List ℕ) → by ≡ 2 ^ 64 % q → tabulate (length xs) (λ i. at xs i * unscale q by % q) ≡ map (scale q) xs
unfolding scale
scaled_numbers {q} o by xs e =
    let one : unscale q by ≡ 2 ^ 32 % q = ap (unscale q) e ∙ unscale_power o (2 ^ 32) in
    sym (tabulate_unique (length xs) _ (map (scale q) xs) (length-map xs (scale q))
    (λ i h. map_at (scale q) xs i h ∙ rw one (sym (mod_mul (mod_refl (at xs i)) (mod_remainder q (2 ^ 32))).same)))

-- a lent front, of which each number was multiplied so
pub scaled_front : {q : ℕ} → Odd q → (n by : ℕ) (xs ys : List ℕ) → by ≡ 2 ^ 64 % q → n ≤ length xs
    → ys ≡ tabulate (length (take (n - 0) (drop 0 xs))) (λ i. at (take (n - 0) (drop 0 xs)) i * unscale q by % q)
    → take 0 xs ++ (ys ++ drop (n - 0) (drop 0 xs)) ≡ over xs 0 (map (scale q) (take n xs))
scaled_front {q} o n by xs ys e fits made =
    let is : ys ≡ map (scale q) (take n xs) = made ∙ rw sub-zero (scaled_numbers o by (take n xs) e) in
    let size : length ys ≡ n = ap length is ∙ length-map (take n xs) (scale q) ∙ length-take-le n xs fits in
    over_lent xs 0 ys n (omega arith) ∙ ap (over xs 0) is

module _ (p : Parameters) (known : Listed p) (i n : ℕ) (xs : List ℕ) (placed : Placed p i n xs) where
  -- there are n numbers in scaled form
  scaled_size : length (map (scale p.q) (take n xs)) ≡ n
  scaled_size = length-map (take n xs) (scale p.q) ∙ length-take-le n xs (omega (arith, placed.size, placed.inside))

  -- each is a residue
  scaled_below : AllBelow p.q (length (map (scale p.q) (take n xs))) (map (scale p.q) (take n xs))
  unfolding scale
  scaled_below =
      record {
        each = λ k h. rw (map_at (scale p.q) (take n xs) k (omega (arith, length-map (take n xs) (scale p.q))))
            (mod-lt _ (omega (arith, (listed_rules p known).prime.above)));
      }

  -- the front in scaled form may be sent
  pub scaled_placed : Placed p i n (over xs 0 (map (scale p.q) (take n xs)))
  scaled_placed =
      rw scaled_size at
      (front_placed p i xs (map (scale p.q) (take n xs)) placed.size (omega (arith, scaled_size, placed.inside)) scaled_below)

  -- and is sent in scaled form
  pub sent_scaled : (x : List ℕ) → x ≡ sent p i (take n (over xs 0 (map (scale p.q) (take n xs))))
      → SentScaled p i (take n xs) x
  unfolding sent
  sent_scaled x made =
      let scaled = map (scale p.q) (take n xs) in
      let whole : x ≡ sent p i scaled =
      made ∙ ap (sent p i) (rw scaled_size at (front xs scaled (omega (arith, scaled_size, placed.size, placed.inside)))) in
      record {
        placed = rw whole (sent_placed p known i scaled);
        unscaled_is = rw whole (send_scaled (rules_odd p (listed_rules p known)) _ _ _ (take n xs));
      }
