-- Reading place by place, and the answer of a reading once its set and lengths are checked (01, Reading).
-- Assumes nothing.
use mathlib.Core.Path.{◌≡◌, sym, ◌∙◌}
use mathlib.Core.Bool.{true}
use mathlib.Core.List.{List, ◌++◌}
use Prim.Native.Nat.{ℕ, ◌+◌, ◌-◌, ◌%◌, ◌≤◌, ◌<◌}
use native.Mathlib.Nat.{mod-lt}
use lib.ListN.{length, length-append}
use Rattle.maths.specs.Vector.{at, Below}
use Rattle.maths.specs.Product.{product}
use Rattle.maths.proofs.Vector.{tabulate_length, tabulate_at}
use Rattle.maths.proofs.Product.{middle_product_at}
use Rattle.calls.specs.Outcome.{Outcome, accepted}
use Rattle.calls.specs.Checks.{all_of, refuse_first, below}
use Rattle.sets.specs.declared.Parameters.{Parameters}
use Rattle.sets.specs.Table.{set_of, last_set}
use Rattle.numbers.specs.Scheme.{opened, rounded_bit_of, reading}
use Rattle.numbers.specs.Calls.{reading_shape, reading_range, reading_answer}
use Rattle.middle.proofs.Chained.{two_slices, accepted_one, accepted_two}
use Rattle.middle.proofs.OpenCall.{opening_passed}

-- as many bits as the message has
pub reading_length : (set : ℕ) (p : Parameters) (c1 c2 s : List ℕ) → length (reading set p c1 c2 s) ≡ p.d
unfolding reading
reading_length set p c1 c2 s = tabulate_length p.d _

-- the bit at a place
pub reading_at : (set : ℕ) (p : Parameters) (c1 c2 s : List ℕ) (j : ℕ) → j < p.d
    → at (reading set p c1 c2 s) j ≡ rounded_bit_of set p (opened p c1 c2 s j)
unfolding reading
reading_at set p c1 c2 s j h = tabulate_at p.d _ j h

-- w is the number of c2 less a place of the product of c1 and s
pub opened_at : (p : Parameters) (c1 c2 s : List ℕ) (j : ℕ) → length c1 ≡ p.n + p.k → j < p.d
    → opened p c1 c2 s j ≡ (at c2 j + (p.q - product c1 s (p.n + p.k - 1 + j) % p.q)) % p.q
unfolding opened
opened_at p c1 c2 s j size h = rw (middle_product_at p.q c1 s p.d j h, size)

-- w is a residue
pub opened_below : (p : Parameters) (c1 c2 s : List ℕ) (j : ℕ) → 0 < p.q → opened p c1 c2 s j < p.q
unfolding opened
opened_below p c1 c2 s j h = mod-lt _ h

-- numbers of three slices, one after the other
pub three_slices : (limit : ℕ) (xs ys zs : List ℕ) (after : Outcome)
    → refuse_first (below limit) 0 0 (xs ++ ys ++ zs) after
    ≡ refuse_first (below limit) 0 0 (xs ++ ys) (refuse_first (below limit) 0 (length xs + length ys) zs after)
three_slices limit xs ys zs after = two_slices limit (xs ++ ys) zs after ∙ rw length-append

-- an accepted check of three slices
pub accepted_three : (limit : ℕ) (xs ys zs : List ℕ) (after : Outcome)
    → refuse_first (below limit) 0 0 (xs ++ ys ++ zs) after ≡ accepted → Below limit xs × Below limit ys × Below limit zs
accepted_three limit xs ys zs after e =
    let first = accepted_two limit xs ys _ (sym (three_slices limit xs ys zs after) ∙ e) in
    (first.0, first.1, (accepted_one limit (length xs + length ys) zs after first.2).0)

-- the numbers decide
pub reading_numbers : (set : ℕ) (p : Parameters) (c1 c2 s : List ℕ) (bits : ℕ) → p ≡ set_of set → set ≤ last_set
    → all_of (reading_shape p (length c1) (length c2) (length s) bits) ≡ true → reading_answer set c1 c2 s bits ≡ reading_range p.q c1 c2 s
unfolding reading_answer
reading_numbers set p c1 c2 s bits e h fits = rw e (opening_passed set _ 2 _ h (rw e at fits))
