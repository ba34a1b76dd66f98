-- The key place by place, and the answer of a key once its set and lengths are checked (01, Key).
-- Assumes nothing.
use mathlib.Core.Path.{◌≡◌, sym, ap, ◌∙◌}
use mathlib.Core.Bool.{true}
use mathlib.Core.List.{List}
use Prim.Native.Nat.{ℕ, ◌+◌, ◌-◌, ◌*◌, ◌/◌, ◌%◌, ◌≤◌, ◌<◌}
use native.Mathlib.Nat.{mul_comm, zero-mod, mod-add-mod, mod-lt, div-add-mod}
use native.Mathlib.Decide.{dec_lt}
use native.Mathlib.Omega.{arith}
use lib.IntN.{ℤ, pos, nat_abs}
use lib.ListN.{length, get_or, take, drop, get_or-map}
use borrow.Author.Tests.{leb-true}
use Rattle.maths.specs.Vector.{at, Below}
use Rattle.maths.specs.Product.{product}
use Rattle.maths.specs.Integer.{residue}
use Rattle.maths.proofs.Vector.{tabulate_length, tabulate_at, tabulate_past}
use Rattle.maths.proofs.Product.{middle_product_at}
use Rattle.maths.proofs.Integer.{residue_pos}
use Rattle.calls.specs.Outcome.{Outcome, accepted}
use Rattle.calls.specs.Checks.{all_of, refuse_first}
use Rattle.calls.proofs.Checks.{refuse_first_accepted, passing_all}
use Rattle.calls.proofs.Region.{region_entry, region_part, vector_length_lem, joined_length, vector_joined, joined_each}
use Rattle.sets.specs.declared.Parameters.{Parameters}
use Rattle.sets.specs.Table.{set_of, last_set}
use Rattle.sets.specs.Derived.{error_count_of}
use Rattle.middle.proofs.OpenCall.{opening_passed}
use Rattle.calls.specs.Region.{vector}
use Rattle.numbers.specs.Scheme.{residues, key_part, key}
use Rattle.numbers.specs.Calls.{is_error, key_shape, key_range, key_answer}
use Rattle.numbers.proofs.Family.{vector_index}

-- the residue at a place
pub residues_at : (q : ℕ) (zs : List ℤ) (i : ℕ) → at (residues q zs) i ≡ residue q (get_or zs i (pos 0))
residues_at q zs i =
    let zero : residue q (pos 0) ≡ 0 = residue_pos q 0 ∙ zero-mod q in
    ap (λ (d : ℕ). get_or (residues q zs) i d) (sym zero) ∙ get_or-map (residue q) zs i (pos 0)

module _ (p : Parameters) (a s : List ℕ) (e : List ℤ) where
  -- b_i has d + k numbers
  key_part_length : (i : ℕ) → length (key_part p a s e i) ≡ p.d + p.k
  unfolding key_part
  key_part_length i = tabulate_length (p.d + p.k) _

  -- as many numbers as there are errors
  pub key_length : length (key p a s e) ≡ error_count_of p
  unfolding key error_count_of
  key_length = joined_length (p.d + p.k) p.t (key_part p a s e) (λ i h. key_part_length i) ∙ mul_comm (p.d + p.k) p.t

  -- vector i of b is b_i
  pub key_vector_lem : (i : ℕ) → i < p.t → vector (p.d + p.k) (key p a s e) i ≡ key_part p a s e i
  unfolding key
  key_vector_lem i h = vector_joined (p.d + p.k) p.t (key_part p a s e) (λ j l. key_part_length j) i h

  -- its numbers are residues
  key_part_below : 0 < p.q → (i j : ℕ) → at (key_part p a s e i) j < p.q
  unfolding key_part
  key_part_below some i j =
      elim (dec_lt j (p.d + p.k)) [
        | yes inside ↦ rw (tabulate_at (p.d + p.k) _ j inside) (mod-lt _ some)
        | no past ↦ rw (tabulate_past (p.d + p.k) _ j (omega arith)) some
      ]

  -- and so are those of b
  pub key_below : 0 < p.q → Below p.q (key p a s e)
  unfolding key
  key_below some l h = joined_each (λ x. x < p.q) 0 some p.t (key_part p a s e) (λ i j inside. key_part_below some i j) l

  module _ (size : length a ≡ p.t * p.n) where
    -- place j of b_i is place n − 1 + j of a_i · s, plus the error
    pub key_part_at : (i j : ℕ) → i < p.t → j < p.d + p.k
        → at (key_part p a s e i) j
        ≡ (product (vector p.n a i) s (p.n - 1 + j) + residue p.q (get_or (vector (p.d + p.k) e i) j (pos 0))) % p.q
    unfolding key_part
    key_part_at i j h inside =
        tabulate_at (p.d + p.k) _ j inside
        ∙ rw (middle_product_at p.q (vector p.n a i) s (p.d + p.k) j inside, vector_length_lem p.n p.t i a size h, residues_at, mod-add-mod)

    -- the number at place l of b
    key_at : (l : ℕ) → l < error_count_of p → 0 < p.d + p.k
        → at (key p a s e) l
        ≡ (product (vector p.n a (l / (p.d + p.k))) s (p.n - 1 + l % (p.d + p.k)) + residue p.q (get_or e l (pos 0))) % p.q
    unfolding error_count_of
    key_at l h some =
        let w = p.d + p.k in
        let i = l / w in
        let j = l % w in
        let index : i < p.t = vector_index w p.t l some h in
        let inside : j < w = mod-lt l some in
        let place : w * i + j ≡ l = div-add-mod l w in
        ap (at (key p a s e)) (sym place) ∙ sym (region_entry (key p a s e) (w * i) w j 0 inside) ∙ ap (λ (xs : List ℕ). at xs j) (key_vector_lem i index)
        ∙ key_part_at i j index inside
        ∙ ap (λ (z : ℤ). (product (vector p.n a i) s (p.n - 1 + j) + residue p.q z) % p.q)
        (region_entry e (w * i) w j (pos 0) inside ∙ ap (λ (m : ℕ). get_or e m (pos 0)) place)

    -- it is the sum of a place of the product and the error's residue
    pub key_sum : (l from end x y : ℕ) → l < error_count_of p → 0 < p.d + p.k → from ≡ p.n * (l / (p.d + p.k)) → end ≡ from + p.n
        → x ≡ product (take (end - from) (drop from a)) s (p.n - 1 + l % (p.d + p.k)) % p.q → y ≡ residue p.q (get_or e l (pos 0))
        → (x + y) % p.q ≡ at (key p a s e) l
    key_sum l from end x y h some start stop first second =
        rw (key_at l h some, first, second, region_part a from p.n end stop, start, mod-add-mod)

-- an accepted check of errors
pub accepted_errors : (eta offset : ℕ) (es : List ℤ) (after : Outcome) → refuse_first (is_error eta) 0 offset es after ≡ accepted
    → ((k : ℕ) → k < length es → nat_abs (get_or es k (pos 0)) ≤ eta) × (after ≡ accepted)
accepted_errors eta offset es after e =
    let both = refuse_first_accepted (is_error eta) 0 offset es after e in
    (λ k h. leb-true _ _ ((passing_all (is_error eta) 0 es (pos 0)).0 both.0 k h), both.1)

-- the numbers decide
pub key_numbers_lem : (set : ℕ) (p : Parameters) (a s : List ℕ) (e : List ℤ) (b : ℕ) → p ≡ set_of set → set ≤ last_set
    → all_of (key_shape p (length a) (length s) (length e) b) ≡ true → key_answer set a s e b ≡ key_range p.q p.eta a s e
unfolding key_answer
key_numbers_lem set p a s e b same h fits = rw same (opening_passed set _ 2 _ h (rw same at fits))
