-- The set whose root tables serve a set: its modulus, transform sizes and roots are the same, and so are the powers that the tables hold.
-- Assumes nothing.
use mathlib.Core.Path.{◌≡◌, refl, ap, ◌∙◌}
use mathlib.Core.Bool.{Bool, true, false, cond}
use mathlib.Core.List.{List, [], ◌∷◌}
use Prim.Native.Nat.{ℕ, suc}
use borrow.Author.Tests.{leb-true, eqb-true}
use lib.Dec.{ltb, eqb}
use Rattle.maths.specs.Root.{power_table}
use Rattle.calls.specs.Checks.{all_of}
use Rattle.calls.proofs.Checks.{Each}
use Rattle.sets.specs.declared.Parameters.{Parameters}
use Rattle.sets.specs.Table.{table, set_of, last_set, IsSet, Listed}
use Rattle.sets.specs.Derived.{transform_size_of, transform_root, root_powers}
use Rattle.sets.proofs.Tested.{passed, at_each}

-- a set has the modulus, the sizes and the roots of the one that serves it
record Served (p by : Parameters) : Type 0 where
  same_q : p.q ≡ by.q
  same_d1 : p.d1 ≡ by.d1
  same_d2 : p.d2 ≡ by.d2
  same_d3 : p.d3 ≡ by.d3
  same_w1 : p.w1 ≡ by.w1
  same_w2 : p.w2 ≡ by.w2
  same_w3 : p.w3 ≡ by.w3

-- the tests of this
abbrev same : Parameters → Parameters → List Bool
same p by =
    eqb p.q by.q ∷
    eqb p.d1 by.d1 ∷
    eqb p.d2 by.d2 ∷
    eqb p.d3 by.d3 ∷
    eqb p.w1 by.w1 ∷
    eqb p.w2 by.w2 ∷
    eqb p.w3 by.w3 ∷ []

-- the tests of a record: it is served by a set
abbrev tests : Parameters → List Bool
tests p = ltb p.roots (suc last_set) ∷ same p (set_of p.roots)

-- the test of the whole table
table_served : passed tests table ≡ true
unfolding passed all_of table set_of
table_served = refl

kept : (p by : Parameters) → Each (same p by) → Served p by
kept p by e = search eqb-true

-- what is picked by two tests, term by term
by_number : (one two : Bool) {a b c x y z : ℕ} → a ≡ x → b ≡ y → c ≡ z → cond one a (cond two b c) ≡ cond one x (cond two y z)
by_number true two e f g = e
by_number false true e f g = f
by_number false false e f g = g

module _ (p : Parameters) (known : Listed p) where
  tested : Each (tests p)
  unfolding set_of table
  tested = rw known.listed (at_each tests table table_served known.set known.is_set)

  -- it is a set
  pub roots_set : IsSet p.roots
  roots_set = leb-true _ _ tested.0

  served : Served p (set_of p.roots)
  served = kept p (set_of p.roots) tested.1

  -- each transform has the size that it has there
  pub size_served : (i : ℕ) → transform_size_of p i ≡ transform_size_of (set_of p.roots) i
  unfolding transform_size_of
  size_served i = by_number (eqb i 1) (eqb i 2) served.same_d1 served.same_d2 served.same_d3

  root_served : (i : ℕ) → transform_root p i ≡ transform_root (set_of p.roots) i
  unfolding transform_root
  root_served i = by_number (eqb i 1) (eqb i 2) served.same_w1 served.same_w2 served.same_w3

  -- and each root the powers
  pub powers_served : (i : ℕ) → root_powers p i ≡ root_powers (set_of p.roots) i
  unfolding root_powers
  powers_served i =
      ap (λ (q : ℕ). power_table q (transform_root p i) (transform_size_of p i)) served.same_q
      ∙ ap (λ (w : ℕ). power_table (set_of p.roots).q w (transform_size_of p i)) (root_served i)
      ∙ ap (power_table (set_of p.roots).q (transform_root (set_of p.roots) i)) (size_served i)
