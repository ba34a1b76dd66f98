-- Each table passes the test of recurrence, so it holds the powers of its root. Written by root_tables, not by hand.
-- Assumes nothing.
use mathlib.Core.Path.{◌≡◌, refl, sym, ap, ◌∙◌}
use mathlib.Core.List.{List}
use mathlib.Core.Logic.{◌⊎◌, inl, inr}
use Prim.Native.Nat.{ℕ}
use native.Mathlib.Omega.{arith}
use lib.Dec.{lit<}
use Rattle.maths.specs.Root.{continues, is_power_table}
use Rattle.maths.proofs.PowerTable.{power_table_lem}
use Rattle.sets.specs.Table.{none, table, set_of}
use Rattle.sets.specs.Derived.{transform_size_of, transform_root, root_powers}
use Rattle.sets.proofs.Transforms.{powers_first, powers_second, powers_third}
use Rattle.roots_super256.proofs.powers.Goals as goal

module _ {set k : ℕ} (i : ℕ) (e : set ≡ k) where
  -- the powers of set k are those of the set that is asked for
  served : {out : List ℕ} → out ≡ root_powers (set_of k) i → out ≡ root_powers (set_of set) i
  served h = h ∙ sym (ap (λ (s : ℕ). root_powers (set_of s) i) e)

-- both sets have the same roots
same : (i : ℕ) → root_powers (set_of 6) i ≡ root_powers (set_of 12) i
unfolding none table set_of transform_size_of transform_root root_powers
same i = refl

either : {set : ℕ} (i : ℕ) → (set ≡ 6) ⊎ (set ≡ 12)
    → {out : List ℕ} → out ≡ root_powers (set_of 6) i → out ≡ root_powers (set_of set) i
either i (inl e) h = served i e h
either i (inr e) h = served i e (h ∙ same i)

pub returns-in-1 : goal.returns-in-1
unfolding continues is_power_table none table set_of
returns-in-1 c =
    either c.args.i c.requires
    (power_table_lem 1198081 1061167 1280 _ (lit< tt) refl ∙ sym (powers_first (set_of 6) c.args.i c.in-1.is))

pub returns-in-2 : goal.returns-in-2
unfolding continues is_power_table none table set_of
returns-in-2 c =
    either c.args.i c.requires
    (power_table_lem 1198081 186516 3072 _ (lit< tt) refl ∙ sym (powers_second (set_of 6) c.args.i c.in-2.is))

pub returns-in_default : goal.returns-in_default
unfolding continues is_power_table none table set_of
returns-in_default c =
    either c.args.i c.requires
    (power_table_lem 1198081 1169874 3328 _ (lit< tt) refl ∙ sym (powers_third (set_of 6) c.args.i (λ e. omega arith) (λ e. omega arith)))
