-- Each table passes the test of recurrence, so it holds the powers of its root. Written by root_tables, not by hand.
-- Assumes nothing.
use mathlib.Core.Path.{◌≡◌, refl, sym, ap, ◌∙◌}
use mathlib.Core.List.{List}
use mathlib.Core.Logic.{◌⊎◌, inl, inr}
use Prim.{⊥}
use Prim.Native.Nat.{ℕ}
use lib.Dec.{lit<}
use Rattle.maths.specs.Root.{continues, is_power_table}
use Rattle.maths.proofs.PowerTable.{power_table_lem}
use Rattle.sets.specs.Table.{none, table, set_of}
use Rattle.sets.specs.Derived.{root_powers}
use Rattle.sets.proofs.Transforms.{powers_first, powers_second, powers_third}
use Rattle.roots_med160.proofs.powers.Goals as goal

module _ {set k : ℕ} (i : ℕ) (e : set ≡ k) where
  -- the powers of set k are those of the set that is asked for
  served : {out : List ℕ} → out ≡ root_powers (set_of k) i → out ≡ root_powers (set_of set) i
  served h = h ∙ sym (ap (λ (s : ℕ). root_powers (set_of s) i) e)

-- a set that is not the first of the two is the second
other : {set a b : ℕ} → (set ≡ a) ⊎ (set ≡ b) → (set ≡ a → ⊥) → set ≡ b
other (inl e) n = absurd (n e)
other (inr e) n = e

pub returns-in-4-eq1 : goal.returns-in-4-eq1
unfolding continues is_power_table none table set_of
returns-in-4-eq1 c =
    served c.args.i c.in-4-eq1.is-0
    (power_table_lem 301057 146766 768 _ (lit< tt) refl ∙ sym (powers_first (set_of 4) c.args.i c.in-4-eq1.is-1))

pub returns-in-4-eq2 : goal.returns-in-4-eq2
unfolding continues is_power_table none table set_of
returns-in-4-eq2 c =
    served c.args.i c.in-4-eq2.is-0
    (power_table_lem 301057 168263 1792 _ (lit< tt) refl ∙ sym (powers_second (set_of 4) c.args.i c.in-4-eq2.is-1))

pub returns-in-4-default : goal.returns-in-4-default
unfolding continues is_power_table none table set_of
returns-in-4-default c =
    served c.args.i c.in-4-default.is-0
    (power_table_lem 301057 174 2048 _ (lit< tt) refl ∙ sym (powers_third (set_of 4) c.args.i c.in-4-default.is-1.0.1 c.in-4-default.is-1.1))

pub returns-in_default-eq1 : goal.returns-in_default-eq1
unfolding continues is_power_table none table set_of
returns-in_default-eq1 c =
    served c.args.i (other c.requires c.in_default-eq1.is-0.1)
    (power_table_lem 430081 15791 768 _ (lit< tt) refl ∙ sym (powers_first (set_of 10) c.args.i c.in_default-eq1.is-1))

pub returns-in_default-eq2 : goal.returns-in_default-eq2
unfolding continues is_power_table none table set_of
returns-in_default-eq2 c =
    served c.args.i (other c.requires c.in_default-eq2.is-0.1)
    (power_table_lem 430081 235435 1792 _ (lit< tt) refl ∙ sym (powers_second (set_of 10) c.args.i c.in_default-eq2.is-1))

pub returns-in_default : goal.returns-in_default
unfolding continues is_power_table none table set_of
returns-in_default c =
    served c.args.i (other c.requires c.in_default.is-0.1)
    (power_table_lem 430081 92 2048 _ (lit< tt) refl ∙ sym (powers_third (set_of 10) c.args.i c.in_default.is-1.0.1 c.in_default.is-1.1))
