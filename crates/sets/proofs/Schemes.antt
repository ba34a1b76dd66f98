-- Which scheme a set is of.
-- Assumes nothing.
use mathlib.Core.Path.{◌≡◌, refl}
use mathlib.Core.Bool.{true, false}
use mathlib.Core.List.{List, [], ◌∷◌}
use Prim.Native.Nat.{ℕ, zero, suc, ◌≤◌, ◌<◌}
use native.Mathlib.Nat.{le_of_suc-le-suc, not-suc-le-zero}
use native.Mathlib.Omega.{arith}
use borrow.Author.Tests.{eqb-true}
use lib.ListN.{length, get_or}
use Rattle.sets.specs.declared.Parameters.{Parameters}
use Rattle.sets.specs.Table.{none, table, set_of, last_set}
use Rattle.sets.specs.Derived.{is_encryption, is_exchange}

-- past the last set stands none
pub past : (set : ℕ) → last_set < set → set_of set ≡ none
unfolding set_of table
past set h = walk table set h
  where
    walk : (ps : List Parameters) (i : ℕ) → length ps ≤ i → get_or ps i none ≡ none
    walk [] i h = refl
    walk (p ∷ ps) zero h = absurd (not-suc-le-zero h)
    walk (p ∷ ps) (suc i) h = walk ps i (le_of_suc-le-suc h)

-- an encryption set is no exchange set
pub encryption_only : (set : ℕ) → is_encryption set ≡ true → is_exchange set ≡ false
unfolding is_encryption is_exchange
encryption_only set e = rw (eqb-true (set_of set).scheme 1 e)

-- an encryption set is 1 or more, and so is an exchange set
pub encryption_some : (set : ℕ) → is_encryption set ≡ true → 1 ≤ set
unfolding is_encryption set_of table
encryption_some zero e = absurd (omega (arith, eqb-true 0 1 e))
encryption_some (suc set) e = omega arith

pub exchange_some : (set : ℕ) → is_exchange set ≡ true → 1 ≤ set
unfolding is_exchange set_of table
exchange_some zero e = absurd (omega (arith, eqb-true 0 2 e))
exchange_some (suc set) e = omega arith
