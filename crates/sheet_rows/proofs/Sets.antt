-- The sets that have a sheet: each is a set, none is an exchange set, and the work slice of a sheet has room for what each works on.
-- Assumes nothing.
use mathlib.Core.Path.{◌≡◌, refl}
use mathlib.Core.Bool.{Bool, true, false, ◌||◌}
use mathlib.Core.List.{List, [], ◌∷◌}
use Prim.Native.Nat.{ℕ, zero, suc, ◌≤◌}
use native.Mathlib.Decide.{dec_lt}
use native.Mathlib.Omega.{arith}
use borrow.Author.Tests.{leb-true, eqb-true, ne_eqb}
use lib.Dec.{leb, eqb}
use Rattle.calls.specs.Checks.{all_of}
use Rattle.sets.specs.declared.Parameters.{Parameters}
use Rattle.sets.specs.Table.{none, table, set_of, last_set, IsSet}
use Rattle.sets.specs.Derived.{is_encryption, is_exchange, error_count_of}
use Rattle.sets.proofs.Schemes.{past, encryption_only}
use Rattle.sets.proofs.Tested.{passed, at_each}
use Rattle.scheme.specs.Answers.{work_length_of}
use Rattle.sheet_parts.specs.Checks.{has_sheet_of}
use Rattle.sheet_rows.specs.Input.{sheet_work}

-- an encryption set is a set
encryption_set : (set : ℕ) → is_encryption set ≡ true → IsSet set
unfolding is_encryption none
encryption_set set own =
    elim (dec_lt last_set set) [
      | yes after ↦ absurd (omega (arith, eqb-true 0 1 (rw (past set after) at own)))
      | no within ↦ omega arith
    ]

-- a set above 0 that has a sheet is an encryption set
pub sheet_encryption : (set : ℕ) → has_sheet_of set ≡ true → 1 ≤ set → is_encryption set ≡ true
unfolding has_sheet_of
sheet_encryption set has some = rw (ne_eqb set 0 (λ z. omega arith)) at has

-- a set that has a sheet is a set
pub sheet_set : (set : ℕ) → has_sheet_of set ≡ true → IsSet set
sheet_set zero has = omega arith
sheet_set (suc set) has = encryption_set (suc set) (sheet_encryption (suc set) has (omega arith))

-- it is no exchange set
sheet_only : (set : ℕ) → has_sheet_of set ≡ true → is_exchange set ≡ false
unfolding is_exchange set_of table
sheet_only zero has = refl
sheet_only (suc set) has = encryption_only (suc set) (sheet_encryption (suc set) has (omega arith))

-- the work length of every set but those of the key exchange, tested over the whole table
abbrev room_tests : Parameters → List Bool
room_tests p = (eqb p.scheme 2 || leb (work_length_of p) sheet_work) ∷ []

room_passed : passed room_tests table ≡ true
unfolding passed all_of table error_count_of work_length_of sheet_work
room_passed = refl

-- the work slice has room for each set that has a sheet
pub work_most : (set : ℕ) → has_sheet_of set ≡ true → work_length_of (set_of set) ≤ sheet_work
unfolding is_exchange set_of table
work_most set has =
    leb-true _ _ (rw (sheet_only set has) at (at_each room_tests table room_passed set (sheet_set set has)).0)
