-- Every set keeps its rules: one test, computed over the whole table, and one law that turns it into the rules of each set.
-- Assumes nothing.
use mathlib.Core.Path.{◌≡◌, refl, sym, subst}
use mathlib.Core.Bool.{Bool, true}
use mathlib.Core.List.{List, [], ◌∷◌}
use mathlib.Core.Logic.{◌⊎◌, inl, inr}
use Prim.Native.Nat.{ℕ, zero, suc, ◌+◌, ◌-◌, ◌*◌, ◌/◌, ◌%◌, ◌^◌, ◌≤◌}
use native.Mathlib.Nat.{le_of_suc-le-suc, not-suc-le-zero}
use native.Mathlib.Omega.{arith}
use borrow.Author.Tests.{leb-true, eqb-true}
use lib.Dec.{T, leb, ltb, eqb}
use lib.ListN.{drop}
use Rattle.maths.specs.Prime.{Prime, is_prime, no_divisor_from}
use Rattle.maths.proofs.Prime.{prime}
use Rattle.calls.specs.Checks.{all_of}
use Rattle.calls.proofs.Checks.{Each}
use Rattle.sets.specs.declared.Parameters.{Parameters}
use Rattle.sets.specs.Table.{table, set_of, IsSet, Listed}
use Rattle.sets.specs.Derived.{half_modulus_of, multiplier_count_of, multiplier_bytes_of, multiplier_draw_bytes_of, error_draw_bytes_of, packed_bytes_of}
use Rattle.sets.specs.Derived.{public_key_bytes_of}
use Rattle.sets.specs.Derived.{cpa_ciphertext_bytes_of}
use Rattle.sets.specs.Rules.{Rules, ByteRules}
use Rattle.sets.proofs.Tested.{passed, at_each}

-- the tests of the rules, in their order
abbrev tests : Parameters → List Bool
tests p =
    is_prime p.q ∷
    eqb p.q (2 * half_modulus_of p + 1) ∷
    ltb p.q (2 ^ 24) ∷
    leb 1 p.n ∷
    leb 1 p.k ∷
    leb 1 p.d ∷
    leb 1 p.t ∷
    leb p.n 2048 ∷
    leb p.k 1023 ∷
    leb p.d 256 ∷
    leb p.t 10 ∷
    leb 1 p.row ∷
    eqb (p.d1 / p.row * p.row) p.d1 ∷
    eqb (p.d2 / p.row * p.row) p.d2 ∷
    eqb (p.d3 / p.row * p.row) p.d3 ∷
    eqb ((p.q - 1) / p.d1 * p.d1) (p.q - 1) ∷
    eqb ((p.q - 1) / p.d2 * p.d2) (p.q - 1) ∷
    eqb ((p.q - 1) / p.d3 * p.d3) (p.q - 1) ∷
    leb (p.d + p.k) p.d1 ∷
    leb (p.n + p.k) p.d2 ∷
    leb (p.n + p.d + p.k - 1) p.d3 ∷
    leb p.d1 p.d2 ∷
    leb p.d2 p.d3 ∷
    leb p.d3 3328 ∷
    eqb (p.zqrej % p.q) 0 ∷
    ltb p.zqrej (2 ^ 24) ∷
    leb (2 ^ 24) (p.zqrej + p.q) ∷
    leb (2 ^ (p.width - 1)) p.q ∷
    ltb p.q (2 ^ p.width) ∷
    leb p.width 21 ∷
    leb (2 ^ p.cmp) (half_modulus_of p) ∷
    ltb p.cmp p.width ∷
    leb 1 p.eta ∷
    leb p.eta 4 ∷
    leb p.b1 p.b2 ∷
    leb p.b2 9 ∷
    ltb (2 ^ p.b2) p.q ∷
    leb p.ndec1 (multiplier_count_of p) ∷
    leb (multiplier_count_of p) 8192 ∷
    leb (p.d1 * p.t) 10240 ∷
    leb (p.d1 * p.t * p.width) 215040 ∷
    leb (p.d2 * p.width) 64512 ∷
    leb (p.d * (p.width - p.cmp)) 2048 ∷
    leb (public_key_bytes_of p) 26912 ∷
    leb (cpa_ciphertext_bytes_of p) 8320 ∷ []

abbrev byte_tests : Parameters → List Bool
byte_tests p =
    eqb (half_modulus_of p) (2 * (half_modulus_of p / 2)) ∷
    eqb p.row 256 ∷
    eqb p.d 256 ∷
    eqb p.eta 4 ∷
    eqb p.width (p.cmp + 8) ∷
    eqb ((p.k + 1) / 8 * 8) (p.k + 1) ∷
    eqb (p.bytpcs / 3 * 3) p.bytpcs ∷
    eqb (p.bytpca / 3 * 3) p.bytpca ∷
    leb 384 p.bytpcs ∷
    leb 384 p.bytpca ∷
    leb p.bytpcs 10158 ∷
    leb p.bytpca 6300 ∷
    leb 1 (multiplier_bytes_of p) ∷
    leb (multiplier_bytes_of p) 2 ∷
    leb (error_draw_bytes_of p) 10240 ∷
    leb (multiplier_draw_bytes_of p) 15232 ∷ []

prime_true : (q : ℕ) → is_prime q ≡ true → Prime q
prime_true q e = prime q (subst T (sym e) tt)

-- a set whose tests pass keeps the rules
kept : (p : Parameters) → Each (tests p) → Rules p
kept p e = search (leb-true, eqb-true, prime_true)

kept_bytes : (p : Parameters) → Each (byte_tests p) → ByteRules p
kept_bytes p e = search (leb-true, eqb-true)

-- the test of the whole table: all rules for sets 0 to 12, those of bytes for sets 1 to 12
table_passed : passed tests table ≡ true
unfolding passed all_of table is_prime no_divisor_from half_modulus_of multiplier_count_of packed_bytes_of public_key_bytes_of cpa_ciphertext_bytes_of
table_passed = refl

table_passed_bytes : passed byte_tests (drop 1 table) ≡ true
unfolding passed all_of table half_modulus_of multiplier_count_of multiplier_bytes_of multiplier_draw_bytes_of error_draw_bytes_of
table_passed_bytes = refl

-- every set from 0 to 12 keeps the rules
pub rules : (set : ℕ) → IsSet set → Rules (set_of set)
unfolding set_of table
rules set h = kept (set_of set) (at_each tests table table_passed set h)

-- every set from 1 to 12 keeps the rules of bytes
pub byte_rules : (set : ℕ) → 1 ≤ set → IsSet set → ByteRules (set_of set)
unfolding set_of table
byte_rules zero some h = absurd (not-suc-le-zero some)
byte_rules (suc i) some h = kept_bytes (set_of (suc i)) (at_each byte_tests (drop 1 table) table_passed_bytes i (le_of_suc-le-suc h))

-- the record of a set is in the table
pub listed_set : (set : ℕ) → IsSet set → Listed (set_of set)
listed_set set low = record { set = set; is_set = low; listed = refl }

-- and keeps the rules
pub listed_rules : (p : Parameters) → Listed p → Rules p
listed_rules p known = rw known.listed (rules known.set known.is_set)

-- but for set 0 it keeps the rules of bytes
pub listed_cases : (p : Parameters) → Listed p → (p ≡ set_of 0) ⊎ ByteRules p
listed_cases p known = cases known.set known.is_set known.listed
  where
    cases : (set : ℕ) → IsSet set → p ≡ set_of set → (p ≡ set_of 0) ⊎ ByteRules p
    cases zero low e = inl e
    cases (suc i) low e = inr (rw e (byte_rules (suc i) (omega arith) low))

module _ (set : ℕ) (low : IsSet set) (p : Parameters) (e : p ≡ set_of set) where
  -- the record of the set is in the table
  pub listed_of : Listed p
  listed_of = record { set = set; is_set = low; listed = e }

  -- it keeps the rules
  pub rules_of : Rules p
  rules_of = rw e (rules set low)

  -- and those of bytes
  pub byte_rules_of : 1 ≤ set → ByteRules p
  byte_rules_of some = rw e (byte_rules set some low)
