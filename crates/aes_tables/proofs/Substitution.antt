-- The rule of the inverse, and the rule of the substitution table, each by one test that is computed for every byte.
-- Assumes nothing.
use mathlib.Core.Path.{◌≡◌, refl, ap, ◌∙◌}
use mathlib.Core.Bool.{Bool, true, cond}
use mathlib.Core.List.{List}
use Prim.Native.Nat.{ℕ, ◌*◌, ◌/◌, ◌%◌, ◌<◌}
use lib.Bits.{xor_zero_l, xor_zero_r}
use lib.Dec.{eqb}
use lib.ListN.{length}
use borrow.Author.Tests.{eqb-true}
use Rattle.maths.specs.Vector.{at}
use Rattle.aes_tables.proofs.Tests.{for_each, for_each_at}
use Rattle.aes_tables.specs.Field.{◌⊕◌, x_times_of, times, ◌•◌, squares, inverse}
use Rattle.aes_tables.specs.Substitution.{sbox}
use Rattle.aes_tables.specs.Words.{SubstitutionTable}

-- the product of a byte and its inverse is 1, and 0 for 0: the test
abbrev inverts : ℕ → Bool
inverts b = eqb (b • inverse b) (cond (eqb b 0) 0 1)

inverse_tested : for_each 256 inverts ≡ true
unfolding for_each x_times_of times ◌•◌ squares inverse
inverse_tested = refl

-- the rule of the inverse
pub inverse_rule : (b : ℕ) → b < 256 → b • inverse b ≡ cond (eqb b 0) 0 1
inverse_rule b h = eqb-true _ _ (for_each_at 256 inverts inverse_tested b h)

-- each entry of a table is the substitution of its place: the test
abbrev substitutes : List ℕ → ℕ → Bool
substitutes table b = eqb (at table b) (sbox b)

-- a table that passes it is the substitution table
pub substitution_rule : (table : List ℕ) → length table ≡ 256 → for_each 256 (substitutes table) ≡ true → SubstitutionTable table
substitution_rule table size e = record { entries = size; each = λ b h. eqb-true _ _ (for_each_at 256 (substitutes table) e b h) }

-- the product with x, with no branch
abbrev pub doubled : ℕ → ℕ
doubled b = b % 128 * 2 ⊕ b / 128 * 27

doubled_tested : for_each 256 (λ b. eqb (doubled b) (x_times_of b)) ≡ true
unfolding for_each x_times_of
doubled_tested = refl

pub doubled_rule : (b : ℕ) → b < 256 → doubled b ≡ x_times_of b
doubled_rule b h = eqb-true _ _ (for_each_at 256 (λ b. eqb (doubled b) (x_times_of b)) doubled_tested b h)

-- the products that MixColumns takes
pub two_times : (b : ℕ) → 2 • b ≡ x_times_of b
unfolding times ◌•◌
two_times b = xor_zero_l _ ∙ xor_zero_r _

pub three_times : (b : ℕ) → 3 • b ≡ b ⊕ x_times_of b
unfolding times ◌•◌
three_times b = ap (λ (d : ℕ). b ⊕ d) (xor_zero_r _)
