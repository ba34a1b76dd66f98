-- Vectors of a family that stand one after the other: where vector i lies, and that it is a factor.
-- Assumes nothing.
use mathlib.Core.Path.{◌≡◌}
use mathlib.Core.List.{List}
use Prim.Native.Nat.{ℕ, ◌+◌, ◌*◌, ◌/◌, ◌^◌, ◌≤◌, ◌<◌}
use native.Mathlib.Nat.{div-lt_iff_lt-mul}
use native.Mathlib.Omega.{arith}
use lib.ListN.{length}
use Rattle.calls.proofs.Region.{region_entry, vector_fits, vector_length_lem}
use Rattle.middle.specs.Operand.{Operand}
use Rattle.calls.specs.Region.{vector}
use Rattle.numbers.specs.Operands.{Family}

-- place l of t vectors of w numbers is in one of them
pub vector_index : (w t l : ℕ) → 0 < w → l < t * w → l / w < t
vector_index w t l some h = (div-lt_iff_lt-mul {k = w} {x = l} {y = t} some).1 h

module _ {q n t : ℕ} {xs : List ℕ} (f : Family q n t xs) (i : ℕ) (h : i < t) where
  -- vector i lies within the list
  pub family_room : n * i + n ≤ length xs
  family_room = rw f.size (vector_fits n t i h)

  -- vector i has its length
  pub family_length : length (vector n xs i) ≡ n
  family_length = vector_length_lem n t i xs f.size h

  -- it is a factor
  pub family_operand : q < 2 ^ 24 → n ≤ 4096 → Operand (vector n xs i)
  family_operand small most =
      let room = family_room in
      let size = family_length in
      record {
        most = omega arith;
        small = λ k l.
            let inside : k < n = omega arith in
            rw (region_entry xs (n * i) n k 0 inside) (omega (arith, f.each (n * i + k) (omega arith)));
      }
