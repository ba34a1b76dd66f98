-- Laws of places in rows and columns.
-- Assumes nothing.
use mathlib.Core.Path.{◌≡◌, sym, ap, ◌∙◌}
use mathlib.Core.List.{List}
use Prim.Native.Nat.{ℕ, zero, suc, ◌+◌, ◌*◌, ◌/◌, ◌%◌, ◌≤◌, ◌<◌}
use native.Mathlib.Nat.{div-add-mod', mod-lt, div-lt_iff_lt-mul, mul-le-mul_right}
use native.Mathlib.Omega.{arith}
use lib.Arith.{digits_div}
use lib.ListN.{length}
use Rattle.maths.specs.Vector.{at}
use Rattle.maths.proofs.Vector.{equal_by_place}

module _ {n b j : ℕ} (a i : ℕ) (h : b < n) (k : j < n) (e : a * n + b ≡ i * n + j) where
  -- equal places have equal rows
  pub same_row : a ≡ i
  same_row = sym (digits_div a h) ∙ ap (λ (x : ℕ). x / n) e ∙ digits_div i k

-- where there is a place below δ · ρ, there is a column
some_column : (ρ δ : ℕ) {i : ℕ} → i < δ * ρ → 0 < ρ
some_column zero δ h = absurd (omega arith)
some_column (suc ρ) δ h = omega arith

-- what holds at each row and column holds at each place
pub by_rows : (ρ δ : ℕ) (P : ℕ → Type 0) → ((r c : ℕ) → r < δ → c < ρ → P (r * ρ + c)) → (i : ℕ) → i < δ * ρ → P i
by_rows ρ δ P each i h =
    let some : 0 < ρ = some_column ρ δ h in
    rw div-add-mod' at (each (i / ρ) (i % ρ) ((div-lt_iff_lt-mul some).1 h) (mod-lt i some))

-- two lists of δ rows of ρ numbers that agree at each row and column
pub equal_by_rows : (ρ δ : ℕ) (xs ys : List ℕ) → length xs ≡ δ * ρ → length ys ≡ δ * ρ → ((r c : ℕ) → r < δ → c < ρ → at xs (r * ρ + c) ≡ at ys (r * ρ + c))
    → xs ≡ ys
equal_by_rows ρ δ xs ys first second same = equal_by_place (δ * ρ) xs ys first second (by_rows ρ δ (λ i. at xs i ≡ at ys i) same)

-- the end of a row
pub row_end : {r δ : ℕ} (ρ : ℕ) → r < δ → r * ρ + ρ ≤ δ * ρ
row_end {r} ρ h = omega (arith, mul-le-mul_right ρ h)
