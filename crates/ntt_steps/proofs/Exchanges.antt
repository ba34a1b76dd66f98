-- The exchange of rows and columns: the loop over the rows.
-- Assumes nothing.
use mathlib.Core.Path.{◌≡◌, refl, ◌∙◌}
use mathlib.Core.Logic.{inl}
use mathlib.Core.List.{List}
use Prim.Native.Nat.{ℕ, ◌+◌, ◌*◌, ◌≤◌, ◌<◌}
use native.Mathlib.Omega.{arith}
use lib.ListN.{length}
use Rattle.maths.specs.Vector.{at}
use Rattle.calls.proofs.Written.{last_or_before}
use Rattle.ntt_steps.specs.Steps.{ExchangedRow, Exchanged}

-- the first n rows are done
pub record RowsExchanged (from old : List ℕ) (n : ℕ) (to : List ℕ) : Type 0 where
  pub within : n ≤ 16
  pub kept : length to ≡ length old
  pub values : (a b : ℕ) → a < n → b < 16 → at to (16 * a + b) ≡ at from (16 * b + a)

-- before the first row
pub exchanged_none : (from old : List ℕ) → RowsExchanged from old 0 old
exchanged_none from old = record { within = omega arith; kept = refl; values = λ a b h l. absurd (omega arith) }

-- one more row
pub exchanged_more : {from old : List ℕ} {n : ℕ} {to : List ℕ} (new : List ℕ) → RowsExchanged from old n to → n < 16 → length new ≡ length to
    → ExchangedRow from n to new → RowsExchanged from old (n + 1) new
exchanged_more new t more size row =
    record {
      within = omega arith;
      kept = size ∙ t.kept;
      values = λ a b h l. last_or_before h (λ e. rw e (row.values b l)) (λ s. row.others (16 * a + b) (inl (omega arith)) ∙ t.values a b s l);
    }

-- after the last row
pub exchanged_all : {from old : List ℕ} {n : ℕ} {to : List ℕ} → RowsExchanged from old n to → 16 ≤ n → Exchanged from to
exchanged_all t h = record { values = λ a b k l. t.values a b (omega arith) l }
