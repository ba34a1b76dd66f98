-- What the inner functions of the bench rows take: errors and multipliers of set 0, and an input in range with its message bits (01, The bench sheet).
-- Assumes nothing.
use Rattle.std.specs.Prelude.{◌≡◌, List, ℕ, ◌≤◌, ◌<◌, ℤ, pos, nat_abs, length, get_or}
use Rattle.calls.specs.Outcome.{accepted}
use Rattle.sheet_bench.specs.Bench.{bench_message, bench_answer}

-- three errors of size at most 1 and two multipliers of size at most 2
pub record Small (e r : List ℤ) : Type 0 where
  pub errors_length : length e ≡ 3
  pub errors : (i : ℕ) → i < 3 → nat_abs (get_or e i (pos 0)) ≤ 1
  pub multipliers_length : length r ≡ 2
  pub multipliers : (i : ℕ) → i < 2 → nat_abs (get_or r i (pos 0)) ≤ 2

-- an input in range, and its message bits
pub record Accepted (input message : List ℕ) : Type 0 where
  pub size : length input ≡ 14
  pub in_range : bench_answer input ≡ accepted
  pub sent : message ≡ bench_message input
