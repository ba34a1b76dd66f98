-- Demand 3 and the ceiling on what an input hands in.
-- Assumes nothing.
use mathlib.Core.Path.{◌≡◌, sym, ◌∙◌}
use mathlib.Core.Bool.{true}
use mathlib.Core.List.{List}
use Prim.Native.Nat.{ℕ, zero, suc, ◌+◌, ◌≤◌}
use native.Mathlib.Decide.{dec_lt}
use native.Mathlib.Omega.{arith}
use borrow.Author.Tests.{ne_eqb}
use lib.ListN.{length, get_or-eq_default}
use Rattle.calls.specs.Outcome.{accepted}
use Rattle.calls.specs.Region.{region}
use Rattle.calls.proofs.Region.{region_length, region_entry}
use Rattle.sets.specs.Table.{set_of}
use Rattle.packing.specs.Digits.{Digit}
use Rattle.scheme.specs.Answers.{key_draws}
use Rattle.claim.specs.Claim.{encryption, Fits, drawn, Demand3}
use Rattle.claim.specs.Ceiling.{WithinCeiling}
use Rattle.claim.proofs.Claim.{demand_3}
use Rattle.claim.proofs.Ceiling.{within_ceiling}
use Rattle.sheet_bench.proofs.Numbers.{bench_drawn}
use Rattle.sheet_parts.specs.Checks.{has_sheet_of, input_bytes_of}
use Rattle.sheet_rows.specs.Input.{key_seed_of, sealing_seed_of, message_of, handed_in, rows_answer}
use Rattle.sheet_rows.proofs.Sets.{sheet_encryption, sheet_set}
use Rattle.sheet_rows.proofs.RowLaws.{input_long}

-- the seeds and the message of an input have 32 bytes
part_size : (input : List ℕ) (from : ℕ) → length input ≡ 97 → from + 32 ≤ 97 → length (region input from 32) ≡ 32
part_size input from size fits = region_length input from 32 (omega arith)

-- the message is one of bytes
message_bytes_lem : (input : List ℕ) → length input ≡ 97 → Digit 8 input → Digit 8 (message_of input)
unfolding message_of
message_bytes_lem input size bytes k = elim (dec_lt k 32) [
  | yes inside ↦ rw (region_entry input 65 32 k 0 inside) (bytes (65 + k))
  | no past ↦ rw (get_or-eq_default (region input 65 32) 0 {n = k} (omega (arith, part_size input 65 size (omega arith)))) (omega arith)
]

-- what an input of an encryption set hands in fits
input_fits : (set : ℕ) (input : List ℕ) → Digit 8 input → has_sheet_of set ≡ true → 1 ≤ set → length input ≡ 97
    → Fits set (encryption (key_seed_of input) (message_of input) (sealing_seed_of input))
unfolding key_seed_of sealing_seed_of message_of
input_fits set input bytes has some size = (
  sheet_encryption set has some,
  part_size input 1 size (omega arith),
  part_size input 33 size (omega arith),
  part_size input 65 size (omega arith),
  message_bytes_lem input size bytes,
)

-- what it hands in, and what it answers after its checks
handed_seeds : (set : ℕ) (input : List ℕ) → 1 ≤ set → handed_in set input ≡ encryption (key_seed_of input) (message_of input) (sealing_seed_of input)
unfolding handed_in
handed_seeds set input some = rw (ne_eqb set 0 (λ z. omega arith))

answer_seeds : (set : ℕ) (input : List ℕ) → 1 ≤ set → rows_answer set input ≡ key_draws (set_of set) (key_seed_of input)
unfolding rows_answer
answer_seeds set input some = rw (ne_eqb set 0 (λ z. omega arith))

-- what an accepted input hands in fits, and no draw of it is refused
rows_taken : (set : ℕ) (input : List ℕ) → Digit 8 input → has_sheet_of set ≡ true → length input ≡ input_bytes_of set → rows_answer set input ≡ accepted
    → Fits set (handed_in set input) × (drawn set (handed_in set input) ≡ accepted)
unfolding input_bytes_of rows_answer handed_in
rows_taken zero input bytes has size answer = (tt, bench_drawn input size answer)
rows_taken (suc set) input bytes has size answer =
    rw (handed_seeds (suc set) input (omega arith)) (
      input_fits (suc set) input bytes has (omega arith) (size ∙ input_long (suc set) (omega arith)),
      sym (answer_seeds (suc set) input (omega arith)) ∙ answer,
    )

module _ (set : ℕ) (input : List ℕ) (bytes : Digit 8 input) (has : has_sheet_of set ≡ true) (size : length input ≡ input_bytes_of set)
    (answer : rows_answer set input ≡ accepted) where
  -- demand 3 on the rows of an accepted input
  pub rows_claim : Demand3 set (handed_in set input)
  rows_claim = let taken = rows_taken set input bytes has size answer in demand_3 set (handed_in set input) (sheet_set set has) taken.0 taken.1

  -- and their noise is within the ceiling
  pub rows_within : WithinCeiling set (handed_in set input)
  rows_within = let taken = rows_taken set input bytes has size answer in within_ceiling set (handed_in set input) (sheet_set set has) taken.0 taken.1
