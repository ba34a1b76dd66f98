-- Laws of the rows: what those of set 0 and those of an encryption set are.
-- Assumes nothing.
use mathlib.Core.Path.{◌≡◌, refl, sym, ◌∙◌}
use mathlib.Core.List.{List}
use Prim.Native.Nat.{ℕ, zero, suc, ◌-◌, ◌^◌, ◌≤◌, ◌<◌}
use native.Mathlib.Omega.{arith}
use borrow.Author.Tests.{ne_eqb}
use lib.IntN.{ℤ, pos, nat_abs}
use lib.ListN.{length, get_or, take, drop}
use Rattle.maths.proofs.Vector.{tabulate_self}
use Rattle.calls.specs.Outcome.{Outcome, accepted, leaves}
use Rattle.calls.proofs.Outcome.{leaves_accepted}
use Rattle.calls.proofs.Region.{region_part, region_length}
use Rattle.sets.specs.declared.Parameters.{Parameters}
use Rattle.sets.specs.Table.{none, table, set_of}
use Rattle.sets.proofs.Rules.{rules}
use Rattle.ceiling.proofs.Laws.{ceiling_most}
use Rattle.numbers.specs.Noise.{numbers_noise}
use Rattle.numbers.proofs.Laws.{reading_length}
use Rattle.packing.proofs.Laws.{message_bits_length}
use Rattle.draws.specs.Calls.{in_turn}
use Rattle.scheme.specs.Bits.{message_bit}
use Rattle.scheme.specs.Answers.{key_draws}
use Rattle.claim.proofs.Ceiling.{within_ceiling}
use Rattle.sheet_bench.specs.Bench.{bench, bench_handed, bench_secret, bench_errors, bench_multipliers, bench_message, bench_answer, bench_noise, bench_read}
use Rattle.sheet_bench.proofs.Numbers.{bench_message_lem, bench_drawn}
use Rattle.sheet_order.specs.Order.{Sizes}
use Rattle.sheet_order.proofs.Laws.{sizes_small}
use Rattle.sheet_parts.specs.Checks.{input_bytes_of}
use Rattle.sheet_rows.specs.Input.{key_seed_of, sealing_seed_of, message_of, handed_in, row_noise, row_sent, row_read, rows_answer}
use Rattle.sheet_rows.specs.Rows.{seeded_noise, seeded_sent, seeded_read, Rows, SeededRows, InputRows}

-- an input of an encryption set has 97 bytes
pub input_long : (set : ℕ) → 1 ≤ set → input_bytes_of set ≡ 97
unfolding input_bytes_of
input_long set some = rw (ne_eqb set 0 (λ e. omega arith))

-- the seeds and the message as they are lent
key_part_lem : (input : List ℕ) → take (33 - 1) (drop 1 input) ≡ key_seed_of input
unfolding key_seed_of
key_part_lem input = region_part input 1 32 33 refl

sealing_part : (input : List ℕ) → take (65 - 33) (drop 33 input) ≡ sealing_seed_of input
unfolding sealing_seed_of
sealing_part input = region_part input 33 32 65 refl

message_part : (input : List ℕ) → take (97 - 65) (drop 65 input) ≡ message_of input
unfolding message_of
message_part input = region_part input 65 32 97 refl

module _ (input : List ℕ) (size : length input ≡ 14) (answer : bench_answer input ≡ accepted) where
  -- the noise of set 0 is small, since it does not exceed the ceiling
  bench_most : (j : ℕ) → j < 2 → nat_abs (numbers_noise bench (bench_errors input) (bench_multipliers input) j) < 2 ^ 62
  bench_most j h =
      let within = within_ceiling 0 (bench_handed input) (omega arith) tt (bench_drawn input size answer) j (omega (arith, bench_message_lem)) in
      omega (arith, within, ceiling_most bench (rules 0 (omega arith)))

  bench_at : (j : ℕ) → j < length (bench_noise input) → nat_abs (get_or (bench_noise input) j (pos 0)) < 2 ^ 62
  unfolding bench_noise
  bench_at zero h = bench_most 0 (omega arith)
  bench_at (suc zero) h = bench_most 1 (omega arith)
  bench_at (suc (suc j)) h = absurd (omega arith)

  bench_sizes : Sizes (bench_noise input)
  bench_sizes = sizes_small (bench_noise input) bench_at

-- the numbers of the rows of set 0
bench_noises : (input : List ℕ) → row_noise 0 input ≡ bench_noise input
unfolding row_noise handed_in bench_noise in_turn none table set_of
bench_noises input = refl

bench_sent : (input : List ℕ) → length input ≡ 14 → row_sent 0 input ≡ bench_message input
unfolding row_sent handed_in
bench_sent input size = sym (tabulate_self bench.d (bench_message input) (region_length input 12 2 (omega arith) ∙ sym bench_message_lem))

bench_reading : (input : List ℕ) → row_read 0 input ≡ bench_read input
unfolding row_read handed_in bench_read
bench_reading input = sym (tabulate_self bench.d _ (reading_length 0 bench _ _ (bench_secret input)))

-- and of an encryption set
seeded_noises : (set : ℕ) (input : List ℕ) → 1 ≤ set
    → row_noise set input ≡ seeded_noise (set_of set) (key_seed_of input) (message_of input) (sealing_seed_of input)
unfolding row_noise handed_in seeded_noise
seeded_noises set input some = rw (ne_eqb set 0 (λ z. omega arith))

seeded_sent_lem : (set : ℕ) (input : List ℕ) → 1 ≤ set → row_sent set input ≡ seeded_sent (set_of set) (message_of input)
unfolding row_sent handed_in seeded_sent message_bit
seeded_sent_lem set input some =
    rw (ne_eqb set 0 (λ z. omega arith)) (sym (tabulate_self (set_of set).d _ (message_bits_length (set_of set).d (message_of input))))

seeded_reading : (set : ℕ) (input : List ℕ) → 1 ≤ set
    → row_read set input ≡ seeded_read (set_of set) (key_seed_of input) (message_of input) (sealing_seed_of input)
unfolding row_read handed_in seeded_read message_bit
seeded_reading set input some = rw (ne_eqb set 0 (λ z. omega arith)) (sym (tabulate_self (set_of set).d _ (message_bits_length (set_of set).d _)))

-- the rows of set 0
pub bench_filled : (set : ℕ) (input : List ℕ) (o : Outcome) (noise₀ noise : List ℤ) (sent₀ sent read₀ read : List ℕ) → set < 1
    → length input ≡ input_bytes_of set
    → o ≡ bench_answer input
    → noise ≡ leaves (bench_answer input) (bench_noise input) noise₀ → sent ≡ leaves (bench_answer input) (bench_message input) sent₀
    → read ≡ leaves (bench_answer input) (bench_read input) read₀
    → (o ≡ rows_answer set input) × (o ≡ accepted → InputRows set input noise sent read)
unfolding input_bytes_of rows_answer
bench_filled zero input o noise₀ noise sent₀ sent read₀ read low size e n s r =
    rw (bench_noises input, bench_sent input size, bench_reading input) (e, λ a. filled (sym e ∙ a))
  where
    filled : bench_answer input ≡ accepted → Rows (bench_noise input) (bench_message input) (bench_read input) noise sent read
    filled done =
        let noises : noise ≡ bench_noise input = n ∙ leaves_accepted _ _ done in
        record {
          noise_is = noises;
          sizes = rw noises (bench_sizes input size done);
          sent_is = s ∙ leaves_accepted _ _ done;
          read_is = r
              ∙ leaves_accepted _ _ done;
        }
bench_filled (suc set) input o noise₀ noise sent₀ sent read₀ read low size e n s r = absurd (omega arith)

-- the rows of an encryption set
pub seeded_filled : (set : ℕ) (p : Parameters) (input : List ℕ) (o : Outcome) (noise : List ℤ) (sent read : List ℕ) → 1 ≤ set → p ≡ set_of set
    → let seed = take (33 - 1) (drop 1 input) in
    let message = take (97 - 65) (drop 65 input) in
    let sealing = take (65 - 33) (drop 33 input) in
    o ≡ key_draws p seed → (o ≡ accepted → SeededRows p seed message sealing noise sent read)
    → (o ≡ rows_answer set input) × (o ≡ accepted → InputRows set input noise sent read)
unfolding rows_answer
seeded_filled set p input o noise sent read some same e f =
    rw (
      seeded_noises set input some,
      seeded_sent_lem set input some,
      seeded_reading set input some,
      ne_eqb set 0 (λ z. omega arith),
      ← key_part_lem input,
      ← message_part input,
      ← sealing_part input,
      ← same,
    ) (e, f)

-- lengths of an input and of the rows of set 0
pub bench_lengths : (set : ℕ) → set < 1 → (input_bytes_of set ≡ 14) × ((set_of set).d ≡ 2)
unfolding input_bytes_of
bench_lengths zero low = (refl, bench_message_lem)
bench_lengths (suc set) low = absurd (omega arith)
