-- The answer and the rows of an input: what the first byte out of range decides, and what the three steps give.
-- Assumes nothing.
use mathlib.Core.Path.{◌≡◌, sym, ap, ◌∙◌}
use mathlib.Core.List.{List, [], ◌∷◌, map}
use Prim.Native.Nat.{ℕ, ◌≤◌, ◌<◌}
use native.Mathlib.Nat.{zero-add}
use native.Mathlib.Omega.{arith}
use lib.IntN.{ℤ}
use lib.ListN.{length}
use Rattle.calls.specs.Outcome.{accepted, refused}
use Rattle.calls.specs.Checks.{passing}
use Rattle.calls.proofs.Outcome.{leaves_accepted}
use Rattle.calls.proofs.Checks.{refuse_first_fails, refuse_first_passes}
use Rattle.numbers.specs.Scheme.{key, first_part_of, second_part, reading}
use Rattle.numbers.specs.Calls.{key_answer, key_left, sealing_answer, first_part_left, second_part_left, reading_answer, reading_left}
use Rattle.numbers.specs.Noise.{numbers_noise}
use Rattle.claim.specs.Claim.{on_numbers, first_of, second_of, drawn}
use Rattle.claim.proofs.Claim.{demand_3}
use Rattle.sheet_bench.specs.Bench.{bench, bench_public, bench_secret, bench_errors, bench_multipliers, bench_message, bench_fits, bench_answer, bench_noise}
use Rattle.sheet_bench.specs.Bench.{bench_read}
use Rattle.sheet_bench.proofs.Numbers.{bench_errors_lem, bench_message_lem, bench_first}

-- a byte out of range refuses the input at its place
pub rows_refused : (input : List ℕ) (i : ℕ) → i ≡ passing bench_fits 0 input → i < length input → bench_answer input ≡ refused 3 i
unfolding bench_answer
rows_refused input i e h = refuse_first_fails bench_fits 0 0 input accepted i e h ∙ ap (refused 3) (zero-add i)

-- else it is accepted
pub rows_accepted : (input : List ℕ) (i : ℕ) → i ≡ passing bench_fits 0 input → length input ≤ i → bench_answer input ≡ accepted
unfolding bench_answer
rows_accepted input i e h = refuse_first_passes bench_fits 0 0 input accepted i e h

-- each call accepts what the one before leaves (`demand_3`), so that the last gives the bits read
pub three_steps : (a s : List ℕ) (e r : List ℤ) (m : List ℕ) → drawn 0 (on_numbers a s e r m) ≡ accepted → (b₀ c1₀ c2₀ bits₀ : List ℕ) {b c1 c2 bits : List ℕ}
    → length b₀ ≡ 3 → length c1₀ ≡ 3 → length c2₀ ≡ 2 → length bits₀ ≡ 2
    → b ≡ key_left 0 a s e b₀ → c1 ≡ first_part_left 0 a b r m c1₀ (length c2₀) → c2 ≡ second_part_left 0 a b r m (length c1₀) c2₀
    → bits ≡ reading_left 0 c1 c2 s bits₀
    → bits ≡ reading 0 bench (first_of 0 a r) (second_of 0 a s e r m) s
unfolding key_left first_part_left second_part_left reading_left
three_steps a s e r m given b₀ c1₀ c2₀ bits₀ {b} {c1} {c2} {bits} lb l1 l2 lr kb k1 k2 kr =
    let chained = demand_3 0 (on_numbers a s e r m) (omega arith) tt given in
    let keyed : key_answer 0 a s e (length b₀) ≡ accepted = rw (lb ∙ sym bench_errors_lem) chained.key_accepts in
    let is_b : b ≡ key bench a s e = kb ∙ leaves_accepted (key bench a s e) b₀ keyed in
    let sealed : sealing_answer 0 a b r m (length c1₀) (length c2₀) ≡ accepted = rw (is_b, l1 ∙ sym bench_first, l2 ∙ sym bench_message_lem)
    chained.sealing_accepts in
    let is-c1 : c1 ≡ first_part_of bench a r = k1 ∙ leaves_accepted (first_part_of bench a r) c1₀ sealed in
    let is-c2 : c2 ≡ second_of 0 a s e r m = k2 ∙ leaves_accepted (second_part bench b r m) c2₀ sealed ∙ ap (λ (x : List ℕ). second_part bench x r m) is_b in
    let opened : reading_answer 0 c1 c2 s (length bits₀) ≡ accepted = rw (is-c1, is-c2, lr ∙ sym bench_message_lem) chained.reading_accepts in
    kr ∙ leaves_accepted (reading 0 bench c1 c2 s) bits₀ opened ∙ rw (is-c1, is-c2)

-- the noise, from copies of the errors and multipliers
pub noise_from_lem : (input : List ℕ) {e r : List ℤ} → e ≡ bench_errors input → r ≡ bench_multipliers input
    → map (numbers_noise bench e r) (0 ∷ 1 ∷ []) ≡ bench_noise input
unfolding bench_noise
noise_from_lem input same-e same-r = rw (same-e, same-r)

-- the bits read, from copies of all numbers
pub read_from : (input : List ℕ) {a s : List ℕ} {e r : List ℤ} {m : List ℕ} → a ≡ bench_public input → s ≡ bench_secret input → e ≡ bench_errors input
    → r ≡ bench_multipliers input → m ≡ bench_message input
    → reading 0 bench (first_of 0 a r) (second_of 0 a s e r m) s ≡ bench_read input
unfolding bench_read
read_from input same-a same_s same-e same-r same-m = rw (same-a, same_s, same-e, same-r, same-m)
