-- An input of the bench sheet (01, The bench sheet; How each call answers: Bench sheet): what it hands in, and the numbers of its rows.
-- Assumes nothing.
use Rattle.std.specs.Prelude.{cond, List, ℕ, eqb, ℤ}
use Rattle.maths.specs.Vector.{tabulate}
use Rattle.calls.specs.Outcome.{Outcome}
use Rattle.calls.specs.Region.{region}
use Rattle.sets.specs.Table.{set_of}
use Rattle.draws.specs.Calls.{in_turn}
use Rattle.scheme.specs.Answers.{key_draws}
use Rattle.claim.specs.Claim.{Handed, encryption, noise_at_of, bit_sent, bit_read}
use Rattle.sheet_bench.specs.Bench.{bench_handed, bench_answer}

unfoldable pub key_seed_of : List ℕ → List ℕ
key_seed_of input = region input 1 32

unfoldable pub sealing_seed_of : List ℕ → List ℕ
sealing_seed_of input = region input 33 32

unfoldable pub message_of : List ℕ → List ℕ
message_of input = region input 65 32

-- what an input hands in: the numbers of set 0, or the seeds and the message of an encryption set
unfoldable pub handed_in : ℕ → List ℕ → Handed
handed_in set input = cond (eqb set 0) (bench_handed input) (encryption (key_seed_of input) (message_of input) (sealing_seed_of input))

-- the numbers of the rows: the noise that demand 3 speaks of, the bits sent and the bits read
unfoldable pub row_noise : ℕ → List ℕ → List ℤ
row_noise set input = in_turn (noise_at_of set (handed_in set input)) 0 (set_of set).d

unfoldable pub row_sent : ℕ → List ℕ → List ℕ
row_sent set input = tabulate (set_of set).d (bit_sent set (handed_in set input))

unfoldable pub row_read : ℕ → List ℕ → List ℕ
row_read set input = tabulate (set_of set).d (bit_read set (handed_in set input))

-- 3 at the first byte of set 0 out of range, and 5 when a draw of the key is refused: the draws of the sealing are never refused
unfoldable pub rows_answer : ℕ → List ℕ → Outcome
rows_answer set input = cond (eqb set 0) (bench_answer input) (key_draws (set_of set) (key_seed_of input))

-- how many numbers the work slice of a sheet has: the largest work length of the sets that have one
unfoldable pub sheet_work : ℕ
sheet_work = 22521
