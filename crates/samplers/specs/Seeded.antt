-- What Titanium draws from a seed: Samps, Sampa, Sampe and Sampr (003, section 2.2.3, algorithms 6, 7, 9 and 10).
-- Assumes nothing.
use Rattle.std.specs.Prelude.{◌≡◌, refl, List, ℕ, zero, suc, ◌+◌, ◌*◌, ◌/◌, ◌%◌, ℤ}
use Rattle.sets.specs.declared.Parameters.{Parameters}
use Rattle.sets.specs.Table.{table, set_of}
use Rattle.sets.specs.Derived.{multiplier_count_of, multiplier_draw_bytes_of, error_count_of, error_draw_bytes_of}
use Rattle.draws.specs.Uniform.{Drawn}
use Rattle.draws.specs.Small.{error_at, multiplier_at_of}
use Rattle.draws.specs.Calls.{in_turn}
use Rattle.byte_source.specs.Source.{State, initial, output}
use Rattle.samplers.specs.Blocks.{Sampled, uniform}

-- Samps: from seedsk, d3 numbers, the secret as it is stored, and the state with which Sampe goes on
unfoldable pub secret_sampled : Parameters → List ℕ → Sampled
secret_sampled p seed = uniform p (initial seed) p.bytpcs p.d3

unfoldable pub secret_drawn : Parameters → List ℕ → Drawn
secret_drawn p seed = (secret_sampled p seed).drawn

unfoldable pub secret_state : Parameters → List ℕ → State
secret_state p seed = (secret_sampled p seed).next

-- Sampa: from seedpk, polynomial i begins with the state that polynomial i − 1 left, the first with the seed's own
unfoldable pub public_state : Parameters → List ℕ → ℕ → State
public_state p seed zero = initial seed
public_state p seed (suc i) = (uniform p (public_state p seed i) p.bytpca p.n).next

-- its n numbers
unfoldable pub public_drawn : Parameters → List ℕ → ℕ → Drawn
public_drawn p seed i = (uniform p (public_state p seed i) p.bytpca p.n).drawn

-- place i·(d + k) + j takes byte i·(d + k + 1) + j: of a polynomial's d + k + 1 bytes the last is not used
unfoldable pub error_byte : Parameters → ℕ → ℕ
error_byte p place = place / (p.d + p.k) * (p.d + p.k + 1) + place % (p.d + p.k)

-- the errors of one key from their bytes
unfoldable pub errors_of : Parameters → List ℕ → List ℤ
errors_of p bytes = in_turn (λ place. error_at bytes (error_byte p place)) 0 (error_count_of p)

-- Sampe: all errors of one key, from a state
unfoldable pub errors_drawn : Parameters → State → List ℤ
errors_drawn p state = errors_of p (output p state (error_draw_bytes_of p)).bytes

-- the multipliers of one sealing from their bytes
unfoldable pub multipliers_of : Parameters → List ℕ → List ℤ
multipliers_of p bytes = in_turn (multiplier_at_of p bytes) 0 (multiplier_count_of p)

-- Sampr: all multipliers of one sealing, from seedr
unfoldable pub multipliers_drawn : Parameters → List ℕ → List ℤ
multipliers_drawn p seed = multipliers_of p (output p (initial seed) (multiplier_draw_bytes_of p)).bytes

-- Bench has three errors to a polynomial and one byte more
error_byte_example : error_byte (set_of 0) 2 ≡ 2
unfolding table set_of error_byte
error_byte_example = refl

error_byte_example₂ : error_byte (set_of 0) 3 ≡ 4
unfolding table set_of error_byte
error_byte_example₂ = refl
