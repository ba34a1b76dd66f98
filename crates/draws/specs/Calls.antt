-- What draws in turn give and answer (003, section 2.2.3, algorithms 8 to 10).
-- Assumes nothing.
use Rattle.std.specs.Prelude.{Bool, ◌&&◌, List, [], ◌∷◌, ℕ, zero, suc, ◌+◌, ◌*◌, ◌/◌, ltb, leb, ℤ, length}
use Rattle.calls.specs.Outcome.{Outcome, accepted, refused}
use Rattle.calls.specs.Checks.{further}
use Rattle.sets.specs.declared.Parameters.{Parameters}
use Rattle.sets.specs.Derived.{multiplier_bytes_of}
use Rattle.draws.specs.Uniform.{Drawn, taken, ended, exhausted}
use Rattle.draws.specs.Small.{signs_at_of}

-- the answer of a uniform draw whose first result has this place: 4 when the candidates end, 5 when one result's 128th in a row is set aside
unfoldable pub drawn_answer : ℕ → Drawn → Outcome
drawn_answer place (taken xs) = accepted
drawn_answer place (ended xs run) = refused 4 (place + length xs)
drawn_answer place (exhausted i) = refused 5 (place + i)

-- f first, f (first + 1), and so on, n numbers in all
unfoldable pub in_turn : (ℕ → ℤ) → ℕ → ℕ → List ℤ
in_turn f first zero = []
in_turn f first (suc n) = f first ∷ in_turn f (suc first) n

-- the size bytes and the sign byte of a position are among the bytes lent
unfoldable pub lent : Parameters → List ℕ → ℕ → Bool
lent p bytes position = leb (position * multiplier_bytes_of p + multiplier_bytes_of p) (length bytes) && ltb (signs_at_of p + position / 8) (length bytes)

-- how many results in turn, n at most, from the first position on, have their bytes lent
unfoldable pub lent_results_of : Parameters → List ℕ → ℕ → ℕ → ℕ
lent_results_of p bytes first zero = 0
lent_results_of p bytes first (suc n) = further (lent p bytes first) (lent_results_of p bytes (suc first) n)
