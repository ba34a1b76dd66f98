-- The byte source PRG of Titanium 1.1 (003, section 2.2.3, algorithms 4 and 5).
-- Assumes nothing.
use Rattle.std.specs.Prelude.{List, [], ℕ, ◌+◌}
use Rattle.sets.specs.declared.Parameters.{Parameters}
use Rattle.maths.specs.Bytes.{bytes_of}
use Rattle.sponge.specs.Kmac.{kmacxof256}

-- prgst: the seed, and the counter of the next output
pub record State : Type 0 where
  pub seed : List ℕ
  pub counter : ℕ

-- the state of a seed and a counter
abbrev pub state_at : List ℕ → ℕ → State
state_at seed counter = record { seed = seed; counter = counter }

-- algorithm 4, PRG.Init: the counter is 0
abbrev pub initial : List ℕ → State
initial seed = state_at seed 0

-- what an output gives: its bytes, and the state afterwards
pub record Output : Type 0 where
  pub bytes : List ℕ
  pub next : State

-- algorithm 5, PRG.Out: n bytes of a state, KMACXOF256 of the counter's four bytes, least significant first, under the seed as the key, with no
-- customization; each output raises the counter by one. The one definition that says which bytes come and how the counter moves; a set with another
-- source would choose it here by its parameters p.
unfoldable pub output : Parameters → State → ℕ → Output
output p state n =
    record { bytes = kmacxof256 state.seed (bytes_of 4 state.counter) [] n; next = state_at state.seed (state.counter + 1) }
