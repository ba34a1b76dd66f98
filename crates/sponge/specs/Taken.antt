-- What a sponge has taken in, by its fields.
-- Assumes nothing.
use Rattle.std.specs.Prelude.{List, ℕ}
use Rattle.sponge.specs.declared.state.Sponge.{Sponge}
use Rattle.sponge.specs.Absorbed.{Absorbed, Fed}

-- the sponge has taken in m
abbrev pub Holds : List ℕ → Sponge → Type 0
Holds m s = Absorbed m s.state s.block s.waiting

-- from one sponge to the next: whatever was taken in, these bytes are taken in after it
abbrev pub TakesIn : Sponge → List ℕ → Sponge → Type 0
TakesIn s bytes t = Fed s.state s.block s.waiting bytes t.state t.block t.waiting
