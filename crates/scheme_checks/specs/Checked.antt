-- What the checks of a call give.
-- Assumes nothing.
use Rattle.std.specs.Prelude.{◌≡◌, ℕ, Result, Err, MatchResult}
use Rattle.calls.specs.declared.Refusal.{Refusal}
use Rattle.calls.specs.Outcome.{Outcome, accepted, outcome}
use Rattle.sets.specs.declared.Parameters.{Parameters}
use Rattle.sets.specs.Table.{set_of}

-- the record of the set where they accept, else their refusal
abbrev pub Checked : ℕ → Outcome → Result Parameters Refusal → Type 0
Checked set checks result = MatchResult result (λ p. (p ≡ set_of set) × (accepted ≡ checks)) (λ refusal. outcome (Err refusal) ≡ checks)
