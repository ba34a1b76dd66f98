-- A length of the record that was found is the set's, and 0 stands where there is none.
-- Assumes nothing.
use mathlib.Core.Path.{◌≡◌, ap, ◌∙◌}
use mathlib.Core.Bool.{true, false}
use Prim.Native.Nat.{ℕ}
use Rattle.std.specs.Prelude.{Option, None, Some, MatchOption}
use Rattle.sets.specs.declared.Parameters.{Parameters}
use Rattle.sets.specs.Table.{set_of, no_set}
use Rattle.sets.specs.Rules.{Rules}
use Rattle.c_lengths.specs.Lengths.{length_of}

pub found : {set length : ℕ} (bytes : ℕ → ℕ) (of : Parameters → ℕ) (o : Option Parameters) → of (set_of set) ≡ bytes set
    → MatchOption o (no_set set ≡ true) (λ p. (no_set set ≡ false) × (p ≡ set_of set) × Rules p)
    → MatchOption o (length ≡ 0) (λ p. length ≡ of p) → length ≡ length_of bytes set
unfolding length_of
found bytes of None same is given = rw is given
found bytes of (Some p) same is given = rw is.0 (given ∙ ap of is.1 ∙ same)
