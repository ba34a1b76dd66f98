-- No size of noise exceeds the ceiling (02, No. 5), at any place of what is handed in, whether a sheet prints it or not.
-- Assumes nothing.
use Rattle.std.specs.Prelude.{ℕ, ◌≤◌, ◌<◌, nat_abs}
use Rattle.sets.specs.Table.{set_of}
use Rattle.ceiling.specs.Ceiling.{ceiling}
use Rattle.claim.specs.Claim.{Handed, noise_at_of}

abbrev pub WithinCeiling : ℕ → Handed → Type 0
WithinCeiling set x = (j : ℕ) → j < (set_of set).d → nat_abs (noise_at_of set x j) ≤ ceiling (set_of set)
