-- `keccak::chi` is χ, row by row.
-- Assumes nothing.
use mathlib.Core.List.{[]}
use Rattle.keccak.specs.Keccak.{χ}
use Rattle.keccak.proofs.Rows.{five_made}
use Rattle.keccak.proofs.chi.Goals as goal

pub returns : goal.returns
unfolding χ
returns c = let items = c.map.ensures.items in five_made _ [] _ items.long (λ i h. (items.at i [] [] h).2.met)
