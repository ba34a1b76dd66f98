-- `ntt_butterflies::twiddled_butterfly` meets its contract: every sum fits, and the values are those of a butterfly.
-- Assumes nothing.
use native.Mathlib.Omega.{arith}
use Rattle.ntt_butterflies.proofs.Lazy.{twice, twiddled_values}
use Rattle.ntt_butterflies.proofs.twiddled_butterfly.Goals as goal

pub turned_difference-requires : goal.turned_difference-requires
turned_difference-requires c =
    let pre = c.requires in
    (pre.3, twice _ _ pre.0.lifted.multiple, omega arith, omega arith, omega arith)

pub turned_difference-requires-2 : goal.turned_difference-requires-2
turned_difference-requires-2 c =
    let pre = c.requires in
    (pre.3, twice _ _ pre.0.lifted.multiple, omega arith, omega arith, omega arith)

pub returns : goal.returns
returns c =
    let f = c.turned_difference-f in
    let h = c.turned_difference-h in
    let y = c.turned_difference in
    let z = c.turned_difference-2 in
    twiddled_values c.requires.0 _ _ _ f.result h.result y.result z.result
    f.ensures h.ensures y.ensures z.ensures
