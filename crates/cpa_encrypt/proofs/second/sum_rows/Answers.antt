-- The products are added up from zero, and the rows of their sum are taken back.
-- Assumes nothing.
use mathlib.Core.Path.{ap, ◌∙◌}
use Prim.Native.Nat.{ℕ}
use lib.ListN.{replicate}
use Rattle.cpa_encrypt.proofs.Correlating.{total_stored}
use Rattle.cpa_encrypt.proofs.second.sum_rows.Goals as goal

pub sum_stored-requires : goal.sum_stored-requires
sum_stored-requires c =
    let pre = c.requires in
    (pre.1, pre.2, pre.3, c.load_tables.ensures, c.clear.ensures ∙ ap (λ (n : ℕ). replicate n 0) pre.5, pre.6)

pub recover_rows-requires : goal.recover_rows-requires
recover_rows-requires c = (
  c.requires.0,
  c.requires.1,
  c.load_tables.ensures,
  total_stored c.args.p c.requires.1 c.args.numbers.now c.args.multipliers.now _ c.sum_stored.ensures,
)

pub returns : goal.returns
returns c = rw c.sum_stored.ensures at c.recover_rows.ensures
