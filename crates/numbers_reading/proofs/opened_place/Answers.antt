-- `numbers_reading::opened_place` meets its contract: the place of c2 less a place of the product of c1 and s.
-- Assumes nothing.
use mathlib.Core.Path.{sym, ◌∙◌}
use native.Mathlib.Omega.{arith}
use Rattle.residues.proofs.Laws.{remainder_below}
use Rattle.numbers.proofs.ReadingLaws.{opened_at}
use Rattle.numbers_reading.proofs.opened_place.Goals as goal

pub subtract-requires : goal.subtract-requires
subtract-requires c = (
  c.requires.1.second_residues c.args.j (omega (arith, c.requires.1.second_length)),
  remainder_below _ c.product_place-middle.ensures
      (omega (arith, c.requires.0.prime.above)),
  c.requires.0.small,
)

pub returns : goal.returns
returns c =
    let args = c.args in
    c.subtract.ensures
    ∙ rw c.product_place-middle.ensures
    (sym (opened_at args.p args.c1.now args.c2.now args.s.now args.j c.requires.1.first_length c.requires.2))
