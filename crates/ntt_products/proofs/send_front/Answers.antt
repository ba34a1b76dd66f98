-- `ntt_products::send_front` meets its contract: the transform with the sizes and the modulus.
-- Assumes nothing.
use mathlib.Core.Path.{sym, ◌∙◌}
use Rattle.ntt_products.proofs.Sizes.{rows_size}
use Rattle.ntt_products.proofs.send_front.Goals as goal

pub forward-requires : goal.forward-requires
forward-requires c =
    let rows = rows_size c.args.p c.requires.0 c.args.i in
    let placed = c.requires.2 in
    rw c.rows_of.ensures (c.requires.1, placed.size ∙ sym rows, rw rows placed.inside, placed.residues)

pub returns : goal.returns
returns c w tables =
    rw c.rows_of.ensures at (c.forward.ensures w (rw c.rows_of.ensures tables))
