-- `ntt_products::recover_front` meets its contract: the inverse transform with the sizes and the modulus.
-- Assumes nothing.
use mathlib.Core.Path.{sym, ◌∙◌}
use Rattle.ntt_products.proofs.Sizes.{rows_size}
use Rattle.ntt_products.proofs.recover_front.Goals as goal

pub inverse-requires : goal.inverse-requires
inverse-requires c =
    let rows = rows_size c.args.p c.requires.0 c.args.i in
    let placed = c.requires.2 in
    rw c.rows_of.ensures (c.requires.1, placed.size ∙ sym rows, rw rows placed.residues, c.requires.3, rw rows c.requires.4)

pub returns : goal.returns
returns c w tables =
    rw c.rows_of.ensures at (c.inverse.ensures w (rw c.rows_of.ensures tables))
