-- `ntt_columns::four_products` meets its contract: each product is below 2^49.
-- Assumes nothing.
use Rattle.ntt_columns.proofs.Four.{four_is}
use Rattle.ntt_columns.proofs.four_products.Goals.{After-whole_product, After-whole_product-2, After-whole_product-3, After-whole_product-4}
use Rattle.ntt_columns.proofs.four_products.Goals as goal

pub returns : goal.returns
returns c =
    let args = c.args in
    four_is args.block.now args.at args.a args.b args.c args.d c.whole_product.ensures c.whole_product-2.ensures
    c.whole_product-3.ensures c.whole_product-4.ensures
