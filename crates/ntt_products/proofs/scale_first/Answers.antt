-- `ntt_products::scale_first` meets its contract: 2^64 is the scaled form of 2^32, and a product with 2^32 is a scaled form.
-- Assumes nothing.
use Rattle.ntt_products.proofs.SentScaled.{scaled_front}
use Rattle.ntt_products.proofs.scale_first.Goals as goal

pub returns : goal.returns
returns c =
    scaled_front c.requires.0 c.args.n _ c.args.x.now _ c.scaled_scale-by.ensures c.requires.1
    (rw c.new.ensures at c.settle.ensures)
