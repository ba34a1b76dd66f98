-- `ntt_butterflies::plain_butterfly` meets its contract: every sum and difference fits, and the values are those of a butterfly.
-- Assumes nothing.
use Rattle.ntt_butterflies.proofs.Lazy.{some_modulus, plain_values}
use Rattle.ntt_butterflies.proofs.plain_butterfly.Goals as goal

pub returns : goal.returns
returns c = plain_values c.requires.0 (some_modulus c.args.reducer.modulus) _ c.turned_difference-h.result c.turned_difference-h.ensures
