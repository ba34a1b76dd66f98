-- `residues::long_remainder` meets its contract: the bits above the lower 23 are replaced by a number below 2^25.
-- Assumes nothing.
use mathlib.Core.Path.{◌∙◌}
use Rattle.residues.proofs.Barrett.{upper_reduced}
use Rattle.residues.proofs.long_remainder.Goals as goal

pub returns : goal.returns
returns c =
    c.short_remainder.ensures ∙ upper_reduced c.args.q c.args.x c.partial_remainder-upper.result
    c.partial_remainder-upper.ensures.0
