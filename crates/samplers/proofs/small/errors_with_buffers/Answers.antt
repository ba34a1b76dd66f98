-- `samplers::small::errors_with_buffers` meets its contract: the bytes are an output of the seed.
-- Assumes nothing.
use native.Mathlib.Omega.{arith}
use Rattle.samplers.specs.Seeded.{errors_drawn}
use borrow.Author.Rules.{rules}
use Rattle.samplers.proofs.small.errors_with_buffers.Goals as goal

pub source_bytes-requires : goal.source_bytes-requires
source_bytes-requires c =
    let pre = c.requires in
    (pre.rules.2, omega (arith, pre.bytes_len.0, pre.rules.1.most_error_bytes))

pub returns : goal.returns
unfolding errors_drawn
returns c =
    rw (c.source_bytes.ensures.bytes, c.requires.bytes_len.0) at c.fill_errors.ensures
