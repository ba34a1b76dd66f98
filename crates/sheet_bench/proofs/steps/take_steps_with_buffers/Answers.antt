-- `sheet_bench::steps::take_steps_with_buffers` meets its contract: the numbers of an input in range are those that the steps take.
-- Assumes nothing.
use mathlib.Core.Path.{◌∙◌}
use Rattle.sheet_bench.proofs.Numbers.{bench_drawn, bench_small}
use Rattle.sheet_bench.proofs.Rows.{noise_from_lem, read_from}
use Rattle.sheet_bench.proofs.steps.take_steps_with_buffers.Goals as goal

pub fill_noise-requires : goal.fill_noise-requires
fill_noise-requires c =
    let parts = c.copy_parts.ensures in
    let given = c.requires.0 in
    (rw (parts.2, parts.3) (bench_small c.args.input.now given.size given.in_range), c.requires.5)

pub read_bits-requires : goal.read_bits-requires
read_bits-requires c =
    let parts = c.copy_parts.ensures in
    let given = c.requires.0 in
    (rw (parts.0, parts.1, parts.2, parts.3, given.sent) (bench_drawn c.args.input.now given.size given.in_range), c.requires.6)

pub returns : goal.returns
returns c =
    let parts = c.copy_parts.ensures in (
      c.fill_noise.ensures ∙ noise_from_lem c.args.input.now parts.2 parts.3,
      c.read_bits.ensures
          ∙ read_from c.args.input.now parts.0 parts.1 parts.2 parts.3 c.requires.0.sent,
    )
