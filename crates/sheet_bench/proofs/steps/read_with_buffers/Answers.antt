-- `sheet_bench::steps::read_with_buffers` meets its contract: each call accepts what the one before leaves.
-- Assumes nothing.
use Rattle.sheet_bench.proofs.Rows.{three_steps}
use Rattle.sheet_bench.proofs.steps.read_with_buffers.Goals as goal

pub returns : goal.returns
returns c =
    three_steps c.args.a.now c.args.s.now c.args.e.now c.args.r.now c.args.m.now c.requires.0
    c.args.b.now c.args.c1.now c.args.c2.now c.args.read.now c.requires.1 c.requires.2 c.requires.3 c.requires.4
    c.key.ensures.left c.sealing.ensures.first c.sealing.ensures.second c.reading.ensures.left
