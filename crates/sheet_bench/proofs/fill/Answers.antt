-- `sheet_bench::fill` meets its contract: the message bits are those sent, and the steps give the rest.
-- Assumes nothing.
use mathlib.Core.Path.{ap, ◌∙◌}
use Rattle.calls.specs.Region.{region}
use Rattle.sheet_bench.proofs.fill.Goals as goal

pub take_steps-requires : goal.take_steps-requires
take_steps-requires c = (
  record {
    size = c.requires.0;
    in_range = c.requires.1;
    sent = c.copy_numbers.ensures
        ∙ ap (region c.args.input.now 12) c.requires.3;
  },
  c.requires.2,
  c.requires.4,
)

pub returns : goal.returns
returns c =
    let given = c.take_steps.ensures in
    (given.0, c.copy_numbers.ensures ∙ ap (region c.args.input.now 12) c.requires.3, given.1)
