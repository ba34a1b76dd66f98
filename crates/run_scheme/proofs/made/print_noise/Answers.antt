-- `run_scheme::made::print_noise` meets its contract: the noise is filled in, and its sheet is written.
-- Assumes nothing.
use mathlib.Core.Path.{sym, ◌∙◌}
use native.Mathlib.Omega.{arith}
use Rattle.run_scheme.proofs.made.print_noise.Goals as goal

pub write_sheet-written-requires : goal.write_sheet-written-requires
write_sheet-written-requires g c = (
  record {
    sizes = c.fill_noise.ensures;
    sent_length = c.requires.1 ∙ sym c.fill_noise.auto.noise;
    read_length = c.requires.1 ∙ sym c.fill_noise.auto.noise;
  },
  omega (arith, c.requires.2, c.fill_noise.auto.noise),
  c.requires.3,
)
