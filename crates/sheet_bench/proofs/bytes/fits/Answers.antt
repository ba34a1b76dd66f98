-- `sheet_bench::bytes::fits` meets its contract: the tests are those of the definition, place by place.
-- Assumes nothing.
use mathlib.Core.Path.{◌∙◌}
use native.Mathlib.Omega.{arith}
use Rattle.sheet_bench.proofs.ByteLaws.{fits_set, fits_residue, fits_error, fits_multiplier, fits_message}
use Rattle.sheet_bench.proofs.bytes.fits.Goals as goal

pub returns-then-place-lt1 : goal.returns-then-place-lt1
returns-then-place-lt1 c = fits_set c.args.place c.args.byte (omega arith)

pub returns-then-place-lt7 : goal.returns-then-place-lt7
returns-then-place-lt7 c = fits_residue c.args.place c.args.byte (omega arith) (omega arith)

pub returns-then-place-lt10 : goal.returns-then-place-lt10
returns-then-place-lt10 c =
    rw c.size.ensures (fits_error c.args.place c.args.byte (omega arith) (omega arith))

pub returns-then-place-lt12 : goal.returns-then-place-lt12
returns-then-place-lt12 c =
    c.is_multiplier.ensures ∙ fits_multiplier c.args.place c.args.byte (omega arith) (omega arith)

pub returns : goal.returns
returns c = fits_message c.args.place c.args.byte (omega arith)
