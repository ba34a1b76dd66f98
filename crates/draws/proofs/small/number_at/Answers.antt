-- `draws::small::number_at` meets its contract: one byte or two.
-- Assumes nothing.
use mathlib.Core.Path.{◌≡◌}
use native.Mathlib.Omega.{arith}
use Rattle.draws.proofs.Candidates.{little_one, little_two}
use Rattle.draws.proofs.small.number_at.Goals as goal

pub returns-then-width-eq1 : goal.returns-then-width-eq1
returns-then-width-eq1 c =
    let args = c.args in
    let one : args.width ≡ 1 = c.if-width-eq1.true in
    rw one (omega (arith, little_one args.bytes.now args.at (omega arith)))

pub returns-else-width-eq1 : goal.returns-else-width-eq1
returns-else-width-eq1 c =
    let args = c.args in
    let two : args.width ≡ 2 = omega arith in
    rw two (omega (arith, c.from_le_bytes.ensures, little_two args.bytes.now args.at (omega arith)))
