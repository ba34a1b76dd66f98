-- Set 0 has a sheet, and so have the encryption sets.
-- Assumes nothing.
use borrow.Author.Tests.{eq-eqb, ne_eqb}
use Rattle.sets.specs.Derived.{is_encryption}
use Rattle.sheet_parts.specs.Checks.{has_sheet_of}
use Rattle.sheet_parts.proofs.has_sheet.Goals as goal

pub returns-then-set-eq0 : goal.returns-then-set-eq0
unfolding has_sheet_of
returns-then-set-eq0 c = rw (eq-eqb c.args.set 0 c.if-set-eq0.true)

pub returns : goal.returns
unfolding has_sheet_of is_encryption
returns c = rw (ne_eqb c.args.set 0 c.if-set-eq0.false, c.requires)
