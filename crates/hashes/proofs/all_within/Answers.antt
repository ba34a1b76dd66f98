-- `hashes::all_within` tests each length against the limit.
-- Assumes nothing.
use mathlib.Core.Path.{sym}
use borrow.Author.Tests.{lt-leb}
use Rattle.hashes.proofs.Answering.{four_above, four_within}
use Rattle.hashes.proofs.all_within.Goals as goal

pub returns-then-key-gt-LIMIT : goal.returns-then-key-gt-LIMIT
returns-then-key-gt-LIMIT c = sym (four_above _ _ _ _ 0 (lt-leb _ _ c.if-key-gt-LIMIT.true))

pub returns-then-input-gt-LIMIT : goal.returns-then-input-gt-LIMIT
returns-then-input-gt-LIMIT c = sym (four_above _ _ _ _ 1 (lt-leb _ _ c.if-input-gt-LIMIT.true))

pub returns-then-customization-gt-LIMIT : goal.returns-then-customization-gt-LIMIT
returns-then-customization-gt-LIMIT c = sym (four_above _ _ _ _ 2 (lt-leb _ _ c.if-customization-gt-LIMIT.true))

pub returns-then-out-gt-LIMIT : goal.returns-then-out-gt-LIMIT
returns-then-out-gt-LIMIT c = sym (four_above _ _ _ _ 3 (lt-leb _ _ c.if-out-gt-LIMIT.true))

pub returns : goal.returns
returns c = sym (four_within _ _ _ _ c.if-key-gt-LIMIT.false c.if-input-gt-LIMIT.false c.if-customization-gt-LIMIT.false c.if-out-gt-LIMIT.false)
