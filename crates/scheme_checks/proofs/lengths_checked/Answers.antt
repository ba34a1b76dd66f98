-- `scheme_checks::lengths_checked` meets its contract: each test of the code is one of the definition.
-- Assumes nothing.
use Rattle.scheme_checks.proofs.lengths_checked.Goals as goal

pub returns-then-not-slices : goal.returns-then-not-slices
returns-then-not-slices c = rw c.if-not-slices.true

pub returns-then-not-ciphertext : goal.returns-then-not-ciphertext
returns-then-not-ciphertext c = rw (c.if-not-slices.false, c.if-not-ciphertext.true)

pub returns-then-not-work : goal.returns-then-not-work
returns-then-not-work c = rw (c.if-not-slices.false, c.if-not-ciphertext.false, c.if-not-work.true)

pub returns : goal.returns
returns c = rw (c.if-not-slices.false, c.if-not-ciphertext.false, c.if-not-work.false)
