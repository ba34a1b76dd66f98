-- `residues::threshold_bit` meets its contract: below, above, and between the thresholds.
-- Assumes nothing.
use mathlib.Core.Path.{sym}
use Rattle.maths.proofs.Rounding.{threshold_bit_below, threshold_bit_between, threshold_bit_above}
use Rattle.residues.proofs.threshold_bit.Goals as goal

pub returns-then-w-h : goal.returns-then-w-h
returns-then-w-h c = sym (threshold_bit_below _ _ c.if-w-h.true)

pub returns-then-h-w : goal.returns-then-h-w
returns-then-h-w c = sym (threshold_bit_above _ _ c.if-h-w.true)

pub returns : goal.returns
returns c = sym (threshold_bit_between _ _ c.if-w-h.false c.if-h-w.false)
