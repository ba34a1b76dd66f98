-- `sheet_text::rows::put_rows` meets its contract: each turn appends one row.
-- Assumes nothing.
use lib.ListN.{take}
use Rattle.sheet_text.specs.Text.{rows}
use Rattle.sheet_text.specs.Written.{Appended}
use Rattle.sheet_text.proofs.rows.put_rows.Given as goal

abbrev pub invariant-loop-place : goal.invariant-loop-place
invariant-loop-place l = Appended l.initial.text (rows l.noise l.sent l.read (take l.place-index l.places)) l.text
