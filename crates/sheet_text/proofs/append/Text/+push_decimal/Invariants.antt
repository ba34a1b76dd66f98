-- The proof of `sheet_text::append::Text::push_decimal`, which calls itself: the measure is the number.
-- Assumes nothing.
use Rattle.sheet_text.proofs.append.Text.+push_decimal.Given as goal

abbrev pub decreases-push_decimal : goal.decreases-push_decimal
decreases-push_decimal l = l.n
