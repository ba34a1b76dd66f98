-- `sheet_text::append::Text::push_number` meets its contract: the digits, then the byte.
-- Assumes nothing.
use mathlib.Core.List.{[], ◌∷◌}
use lib.ListN.{length}
use Rattle.sheet_text.specs.Decimal.{decimal}
use Rattle.sheet_text.proofs.WrittenLaws.{appended, room_front, room_next}
use Rattle.sheet_text.proofs.append.Text.push_number.Goals as goal

pub push_decimal-requires : goal.push_decimal-requires
push_decimal-requires c = room_front (length c.args.self.now) (decimal c.args.n) (c.args.end ∷ []) c.requires

pub push-requires : goal.push-requires
push-requires c =
    room_next c.push_decimal.ensures (c.args.end ∷ []) c.requires

pub returns : goal.returns
returns c = appended c.push_decimal.ensures c.push.ensures
