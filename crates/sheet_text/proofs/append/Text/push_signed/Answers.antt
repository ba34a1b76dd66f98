-- `sheet_text::append::Text::push_signed` meets its contract: the number, then the byte.
-- Assumes nothing.
use mathlib.Core.List.{[], ◌∷◌}
use lib.ListN.{length}
use Rattle.sheet_text.specs.Decimal.{signed}
use Rattle.maths.proofs.SignedWord.{number_kept}
use Rattle.sheet_text.proofs.WrittenLaws.{appended, room_front, room_next}
use Rattle.sheet_text.proofs.append.Text.push_signed.Goals as goal

pub push_sign_and_size-requires : goal.push_sign_and_size-requires
push_sign_and_size-requires c = rw (number_kept c.args.z c.ranges.z)
    (c.requires.0, room_front (length c.args.self.now) (signed c.args.z) (c.args.end ∷ []) c.requires.1)

pub push-requires : goal.push-requires
push-requires c =
    room_next (rw (number_kept c.args.z c.ranges.z) at c.push_sign_and_size.ensures) (c.args.end ∷ [])
    c.requires.1

pub returns : goal.returns
returns c =
    appended (rw (number_kept c.args.z c.ranges.z) at c.push_sign_and_size.ensures)
    c.push.ensures
