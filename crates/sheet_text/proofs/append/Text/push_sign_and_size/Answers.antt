-- `sheet_text::append::Text::push_sign_and_size` meets its contract: by the sign, the minus sign and the size, or the size.
-- Assumes nothing.
use mathlib.Core.Path.{sym, ap, ◌∙◌}
use mathlib.Core.List.{[], ◌∷◌, ◌++◌}
use Prim.Native.Nat.{ℕ}
use lib.ListN.{length}
use lib.IntN.{nat_abs}
use Rattle.sheet_text.specs.Decimal.{decimal}
use Rattle.sheet_text.proofs.DecimalLaws.{signed_negative, signed_natural}
use Rattle.maths.proofs.SignedWord.{number_kept, stored_sign}
use Rattle.sheet_text.proofs.WrittenLaws.{appended, appended_as, room_front, room_next}
use Rattle.sheet_text.proofs.append.Text.push_sign_and_size.Goals as goal

pub push-requires : goal.push-requires
push-requires c =
    let text = signed_negative c.args.z (stored_sign c.args.z c.ranges.z c.if-z-lt0.true) in
    room_front (length c.args.self.now) (45 ∷ []) (decimal (nat_abs c.args.z)) (rw text at c.requires.1)

pub push_decimal-requires : goal.push_decimal-requires
push_decimal-requires c =
    let text = signed_negative c.args.z
    (stored_sign c.args.z c.ranges.z c.if-z-lt0.true) in
    rw (c.size.ensures ∙ ap nat_abs (number_kept c.args.z c.ranges.z))
    (room_next c.push.ensures (decimal (nat_abs c.args.z)) (rw text at c.requires.1))

pub returns-then-z-lt0 : goal.returns-then-z-lt0
returns-then-z-lt0 c =
    let text = signed_negative c.args.z (stored_sign c.args.z c.ranges.z c.if-z-lt0.true) in
    appended_as (ap (λ (n : ℕ). (45 ∷ []) ++ decimal n)
    (c.size.ensures ∙ ap nat_abs (number_kept c.args.z c.ranges.z)) ∙ sym text)
    (appended c.push.ensures c.push_decimal.ensures)

pub push_decimal-requires-2 : goal.push_decimal-requires-2
push_decimal-requires-2 c =
    let text = signed_natural c.args.z (stored_sign c.args.z c.ranges.z c.if-z-lt0.false) in
    rw (c.size-2.ensures ∙ ap nat_abs (number_kept c.args.z c.ranges.z)) (rw text at c.requires.1)

pub returns : goal.returns
returns c =
    let text = signed_natural c.args.z (stored_sign c.args.z c.ranges.z c.if-z-lt0.false) in
    appended_as (ap decimal (c.size-2.ensures ∙ ap nat_abs (number_kept c.args.z c.ranges.z)) ∙ sym text)
    c.push_decimal-2.ensures
