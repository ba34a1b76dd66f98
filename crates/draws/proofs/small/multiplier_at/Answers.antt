-- `draws::small::multiplier_at` meets its contract: the size, the sign and the bits are those of the position.
-- Assumes nothing.
use mathlib.Core.Path.{◌∙◌}
use native.Mathlib.Omega.{arith}
use mir.Syntax.{w32}
use mir.Val.{SFits}
use mir.Facts.{to_z-of_z}
use Rattle.sets.specs.Derived.{multiplier_bytes_of}
use Rattle.draws.specs.Small.{multiplier_at_of}
use Rattle.sets.proofs.Counts.{bits_most}
use Rattle.draws.proofs.Positions.{place_most, lent_true, sign_bit_most}
use borrow.Author.Rules.{rules}
use Rattle.draws.proofs.small.multiplier_at.Goals as goal

pub overflow_mul-position : goal.overflow_mul-position
overflow_mul-position c =
    let place = place_most c.args.position (multiplier_bytes_of c.args.p) (omega arith) c.requires.1.most_size in
    rw c.multiplier_bytes-width.ensures (omega arith)

pub number_at-size-requires : goal.number_at-size-requires
number_at-size-requires c =
    let bytes = lent_true _ _ _ c.requires.3 in
    rw c.multiplier_bytes-width.ensures (c.requires.1.some_size, c.requires.1.most_size, bytes.sizes)

pub sign_at-sign-requires : goal.sign_at-sign-requires
sign_at-sign-requires c =
    let bytes = lent_true _ _ _ c.requires.3 in
    rw c.signs_at.ensures bytes.sign

pub multiplier_of-requires : goal.multiplier_of-requires
multiplier_of-requires c =
    rw (c.multiplier_bits.ensures, c.sign_at-sign.ensures) (bits_most c.args.p c.requires.0 c.args.position, sign_bit_most _ _ _)

pub returns : goal.returns
unfolding multiplier_at_of
returns c =
    let fits : SFits w32 c.multiplier_of.result = search rules in
    to_z-of_z fits ∙ c.multiplier_of.ensures
    ∙ rw (
      c.multiplier_bits.ensures,
      c.number_at-size.ensures,
      c.sign_at-sign.ensures,
      c.multiplier_bytes-width.ensures,
      c.signs_at.ensures,
    )
