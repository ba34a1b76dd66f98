-- `ntt_by_row::inverse_numbers` meets its contract: the transform of the numbers that were copied, scaled.
-- Assumes nothing.
use mathlib.Core.Path.{◌≡◌, refl, sym, ◌∙◌}
use Prim.Native.Nat.{◌-◌}
use native.Mathlib.Nat.{mul-one, le_refl}
use native.Mathlib.Omega.{arith}
use lib.ListN.{length, take}
use Rattle.calls.proofs.Parts.{array_front}
use Rattle.ntt_by_row.proofs.Lent.{copied}
use Rattle.ntt_by_row.proofs.inverse_numbers.Goals.{After-copy_in}
use Rattle.ntt_by_row.proofs.inverse_numbers.Goals as goal

-- the numbers that were copied
buffer_front : (c : After-copy_in) → let args = c.args in take (length args.x.now - 0) c.copy_in.new.dst ≡ args.x.now
buffer_front c =
    let whole : length c.args.x.now - 0 ≡ length c.args.x.now = omega arith in
    rw whole (copied _ _ (length c.args.x.now) c.copy_in.ensures refl (omega (arith, c.requires)))

pub inverse_with_buffer-requires : goal.inverse_with_buffer-requires
inverse_with_buffer-requires c =
    rw (buffer_front (goal.at.inverse_with_buffer-requires c).After-copy_in) (
      c.requires.0,
      sym (mul-one _),
      sym c.requires.1,
      c.requires.3,
      le_refl _,
      array_front 16 (length c.args.x.now) (omega (arith, c.requires.1, c.requires.2)),
    )

pub returns : goal.returns
returns c w table whole =
    let n = length c.args.x.now in
    c.inverse_with_buffer.ensures w n table whole (sym (mul-one n)) (le_refl n)
    ∙ rw (buffer_front (goal.at.returns c).After-copy_in, mul-one n, c.requires.1)
