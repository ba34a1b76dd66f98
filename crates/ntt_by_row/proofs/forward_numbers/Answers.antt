-- `ntt_by_row::forward_numbers` meets its contract: the transform of the numbers that were copied.
-- Assumes nothing.
use mathlib.Core.Path.{◌≡◌, sym, ◌∙◌}
use Prim.Native.Nat.{◌-◌}
use native.Mathlib.Nat.{mul-one}
use native.Mathlib.Omega.{arith}
use lib.ListN.{length, take}
use lib.Seq.{length-take-le}
use Rattle.calls.proofs.Parts.{array_front}
use Rattle.ntt_by_row.proofs.Lent.{copied}
use Rattle.ntt_by_row.proofs.forward_numbers.Goals.{After-copy_in}
use Rattle.ntt_by_row.proofs.forward_numbers.Goals as goal

-- the numbers that were copied
buffer_front : (c : After-copy_in) → let args = c.args in take (args.n - 0) c.copy_in.new.dst ≡ take args.n args.x.now
buffer_front c =
    let whole : c.args.n - 0 ≡ c.args.n = omega arith in
    let size : length (take c.args.n c.args.x.now) ≡ c.args.n = length-take-le c.args.n c.args.x.now c.requires.3 in
    rw whole (copied _ _ c.args.n (rw whole at c.copy_in.ensures) size (omega (arith, c.requires)))

pub forward_with_buffer-requires : goal.forward_with_buffer-requires
forward_with_buffer-requires c =
    let size = length-take-le c.args.n c.args.x.now c.requires.3 in
    rw (buffer_front (goal.at.forward_with_buffer-requires c).After-copy_in) (
      c.requires.0,
      size ∙ sym (mul-one _),
      omega (arith, c.requires.1, c.requires.3),
      sym (mul-one _),
      c.requires.1,
      array_front 16 (length c.args.powers.now) c.requires.2,
    )

pub returns : goal.returns
returns c w table whole =
    c.forward_with_buffer.ensures w table whole
    ∙ rw (buffer_front (goal.at.returns c).After-copy_in)
