-- `c2_walk::finish_place` meets its contract: the sum of the column and the message bit are those of the place.
-- Assumes nothing.
use mathlib.Core.Path.{sym, ◌∙◌}
use native.Mathlib.Nat.{mod-lt}
use native.Mathlib.Omega.{arith}
use lib.ListN.{length}
use Rattle.packing.proofs.Laws.{message_bits_at}
use Rattle.ntt.specs.Rows.{first_row_at}
use Rattle.c2_walk.proofs.Finished.{finished_at}
use Rattle.c2_walk.proofs.finish_place.Goals as goal

pub first_row_place-sum-requires : goal.first_row_place-sum-requires
first_row_place-sum-requires c =
    let ready = c.requires.0 in
    (ready.by_below, omega (arith, c.requires.1, ready.one_row), ready.few_rows, ready.size, ready.below)

pub finish-requires : goal.finish-requires
unfolding first_row_at
finish-requires c =
    let ready = c.requires.0 in (
      omega (arith, c.requires.1),
      rw c.first_row_place-sum.ensures (mod-lt _ (omega (arith, c.args.reducer.modulus.modulus.some))),
      rw c.bit_at-bit.ensures (mod-lt _ (omega arith)),
      ready.half_below,
      c.args.reducer.modulus.modulus.small,
    )

pub returns : goal.returns
returns c before walked =
    let args = c.args in
    let byte = c.shared_slice_known-2-1.given in
    let place =
    finished_at args.reducer.q args.by args.half args.count (length args.c2.now) args.rows.now args.message.now args.j c.requires.1 in
    let bit_is = c.bit_at-bit.ensures ∙ sym (message_bits_at (length args.c2.now) args.j args.message.now (λ k. (byte k).fits) c.requires.1) in
    c.finish.ensures _ before (place ∙ rw (c.first_row_place-sum.ensures, bit_is)) walked
