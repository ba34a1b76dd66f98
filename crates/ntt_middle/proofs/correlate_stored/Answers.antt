-- b is stored, the reversed a is correlated with it, and the places of the correlations are copied out.
-- Assumes nothing.
use mathlib.Core.Path.{sym, ◌∙◌}
use native.Mathlib.Omega.{arith}
use Rattle.ntt_products.proofs.Vectors.{sent_inverse_placed}
use Rattle.sets.proofs.Transforms.{third_size}
use Rattle.ntt_middle.proofs.Middle.{reversed_placed, middle_correlated}
use Rattle.ntt_middle.proofs.correlate_stored.Goals as goal

pub store-requires : goal.store-requires
store-requires c =
    let pre = c.requires in
    let third = third_size c.args.p in
    (pre.0, pre.4, pre.1.whole ∙ sym third, rw third pre.1.room, pre.3)

pub load_reversed-requires : goal.load_reversed-requires
load_reversed-requires c =
    let pre = c.requires in
    omega (
      arith,
      pre.1.fit,
      pre.1.results,
      pre.1.room,
      third_size
          c.args.p,
      pre.5,
    )

pub correlate-requires : goal.correlate-requires
correlate-requires c =
    let args = c.args in
    let pre = c.requires in (
      pre.0,
      c.load_tables.ensures,
      rw c.load_reversed.ensures
          (reversed_placed args.p pre.0 args.a.now args.x.now pre.5
          (omega (arith, pre.1.fit, pre.1.results, pre.1.room, third_size args.p)) pre.2),
      pre.1.some,
      rw c.store.ensures (sent_inverse_placed args.p pre.0 3 args.b.now),
      omega (arith, pre.1.fit, pre.1.room, third_size args.p),
    )

pub copy_out-requires : goal.copy_out-requires
copy_out-requires c =
    let pre = c.requires in
    omega (
      arith,
      c.correlate.auto,
      c.load_reversed.auto.x,
      pre.1.fit,
      pre.1.some,
      pre.1.room,
      third_size c.args.p,
      pre.5,
    )

pub returns : goal.returns
returns c =
    let args = c.args in
    let pre = c.requires in
    let third = third_size args.p in
    c.copy_out.ensures
    ∙ middle_correlated args.p pre.0 args.a.now args.b.now _ pre.1.some pre.1.fit (rw third pre.1.room) args.x.now _
    (omega (arith, pre.1.fit, pre.1.results, pre.1.room, third, pre.5))
    (rw (c.load_reversed.ensures, c.store.ensures) at c.correlate.ensures)
