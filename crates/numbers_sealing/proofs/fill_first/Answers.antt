-- `numbers_sealing::fill_first` meets its contract: each turn writes one number of c1.
-- Assumes nothing.
use mathlib.Core.Path.{sym, ◌∙◌}
use Prim.Native.Nat.{◌+◌, ◌-◌}
use native.Mathlib.Omega.{arith}
use Rattle.maths.proofs.Vector.{tabulate_length, tabulate_at}
use Rattle.calls.proofs.Filled.{filled_none, filled_more, filled_whole}
use Rattle.numbers_sealing.proofs.fill_first.Invariants.{place}
use Rattle.numbers_sealing.proofs.fill_first.Goals as goal

pub loop-j-init : goal.loop-j-init
loop-j-init c = filled_none (tabulate_length _ _) (omega (arith, c.requires.3))

pub sum_place-requires : goal.sum_place-requires
sum_place-requires c =
    let kept = c.requires.0 in (
      kept,
      c.requires.1,
      c.requires.2,
      omega (arith, kept.most_k),
      omega (arith, kept.most_n),
      omega (arith, c.requires.3, c.loop-j.invariant.kept_length, kept.most_n, kept.most_k),
    )

pub loop-j-preserved : goal.loop-j-preserved
loop-j-preserved c =
    let before = c.loop-j in
    filled_more 0 before.invariant (omega (arith, c.requires.3, before.invariant.kept_length)) (omega arith)
    (c.sum_place.ensures
    ∙ sym (tabulate_at (c.args.p.n + c.args.p.k) (place c.args.p c.args.rs.now c.args.a.now) before.j
    (omega (arith, c.requires.3, before.invariant.kept_length))))

pub returns : goal.returns
returns c =
    filled_whole c.loop-j.invariant c.requires.3 (omega (arith, c.requires.3, c.loop-j.invariant.kept_length))

pub offset_bounds-c1-j : goal.offset_bounds-c1-j
offset_bounds-c1-j c = omega arith

pub bounds-c1-j : goal.bounds-c1-j
bounds-c1-j c = omega arith
