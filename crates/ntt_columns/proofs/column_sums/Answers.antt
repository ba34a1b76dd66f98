-- `ntt_columns::column_sums` meets its contract: after n rows, four a turn, the sums are those of the first n rows.
-- Assumes nothing.
use mathlib.Core.Path.{refl}
use native.Mathlib.Omega.{arith}
use Prim.Native.Nat.{◌+◌, ◌*◌}
use Rattle.calls.proofs.Region.{region_part}
use Rattle.ntt_columns.proofs.Summing.{Summing, summing_none, add_ready, summing_more, summing_all}
use Rattle.ntt_columns.proofs.column_sums.Goals.{After-advance-place}
use Rattle.ntt_columns.proofs.column_sums.Goals as goal

pub loop-n-init : goal.loop-n-init
loop-n-init c = summing_none c.requires c.clear.ensures

pub add_four-requires : goal.add_four-requires
add_four-requires c =
    let turn = c.loop-n in
    let from = 64 * turn.n in
    rw (region_part c.args.block.now from 256 (from + 256) refl)
    (add_ready c.requires turn.invariant c.args.reducer.modulus.modulus c.loop-n-test.true c.advance-second.ensures.1
    c.advance-third.ensures.1 c.advance-fourth.ensures.1)

-- the sums of four rows more
four_more : (c : After-advance-place)
    → let args = c.args in
    Summing args.reducer.q args.m args.r args.rows args.factors.now args.block.now (c.loop-n.n + 4) c.advance-place.result c.add_four.new.sums
four_more c =
    let turn = c.loop-n in
    let from = 64 * turn.n in
    summing_more c.requires turn.invariant c.advance-second.ensures.0 c.advance-third.ensures.0 c.advance-fourth.ensures.0
    c.advance-place.ensures.0 c.loop-n-test.true c.add_four.auto.sums
    (rw (region_part c.args.block.now from 256 (from + 256) refl) at c.add_four.ensures)

pub loop-n-preserved : goal.loop-n-preserved
loop-n-preserved c = four_more (goal.at.loop-n-preserved c).After-advance-place

pub returns : goal.returns
returns c = summing_all c.requires c.loop-n.invariant c.args.reducer.modulus.modulus c.loop-n-test.false

-- the last turn, after which another step would reach m
pub returns-2 : goal.returns-2
returns-2 c = summing_all c.requires (four_more (goal.at.returns-2 c).After-advance-place) c.args.reducer.modulus.modulus (omega arith)
