-- `packing::unpack_dropped` (003, algorithm 22) meets its contract: after the groups, number i begins at the given bit of byte j, and the numbers before it are
-- written.
-- Assumes nothing.
use mathlib.Core.Path.{◌≡◌, refl, sym, ap, ◌∙◌}
use Prim.Native.Nat.{ℕ, ◌+◌, ◌-◌, ◌*◌, ◌/◌, ◌<◌}
use native.Mathlib.Omega.{arith}
use lib.ListN.{length}
use Rattle.calls.proofs.Filled.{filled_more, filled_whole}
use Rattle.packing.specs.Dropped.{unpack_dropped_of}
use Rattle.packing.proofs.Dropped.{unpack_dropped_at, unpack_dropped_length}
use Rattle.packing.proofs.Position.{Position, position_next, bytes_passed}
use Rattle.packing.proofs.Words.{begun_length, begun_filled}
use Rattle.packing.proofs.Groups.{group_place}
use Rattle.packing.proofs.unpack_dropped.Goals.{After-unpack_groups-written}
use Rattle.packing.proofs.unpack_dropped.Goals as goal

-- where the first number after the groups begins
begun : (c : After-unpack_groups-written) →
    Position 8 (c.args.width - c.args.cmp) (c.unpack_groups-written.result / 8 * (c.args.width - c.args.cmp)) 0 c.unpack_groups-written.result
begun c =
    let whole : 8 * (c.unpack_groups-written.result / 8) ≡ c.unpack_groups-written.result = omega (arith, c.unpack_groups-written.ensures.0) in
    rw whole at (group_place c.args.width c.args.cmp c.requires (c.unpack_groups-written.result / 8))

pub overflow_mul-j : goal.overflow_mul-j
overflow_mul-j c =
    omega (arith, bytes_passed (begun (goal.at.overflow_mul-j c).After-unpack_groups-written) (omega arith), c.unpack_groups-written.ensures.1)

pub loop-i-init : goal.loop-i-init
loop-i-init c =
    let a = c.args in (
      begun (goal.at.loop-i-init c).After-unpack_groups-written,
      begun_filled (λ n. unpack_dropped_of a.width a.cmp n a.bytes.now) (λ n. unpack_dropped_length _ _ n _) a.out.now
          c.unpack_groups-written.ensures.1
          c.unpack_groups-written.ensures.2,
    )

pub number_of-requires : goal.number_of-requires
number_of-requires c = omega (arith, bytes_passed c.loop-i.invariant.0 (omega arith))

pub overflow_add-j : goal.overflow_add-j
overflow_add-j c = omega (arith, bytes_passed c.loop-i.invariant.0 (omega arith))

pub loop-i-preserved : goal.loop-i-preserved
loop-i-preserved c =
    let a = c.args in
    let now = c.loop-i in
    let more : now.i < length c.unpack_groups-written.new.out = omega arith in (
      position_next ((now.bit + (a.width - a.cmp)) / 8) now.invariant.0 refl (omega arith) (omega arith),
      filled_more 0 now.invariant.1 more (omega arith)
          (c.number_of.ensures
          ∙ sym (unpack_dropped_at a.width a.cmp _ now.i now.bit now.j a.bytes.now c.requires (λ k. (c.type_inv.bytes k).fits) now.invariant.0 more)),
    )

pub returns : goal.returns
returns c =
    let a = c.args in
    filled_whole c.loop-i.invariant.1 refl (omega arith)
    ∙ ap (λ (n : ℕ). unpack_dropped_of a.width a.cmp n a.bytes.now)
    (begun_length (λ n. unpack_dropped_of a.width a.cmp n a.bytes.now) (λ n. unpack_dropped_length _ _ n _) a.out.now
    c.unpack_groups-written.ensures.1 c.unpack_groups-written.ensures.2)
