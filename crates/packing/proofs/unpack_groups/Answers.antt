-- `packing::unpack_groups` (003, algorithm 22) meets its contract: the numbers of the groups before this one are written.
-- Assumes nothing.
use mathlib.Core.Path.{◌≡◌}
use Prim.Native.Nat.{◌+◌, ◌-◌, ◌*◌, ◌/◌, ◌≤◌}
use native.Mathlib.Omega.{arith}
use lib.ListN.{length}
use Rattle.calls.proofs.Filled.{filled_none}
use Rattle.packing.specs.Digits.{group}
use Rattle.packing.proofs.Dropped.{unpack_dropped_length}
use Rattle.packing.proofs.Position.{bytes_passed}
use Rattle.packing.proofs.Groups.{group_length, group_numbers, group_place, filled_given}
use Rattle.packing.proofs.unpack_groups.Goals as goal

pub loop-group-init : goal.loop-group-init
loop-group-init c = filled_none (unpack_dropped_length _ _ _ _) (omega arith)

pub overflow_mul-j : goal.overflow_mul-j
overflow_mul-j c = omega (arith, bytes_passed (group_place c.args.width c.args.cmp c.requires c.loop-group.group) (omega arith))

pub overflow_add-j : goal.overflow_add-j
overflow_add-j c = omega (arith, bytes_passed (group_place c.args.width c.args.cmp c.requires c.loop-group.group) (omega arith))

pub returns-then-bytes-j : goal.returns-then-bytes-j
returns-then-bytes-j c = (omega arith, c.loop-group.invariant.within, c.loop-group.invariant.written)

pub loop-group-preserved : goal.loop-group-preserved
loop-group-preserved c =
    let a = c.args in
    let now = c.loop-group in
    let kept = a.width - a.cmp in
    let room : 8 * now.group + 8 ≤ length a.out.now = omega arith in
    let next : 8 * now.group + 8 ≡ 8 * (now.group + 1) = omega arith in
    rw (← next)
    (filled_given (group kept a.cmp (now.group * kept) a.bytes.now) now.invariant (group_length _ _ _ _) room
    (λ k h. group_numbers a.width a.cmp c.requires (length a.out.now) (8 * now.group) (now.group * kept) a.bytes.now (λ n. (c.type_inv.bytes n).fits)
    (group_place a.width a.cmp c.requires now.group) k h
    (omega arith))
    c.unpack_group.ensures)

pub returns : goal.returns
returns c =
    let done : c.loop-group.group ≡ length c.args.out.now / 8 = omega arith in
    rw (← done) (omega arith, c.loop-group.invariant.within, c.loop-group.invariant.written)
