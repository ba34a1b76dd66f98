-- `samplers::small::fill_errors` meets its contract: each turn writes the residue of the next error of a row.
-- Assumes nothing.
use Prim.Native.Nat.{◌+◌, ◌*◌, ◌<◌}
use native.Mathlib.Nat.{zero-mul}
use native.Mathlib.Omega.{arith}
use lib.ListN.{length}
use Rattle.samplers.proofs.Values.{modulus_most}
use Rattle.samplers.proofs.Rows.{rows_none, rows_place, rows_byte, rows_more, rows_all}
use Rattle.samplers.proofs.small.fill_errors.Goals.{In-loop-i}
use Rattle.samplers.proofs.small.fill_errors.Goals as goal

-- the place is inside the row
inside : (c : In-loop-i) → c.loop-i.i < c.loop-r.r * (c.args.p.d + c.args.p.k) + (c.args.p.d + c.args.p.k)
inside c = omega arith

pub loop-r-init : goal.loop-r-init
loop-r-init c = rw zero-mul (rows_none c.args.p c.args.bytes.now c.args.out.now c.requires.3)

pub error_residue-requires : goal.error_residue-requires
error_residue-requires c = (
  modulus_most c.args.p c.requires.0 c.requires.1,
  c.requires.0.small,
  rw c.requires.2 (rows_byte c.args.p c.args.bytes.now c.loop-i.invariant (omega arith) (inside (goal.at.error_residue-requires c).In-loop-i)),
)

pub bounds-out-i : goal.bounds-out-i
bounds-out-i c =
    omega (
      arith,
      c.loop-i.invariant.size,
      rows_place c.args.p c.args.bytes.now c.loop-i.invariant (omega arith) (inside (goal.at.bounds-out-i c).In-loop-i),
    )

pub loop-i-preserved : goal.loop-i-preserved
loop-i-preserved c =
    rows_more c.args.p c.args.bytes.now c.loop-i.invariant (omega arith) (inside (goal.at.loop-i-preserved c).In-loop-i) c.error_residue.ensures

pub returns : goal.returns
returns c = rows_all c.args.p c.args.bytes.now c.loop-r.invariant (omega arith)
