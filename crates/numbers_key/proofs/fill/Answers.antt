-- `numbers_key::fill` meets its contract: each turn writes one number.
-- Assumes nothing.
use mathlib.Core.Path.{refl}
use Prim.Native.Nat.{◌-◌}
use native.Mathlib.Omega.{arith}
use Rattle.calls.proofs.Filled.{filled_none, filled_more, filled_whole}
use Rattle.numbers.proofs.KeyLaws.{key_length}
use Rattle.numbers_key.proofs.fill.Goals as goal

pub loop-l-init : goal.loop-l-init
loop-l-init c =
    filled_none (omega (arith, key_length c.args.p c.args.a.now c.args.s.now c.args.e.now, c.requires.1.errors_length))
    (omega arith)

pub key_place-requires : goal.key_place-requires
key_place-requires c = (c.requires.0, c.requires.1, omega (arith, c.requires.2))

pub loop-l-preserved : goal.loop-l-preserved
loop-l-preserved c = filled_more 0 c.loop-l.invariant (omega arith) (omega arith) c.key_place.ensures

pub returns : goal.returns
returns c = filled_whole c.loop-l.invariant refl (omega arith)
