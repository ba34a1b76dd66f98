-- `calls::copy_in` meets its contract: after i turns the first i entries of `src` stand in place.
-- Assumes nothing.
use mathlib.Core.Path.{refl}
use native.Mathlib.Omega.{arith}
use Rattle.calls.proofs.Filled.{filled_none, filled_more, filled_all}
use Rattle.calls.proofs.copy_in.Goals as goal

pub loop-i-init : goal.loop-i-init
loop-i-init g c = filled_none refl c.requires

pub loop-i-preserved : goal.loop-i-preserved
loop-i-preserved g c = filled_more c.index-src-i.result c.loop-i.invariant (omega arith) refl c.index-src-i.is

pub returns : goal.returns
returns g c = filled_all c.loop-i.invariant (omega arith)
