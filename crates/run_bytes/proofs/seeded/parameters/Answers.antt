-- The parameters of sets 1 to 12 keep the rules, and their moduli are above 0.
-- Assumes nothing.
use Prim.Native.Nat.{◌<◌}
use native.Mathlib.Omega.{arith}
use Rattle.sets.specs.declared.Parameters.{Parameters}
use Rattle.sets.specs.Rules.{Rules}
use Rattle.sets.proofs.Rules.{rules as set_rules, byte_rules}
use Rattle.run_bytes.proofs.seeded.parameters.Goals as goal

positive : (p : Parameters) → Rules p → 0 < p.q
positive p all = omega (arith, all.odd)

pub returns : goal.returns
returns c =
    let known = c.clamp.result in
    let all = set_rules known (omega arith) in
    rw c.parameters_of.ensures (all, byte_rules known (omega arith) (omega arith), positive _ all)
