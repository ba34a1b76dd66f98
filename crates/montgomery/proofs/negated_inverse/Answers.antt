-- `montgomery::negated_inverse` meets its contract: five steps of Newton's method, from one bit to 32.
-- Assumes nothing.
use mathlib.Core.Path.{refl}
use native.Mathlib.Omega.{arith}
use Rattle.montgomery.proofs.Newton.{newton}
use Rattle.montgomery.proofs.negated_inverse.Goals as goal

pub returns : goal.returns
returns c =
    let first = c.newton_step-two_bits in
    let second = c.newton_step-four_bits in
    let third = c.newton_step-eight_bits in
    let fourth = c.newton_step-sixteen_bits in
    let q = c.args.q in
    let two-bits = newton 2 1073741824 q 1 refl first.ensures (omega arith) in
    let four_bits = newton 4 268435456 q first.result refl second.ensures two-bits in
    let eight-bits = newton 16 16777216 q second.result refl third.ensures four_bits in
    let sixteen-bits = newton 256 65536 q third.result refl fourth.ensures eight-bits in
    record { modulus = c.requires; inverse = newton 65536 1 q fourth.result refl c.newton_step.ensures sixteen-bits }
