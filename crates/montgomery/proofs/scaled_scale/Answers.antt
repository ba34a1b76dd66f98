-- `montgomery::scaled_scale` meets its contract: 2^64 is the square of 2^32.
-- Assumes nothing.
use Prim.Native.Nat.{◌^◌}
use Rattle.maths.proofs.Congruence.{mod_remainder, mod_mul}
use Rattle.montgomery.proofs.scaled_scale.Goals as goal

pub returns : goal.returns
returns c =
    let q = c.args.q in
    rw c.scaled_one-one.ensures (mod_mul (mod_remainder q (2 ^ 32)) (mod_remainder q (2 ^ 32))).same
