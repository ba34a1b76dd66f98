-- `ntt_steps::sixteen` meets its contract: the two halves one after the other.
-- Assumes nothing.
use native.Mathlib.Omega.{arith}
use Rattle.ntt_steps.proofs.Halves.{wide_ready, halves}
use Rattle.ntt_steps.proofs.sixteen.Goals as goal

pub wide-requires : goal.wide-requires
wide-requires c =
    let first = c.narrow in
    wide_ready c.args.reducer.modulus.modulus c.requires (omega (arith, first.auto.to)) first.ensures

pub returns : goal.returns
returns c =
    halves (omega (arith, c.args.reducer.modulus.modulus.some)) c.narrow.ensures c.wide.ensures
