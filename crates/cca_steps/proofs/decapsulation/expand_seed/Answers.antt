-- `cca_steps::decapsulation::expand_seed` meets its contract: the seed of the secret is made of the first half of what the seed gives.
-- Assumes nothing.
use Rattle.cca_steps.proofs.Steps.{inner_made, halves_made, seed_made}
use Rattle.cca_steps.proofs.decapsulation.expand_seed.Goals as goal

pub returns : goal.returns
returns c =
    let p = c.args.p in
    let seed = c.args.seed.now in
    let halves = c.source_bytes.ensures.bytes in
    let inner = inner_made p seed _ _ c.told-expanded halves in
    record { halves = halves_made p seed _ _ c.told-expanded halves; secret = seed_made p seed _ _ _ c.told-inner inner c.source_bytes-2.ensures.bytes }
