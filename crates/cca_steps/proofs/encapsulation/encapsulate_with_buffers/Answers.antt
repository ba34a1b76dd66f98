-- `cca_steps::encapsulation::encapsulate_with_buffers` meets its contract: what G gives is the digest of the message.
-- Assumes nothing.
use mathlib.Core.Path.{ap, ◌∙◌}
use Rattle.sponge.specs.Sponge.{shake256}
use Rattle.cca_steps.proofs.encapsulation.encapsulate_with_buffers.Goals as goal

pub encapsulate_digest-requires : goal.encapsulate_digest-requires
encapsulate_digest-requires c =
    let pre = c.requires in
    let digest = c.shake256_into in
    (pre.0, pre.1, pre.2, digest.ensures ∙ ap (shake256 c.args.message.now) c.told-digest, pre.3, pre.4)
