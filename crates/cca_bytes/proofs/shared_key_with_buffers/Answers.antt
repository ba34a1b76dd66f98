-- `cca_bytes::shared_key_with_buffers` meets its contract: the secret is hashed with the digest of the ciphertext.
-- Assumes nothing.
use Rattle.cca_bytes.proofs.Parts.{hashed}
use Rattle.cca_bytes.proofs.shared_key_with_buffers.Goals as goal

pub returns : goal.returns
returns c =
    let args = c.args in
    hashed args.secret.now args.ciphertext.now _ _ _ _ c.requires.0 c.requires.1 c.shake256_into.ensures
    c.shake256_of_two.ensures
