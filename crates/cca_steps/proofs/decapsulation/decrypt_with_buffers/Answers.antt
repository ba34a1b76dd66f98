-- `cca_steps::decapsulation::decrypt_with_buffers` meets its contract: the ciphertext without its check bytes is read with the seed of the secret.
-- Assumes nothing.
use mathlib.Core.Path.{◌≡◌}
use Prim.Native.Nat.{◌-◌}
use native.Mathlib.Omega.{arith}
use lib.ListN.{length}
use Rattle.sets.specs.Derived.{cpa_ciphertext_bytes_of}
use Rattle.cca_steps.proofs.Steps.{read_made}
use borrow.Author.Rules.{rules}
use Rattle.cca_steps.proofs.decapsulation.decrypt_with_buffers.Goals as goal

-- the secret key begins with a seed
pub unwrap-requires : goal.unwrap-requires
unwrap-requires c = c.first_chunk.ensures.variant.1 (omega (arith, c.requires.2))

pub decrypt-requires : goal.decrypt-requires
decrypt-requires c =
    (c.requires.0, c.requires.1, search rules, search rules)

pub returns : goal.returns
returns c =
    let args = c.args in
    let ct = args.ciphertext.now in
    let size : length ct - 32 - 0 ≡ cpa_ciphertext_bytes_of args.p = omega (arith, c.requires.3) in
    let seed = (rw c.unwrap.ensures at c.first_chunk.ensures.cases).same in
    let seeds = rw seed at c.expand_seed.ensures in
    let decrypted = c.decrypt.ensures in
    let made = read_made args.p args.secret.now ct _ _ args.message.now (length ct - 32 - 0) _ seeds.secret size
    decrypted.answer decrypted.read in record { answer = made.0; halves = seeds.halves; read = made.1 }
