-- The count of bytes is that of the set's parameters.
-- Assumes nothing.
use mathlib.Core.Path.{◌≡◌}
use native.Mathlib.Omega.{arith}
use Rattle.sets.proofs.Rules.{listed_rules}
use Rattle.scheme.specs.Encryption.{first_bytes_of}
use Rattle.cpa_decrypt.proofs.Room.{first_bytes_most}
use Rattle.cpa_decrypt.proofs.first_bytes.Goals as goal

pub packed_bytes-requires : goal.packed_bytes-requires
packed_bytes-requires c = omega (arith, (listed_rules c.args.p c.requires.1).most_sealed_bits)

pub returns : goal.returns
unfolding first_bytes_of
returns c =
    let p = c.args.p in
    let e : c.packed_bytes.result ≡ first_bytes_of p = c.packed_bytes.ensures in
    (e, rw e (first_bytes_most p))
