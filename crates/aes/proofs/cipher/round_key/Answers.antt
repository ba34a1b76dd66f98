-- `aes::cipher::round_key` meets its contract.
-- Assumes nothing.
use Prim.Native.Nat.{◌*◌}
use native.Mathlib.Nat.{add-zero}
use Rattle.aes.proofs.cipher.round_key.Goals as goal

pub returns : goal.returns
returns c = rw (add-zero (4 * c.args.n))
