-- Byte lengths by family: the encryption scheme's and the key exchange's.
-- Assumes nothing.
use mathlib.Core.Path.{◌≡◌}
use mathlib.Core.Bool.{true, false}
use Prim.Native.Nat.{ℕ, ◌+◌}
use native.Mathlib.Nat.{add-zero}
use Rattle.sets.specs.Table.{set_of}
use Rattle.sets.specs.Derived.{public_key_bytes_of, cpa_ciphertext_bytes_of, is_exchange, secret_bytes, sealed_bytes, secret_key_bytes_of, ciphertext_bytes_of}

-- the secret key of a key exchange holds the public key after its seed
pub secret_exchange : (set : ℕ) → is_exchange set ≡ true → secret_key_bytes_of set ≡ 32 + public_key_bytes_of (set_of set)
unfolding secret_bytes is_exchange
secret_exchange set e = rw e

pub secret_other : (set : ℕ) → is_exchange set ≡ false → secret_key_bytes_of set ≡ 32
unfolding secret_bytes is_exchange
secret_other set e = rw e

-- the ciphertext of a key exchange has 32 bytes more
pub ciphertext_exchange : (set : ℕ) → is_exchange set ≡ true → ciphertext_bytes_of set ≡ cpa_ciphertext_bytes_of (set_of set) + 32
unfolding sealed_bytes is_exchange
ciphertext_exchange set e = rw e

pub ciphertext_other : (set : ℕ) → is_exchange set ≡ false → ciphertext_bytes_of set ≡ cpa_ciphertext_bytes_of (set_of set)
unfolding sealed_bytes is_exchange
ciphertext_other set e = rw (e, add-zero)
