-- The key exchange's ciphertext has 32 bytes more than the encryption scheme's.
-- Assumes nothing.
use native.Mathlib.Nat.{add-zero}
use native.Mathlib.Omega.{arith}
use borrow.Author.Tests.{eq-eqb, ne_eqb}
use Rattle.sets.specs.Derived.{sealed_bytes}
use Rattle.sets.proofs.derived.ciphertext_bytes.Goals as goal

pub overflow_add-result : goal.overflow_add-result
overflow_add-result c =
    omega (arith, c.cpa_ciphertext_bytes-sealed.ensures, c.requires.most_sealed)

pub returns-then-p-eq-EXCHANGE : goal.returns-then-p-eq-EXCHANGE
unfolding sealed_bytes
returns-then-p-eq-EXCHANGE c =
    rw (eq-eqb c.args.p.scheme 2 (omega arith)) (omega (arith, c.cpa_ciphertext_bytes-sealed.ensures))

pub returns-else-p-eq-EXCHANGE : goal.returns-else-p-eq-EXCHANGE
unfolding sealed_bytes
returns-else-p-eq-EXCHANGE c =
    rw (ne_eqb c.args.p.scheme 2 (λ e. omega arith), add-zero) c.cpa_ciphertext_bytes-sealed.ensures
