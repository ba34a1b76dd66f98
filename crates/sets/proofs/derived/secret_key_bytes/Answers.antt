-- The key exchange's secret key holds the public key after its seed.
-- Assumes nothing.
use native.Mathlib.Omega.{arith}
use borrow.Author.Tests.{eq-eqb, ne_eqb}
use Rattle.sets.specs.Derived.{secret_bytes}
use Rattle.sets.proofs.derived.secret_key_bytes.Goals as goal

pub overflow_add-result : goal.overflow_add-result
overflow_add-result c = omega (arith, c.public_key_bytes.ensures, c.requires.most_public_key)

pub returns-then-p-eq-EXCHANGE : goal.returns-then-p-eq-EXCHANGE
unfolding secret_bytes
returns-then-p-eq-EXCHANGE c = rw (eq-eqb c.args.p.scheme 2 (omega arith)) (omega (arith, c.public_key_bytes.ensures))

pub returns-else-p-eq-EXCHANGE : goal.returns-else-p-eq-EXCHANGE
unfolding secret_bytes
returns-else-p-eq-EXCHANGE c = rw (ne_eqb c.args.p.scheme 2 (λ e. omega arith))
