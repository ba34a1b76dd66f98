-- The bits of a public key are few by the rules, so the sum fits.
-- Assumes nothing.
use native.Mathlib.Omega.{arith}
use borrow.Author.Rules.{rules}
use Rattle.sets.specs.Derived.{packed_bytes_of, public_key_bytes_of}
use Rattle.sets.proofs.derived.public_key_bytes.Goals as goal

pub overflow_add-result : goal.overflow_add-result
unfolding packed_bytes_of public_key_bytes_of
overflow_add-result c = omega arith

pub returns : goal.returns
unfolding public_key_bytes_of
returns c = search rules
