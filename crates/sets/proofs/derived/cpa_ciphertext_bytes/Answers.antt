-- The bits of a ciphertext are few by the rules, so the sum fits.
-- Assumes nothing.
use native.Mathlib.Omega.{arith}
use borrow.Author.Rules.{rules}
use Rattle.sets.specs.Derived.{packed_bytes_of, cpa_ciphertext_bytes_of}
use Rattle.sets.proofs.derived.cpa_ciphertext_bytes.Goals as goal

pub overflow_add-result : goal.overflow_add-result
unfolding packed_bytes_of cpa_ciphertext_bytes_of
overflow_add-result c = omega arith

pub returns : goal.returns
unfolding cpa_ciphertext_bytes_of
returns c = search rules
