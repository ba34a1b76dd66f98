-- `cca_bytes::same_bytes` meets its contract: between two turns the differences of the bytes taken are found.
-- Assumes nothing.
use Rattle.cca_bytes.proofs.Compared.{Compared}
use Rattle.cca_bytes.proofs.same_bytes.Given as goal

abbrev pub invariant-loop-a : goal.invariant-loop-a
invariant-loop-a l = Compared l.x l.y l.a-iterator.a.rest.now l.a-iterator.b.rest.now l.difference
