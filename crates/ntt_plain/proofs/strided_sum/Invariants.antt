-- `ntt_plain::strided_sum` meets its contract: after j turns the total is the sum of the first j products.
-- Assumes nothing.
use Rattle.ntt_plain.proofs.Sums.{Summing}
use Rattle.ntt_plain.proofs.strided_sum.Given as goal

abbrev pub invariant-loop : goal.invariant-loop
invariant-loop l = Summing l.x l.first l.stride l.count l.powers l.step l.total l.place l.power l.counter
