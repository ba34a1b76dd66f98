-- `ntt_steps::exchange` meets its contract: after a turns the first a rows are written.
-- Assumes nothing.
use Rattle.ntt_steps.proofs.Exchanges.{RowsExchanged}
use Rattle.ntt_steps.proofs.exchange.Given as goal

abbrev pub invariant-loop-a : goal.invariant-loop-a
invariant-loop-a l = RowsExchanged l.from l.initial.to l.a l.to
