-- `ntt_rows::multiply` meets its contract: after i turns the first i products are written.
-- Assumes nothing.
use Rattle.calls.proofs.Written.{Written}
use Rattle.ntt_rows.proofs.Rows.{Product}
use Rattle.ntt_rows.proofs.multiply.Given as goal

abbrev pub invariant-loop-i : goal.invariant-loop-i
invariant-loop-i l = Written (Product l.reducer.q l.by l.from) 0 256 l.initial.to l.i l.to
