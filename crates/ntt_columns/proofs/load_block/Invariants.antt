-- `ntt_columns::load_block` meets its contract: after n turns the first n rows are copied.
-- Assumes nothing.
use Rattle.ntt_columns.proofs.Loading.{Loading}
use Rattle.ntt_columns.proofs.load_block.Given as goal

abbrev pub invariant-loop-n : goal.invariant-loop-n
invariant-loop-n l = Loading l.b l.m l.x l.initial.block l.n l.block
