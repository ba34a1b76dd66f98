-- `ntt_by_row::inverse_rows` meets its contract: the rows that hold the first m numbers are recovered.
-- Assumes nothing.
use Prim.Native.Nat.{◌*◌}
use native.Mathlib.Nat.{mod-lt}
use native.Mathlib.Omega.{arith}
use Rattle.ntt_by_row.proofs.Lent.{doubled, scale_of, recover_front_lem}
use Rattle.ntt_by_row.proofs.inverse_rows.Goals as goal

pub inverse-requires : goal.inverse-requires
inverse-requires c = (
  c.requires.0,
  c.rows_used.ensures.0,
  c.requires.1,
  doubled c.requires.2,
  rw c.scaled_twice-by.ensures (mod-lt _ (omega (arith, c.requires.0.modulus.some))),
)

pub returns : goal.returns
returns c w made =
    recover_front_lem c.inverse.new.x c.args.x.now c.args.q c.args.rows w c.args.e c.args.m
    (c.rows_used.result * 256) c.rows_used.ensures.1
    (c.inverse.ensures w c.args.e made (scale_of c.args.q c.args.e c.scaled_twice-by.ensures))
