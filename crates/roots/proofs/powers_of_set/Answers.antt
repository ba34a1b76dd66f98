-- Each arm has the powers of its set; set 0 has one table for its three roots.
-- Assumes nothing.
use mathlib.Core.Path.{sym, ◌∙◌}
use Rattle.roots.proofs.Bench.{bench_powers}
use Rattle.roots.proofs.powers_of_set.Goals as goal

pub returns-in-0 : goal.returns-in-0
returns-in-0 c = rw c.in-0.is (c.powers.ensures ∙ sym (bench_powers c.args.i))
