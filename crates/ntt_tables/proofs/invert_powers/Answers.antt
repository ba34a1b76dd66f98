-- `ntt_tables::invert_powers` meets its contract: the places behind the first are turned round.
-- Assumes nothing.
use Rattle.ntt_tables.proofs.Inverted.{inverted}
use Rattle.ntt_tables.proofs.invert_powers.Goals as goal

pub returns-in-len1-up : goal.returns-in-len1-up
returns-in-len1-up c = inverted c.args.powers.now c.reverse.new.self c.in-len1-up.len_at_least c.reverse.ensures.after
