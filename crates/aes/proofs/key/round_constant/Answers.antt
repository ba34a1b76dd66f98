-- `aes::key::round_constant` meets its contract: the constants are the powers of x.
-- Assumes nothing.
use Rattle.aes.proofs.Schedule.{rcon_rule}
use Rattle.aes.proofs.key.round_constant.Goals as goal

pub returns : goal.returns
returns c = rcon_rule c.args.j c.requires.0 c.requires.1
