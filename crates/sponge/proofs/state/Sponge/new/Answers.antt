-- `sponge::state::Sponge::new` has taken nothing in.
-- Assumes nothing.
use Rattle.sponge.proofs.Absorbing.{absorbed_none}
use Rattle.sponge.proofs.state.Sponge.new.Goals as goal

pub returns : goal.returns
returns c = absorbed_none _
