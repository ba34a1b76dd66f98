-- `sponge::state::Sponge::finish` gives the sponge's bytes: the padded block goes in, and the state is squeezed.
-- Assumes nothing.
use mathlib.Core.Path.{ap, ◌∙◌}
use mathlib.Core.List.{List}
use Prim.Native.Nat.{ℕ, ◌+◌, ◌/◌}
use native.Mathlib.Omega.{arith}
use lib.ListN.{length, take}
use Rattle.keccak.specs.Keccak.{keccak_f}
use Rattle.sponge.specs.Sponge.{mixed, squeezed, sponge}
use Rattle.sponge.proofs.Absorbing.{closed}
use Rattle.sponge.proofs.state.Sponge.finish.Goals as goal

pub returns : goal.returns
unfolding sponge
returns c m h =
    let d = length c.args.out.now in
    let s = c.args.self in
    c.squeeze.ensures
    ∙ ap (λ (s : List (List ℕ)). take d (squeezed s (d / 136 + 1)))
    (ap keccak_f (c.mix.ensures ∙ ap (mixed s.state) c.pad_at.ensures)
    ∙ closed c.args.suffix m s.state s.block s.waiting (record { whole = omega arith; below = s.room }) h)
