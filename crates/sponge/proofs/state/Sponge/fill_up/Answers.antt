-- `sponge::state::Sponge::fill_up` takes zeros in up to the end of the block, and none at its start.
-- Assumes nothing.
use mathlib.Core.Path.{◌≡◌, sym, ap, ◌∙◌}
use mathlib.Core.List.{List}
use Prim.Native.Nat.{ℕ, ◌-◌}
use native.Mathlib.Omega.{arith}
use lib.ListN.{length}
use Rattle.keccak.specs.Keccak.{keccak_f}
use Rattle.sponge.specs.Sponge.{mixed}
use Rattle.sponge.proofs.Absorbing.{zeros_lent}
use Rattle.sponge.proofs.Encoding.{filled_rest}
use Rattle.sponge.proofs.state.Sponge.fill_up.Goals as goal

pub returns-then-self-gt0 : goal.returns-then-self-gt0
returns-then-self-gt0 c =
    let s = c.args.self.now in
    let at = s.waiting in
    let whole : length s.block ≡ 136 = omega arith in
    let block = zeros_lent s.block at 136 (136 - at) (omega arith) (omega arith) (c.fill.ensures.after (λ y e. e)) in
    rw (c.absorb.ensures.2) (filled_rest _ _ (record { whole = whole; below = s.room }) (λ e. omega arith) (c.absorb.ensures.1 ∙ block)
    (c.absorb.ensures.0 ∙ ap (λ (b : List ℕ). keccak_f (mixed s.state b)) (sym c.absorb.ensures.1)))
