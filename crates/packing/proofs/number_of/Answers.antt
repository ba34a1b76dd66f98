-- `packing::number_of` (003, algorithms 20 and 22) meets its contract.
-- Assumes nothing.
use mathlib.Core.Path.{ap, ◌∙◌}
use Prim.Native.Nat.{ℕ, ◌*◌, ◌/◌, ◌%◌, ◌^◌}
use Rattle.packing.proofs.number_of.Goals as goal

pub returns : goal.returns
returns c =
    let a = c.args in
    c.number_in.ensures ∙ ap (λ (x : ℕ). x / 2 ^ a.bit % 2 ^ a.kept * 2 ^ a.cmp) c.window_at.ensures
