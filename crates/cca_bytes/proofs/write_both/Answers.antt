-- `cca_bytes::write_both` meets its contract: two copies side by side fill the slice.
-- Assumes nothing.
use mathlib.Core.Path.{refl, ap, ◌∙◌}
use mathlib.Core.List.{List}
use Prim.Native.Nat.{ℕ}
use lib.ListN.{length}
use Rattle.calls.specs.Region.{over}
use Rattle.cca_bytes.proofs.Parts.{both_over}
use Rattle.cca_bytes.proofs.write_both.Goals as goal

pub returns : goal.returns
returns c =
    c.copy_in-2.ensures
    ∙ ap (λ (ls : List ℕ). over ls (length c.args.first.now) c.args.second.now) c.copy_in.ensures
    ∙ both_over c.args.out.now c.args.first.now c.args.second.now (length c.args.first.now) refl c.requires
