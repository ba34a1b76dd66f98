-- `calls::copy_out` meets its contract: the lent part of `work` is a region, and a write over all of `dst` leaves what was written.
-- Assumes nothing.
use mathlib.Core.Path.{refl, ap, ◌∙◌}
use Prim.Native.Nat.{◌+◌}
use lib.ListN.{length}
use Rattle.calls.specs.Region.{region, over}
use Rattle.calls.proofs.Region.{over_whole, region_part, region_length}
use Rattle.calls.proofs.copy_out.Goals as goal

pub returns : goal.returns
returns c =
    let dst = c.args.dst.now in
    let work = c.args.work.now in
    let at = c.args.at in
    let n = length dst in
    c.copy_in.ensures
    ∙ ap (over dst 0) (region_part work at n (at + n) refl) ∙ over_whole dst (region work at n) (region_length work at n c.requires)
