-- `ntt::turn_row_at` meets its contract: the part that is lent is the row, and comes back transformed.
-- Assumes nothing.
use mathlib.Core.Path.{◌≡◌, refl, ◌∙◌}
use Prim.Native.Nat.{◌+◌, ◌*◌}
use native.Mathlib.Omega.{arith}
use lib.ListN.{length}
use Rattle.calls.specs.Region.{region}
use Rattle.calls.proofs.Region.{region_part, region_length, over_lent}
use Rattle.ntt.proofs.Rows.{row_inside}
use Rattle.ntt.proofs.turn_row_at.Goals as goal

pub turn_row-requires : goal.turn_row-requires
turn_row-requires c =
    let a = c.args.r * 256 in
    let b = c.args.rows * 256 in
    rw (
      region_part c.args.tables.now a 256 (a + 256) refl,
      region_part c.args.tables.now b 264 (b + 264) refl,
      region_part c.args.x.now a 256 (a + 256) refl,
    )
    c.requires.2

pub returns : goal.returns
returns c =
    let a = c.args.r * 256 in
    let b = c.args.rows * 256 in
    let made = c.turn_row in
    let old : length (region c.args.x.now a 256) ≡ 256 =
    region_length c.args.x.now a 256 (omega (arith, row_inside c.requires.0 c.requires.1, c.requires.0.size)) in
    let size : length made.new.x ≡ 256 = rw (region_part c.args.x.now a 256 (a + 256) refl) at made.auto.x ∙ old in
    record {
      row = made.new.x;
      size = size;
      placed = over_lent c.args.x.now a made.new.x (a + 256) (omega arith);
      holds = rw (
        region_part c.args.tables.now a 256 (a + 256) refl,
        region_part c.args.tables.now b 264 (b + 264) refl,
        region_part c.args.x.now a 256 (a + 256) refl,
      ) at made.ensures;
    }
