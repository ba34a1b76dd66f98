-- `ntt_partial_steps::inverse_wide` meets its contract: the first rows of what is recovered are copied out, and the arrays have room for every transform.
-- Assumes nothing.
use mathlib.Core.Path.{◌≡◌, sym, ap, ◌∙◌}
use Prim.Native.Nat.{ℕ, ◌*◌, ◌-◌}
use native.Mathlib.Omega.{arith}
use lib.ListN.{length, take, drop, replicate, length-take}
use Rattle.calls.specs.Region.{region}
use Rattle.calls.proofs.Parts.{array_front}
use Rattle.calls.proofs.Region.{over_whole, region_part}
use Rattle.sets.proofs.Rules.{listed_rules}
use Rattle.sets.proofs.Transforms.{size_most}
use Rattle.ntt_products.proofs.Laws.{table_most}
use Rattle.ntt_products.specs.Stored.{recovered}
use Rattle.ntt_partial_steps.proofs.Rows.{wide_whole, recovered_length}
use Rattle.ntt_partial_steps.proofs.inverse_wide.Goals.{After-copy_in, After-recover_first, After-table_length-length}
use Rattle.ntt_partial_steps.proofs.inverse_wide.Goals as goal

pub slice_bounds-room-end : goal.slice_bounds-room-end
slice_bounds-room-end c =
    omega (arith, c.table_length-length.ensures, table_most c.args.p c.requires.0 c.args.i)

pub slice_bounds-places-end : goal.slice_bounds-places-end
slice_bounds-places-end c =
    omega (arith, c.requires.1.places, size_most c.args.p (listed_rules _ c.requires.0) c.args.i)

-- the places are as many as the numbers of the input
as_many : (c : After-table_length-length) → length {A = ℕ} (take (length c.args.input.now - 0) (drop 0 (replicate 3328 0))) ≡ length c.args.input.now
as_many c =
    array_front 3328 (length c.args.input.now) (omega (arith, c.requires.1.places, size_most c.args.p (listed_rules _ c.requires.0) c.args.i))

pub copy_in-requires : goal.copy_in-requires
copy_in-requires c = omega (arith, as_many (goal.at.copy_in-requires c).After-table_length-length)

-- the input is copied whole
copied : (c : After-copy_in) → c.copy_in.new.dst ≡ c.args.input.now
copied c = c.copy_in.ensures ∙ over_whole _ _ (sym (as_many (goal.at.After-copy_in c).After-table_length-length))

pub load_tables-requires : goal.load_tables-requires
load_tables-requires c =
    let room = c.table_length-length in
    (c.requires.0, array_front 3605 room.result (omega (arith, room.ensures, table_most c.args.p c.requires.0 c.args.i)) ∙ room.ensures)

pub recover_first-requires : goal.recover_first-requires
recover_first-requires c =
    let wide = c.requires.1 in (
      c.requires.0,
      c.load_tables.ensures.lent,
      rw (copied (goal.at.recover_first-requires c).After-copy_in) (wide_whole wide),
      rw (← wide.places) wide.within,
    )

-- the first rows of what is recovered
first_rows : (c : After-recover_first) → take (c.args.m * 256) c.recover_first.new.x ≡ recovered c.args.p c.args.i (c.args.m * 256) c.args.input.now
first_rows c =
    c.recover_first.ensures.root c.load_tables.ensures
    ∙ ap (recovered c.args.p c.args.i (c.args.m * 256)) (copied (goal.at.After-recover_first c).After-copy_in)

pub copy_out-requires : goal.copy_out-requires
copy_out-requires c =
    let n = c.args.m * 256 in
    let rows = first_rows (goal.at.copy_out-requires c).After-recover_first in
    omega (arith, c.requires.2, ap length rows, recovered_length c.args.p c.args.i n c.args.input.now, length-take n c.recover_first.new.x)

pub returns : goal.returns
returns c =
    let n = c.args.m * 256 in
    let x = c.recover_first.new.x in
    let front : take (n - 0) x ≡ region x 0 n = region_part x 0 n n (omega arith) in
    let whole : n - 0 ≡ n = omega arith in
    c.copy_out.ensures ∙ ap (region x 0) c.requires.2 ∙ sym front ∙ rw whole (first_rows (goal.at.returns c).After-recover_first)
