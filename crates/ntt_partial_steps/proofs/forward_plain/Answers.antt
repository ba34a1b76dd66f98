-- `ntt_partial_steps::forward_plain` meets its contract: the powers are those of the set's root.
-- Assumes nothing.
use mathlib.Core.Path.{◌≡◌, sym, ap, ◌∙◌}
use Prim.Native.Nat.{◌-◌, ◌*◌, ◌^◌}
use native.Mathlib.Omega.{arith}
use lib.ListN.{length}
use Rattle.maths.specs.Root.{power_table}
use Rattle.maths.proofs.PowerTable.{power_table_length}
use Rattle.maths.specs.Congruence.{Mod}
use Rattle.sets.specs.Derived.{transform_root, root_powers}
use Rattle.roots.proofs.Laws.{listed_root}
use Rattle.ntt_partial_steps.proofs.Rows.{size_few, rows_fit, front_length, plain_front}
use Rattle.ntt_partial_steps.proofs.forward_plain.Goals.{After-powers-powers}
use Rattle.ntt_partial_steps.proofs.forward_plain.Goals as goal

pub overflow_mul-end : goal.overflow_mul-end
overflow_mul-end c =
    record { fits = omega (arith, rows_fit c.requires.0 c.requires.1, c.requires.1.places, size_few c.requires.0 c.requires.1) }

pub slice_bounds-forward-end : goal.slice_bounds-forward-end
slice_bounds-forward-end c =
    rows_fit c.requires.0 c.requires.1

-- the powers
table : (c : After-powers-powers) → c.powers-powers.result.now ≡ power_table c.args.p.q (transform_root c.args.p c.args.i) (c.args.rows * c.args.row)
unfolding root_powers
table c = c.powers-powers.ensures ∙ rw c.requires.1.size

-- they are as many as the places
long : (c : After-powers-powers) → length c.powers-powers.result.now ≡ c.args.rows * c.args.row
long c = ap length (table c) ∙ power_table_length _ _ _

pub forward-requires : goal.forward-requires
forward-requires c =
    let split = c.requires.1 in
    let at = (goal.at.forward-requires c).After-powers-powers in
    let end : c.args.m * c.args.row - 0 ≡ c.args.m * c.args.row = omega arith in
    rw end (plain_front c.requires.0 split _ (table at), front_length c.requires.0 split, split.within, long at, c.requires.2 ∙ sym (long at))

pub returns : goal.returns
returns c =
    let w = transform_root c.args.p c.args.i in
    let at = (goal.at.returns c).After-powers-powers in
    let whole : Mod c.args.p.q (w ^ length c.powers-powers.result.now) 1 = rw (long at, c.requires.1.size) (listed_root c.args.p c.requires.0 c.args.i).power in
    let end : c.args.m * c.args.row - 0 ≡ c.args.m * c.args.row = omega arith in
    (rw end at (c.forward.ensures w)) (rw (long at) (table at)) whole
