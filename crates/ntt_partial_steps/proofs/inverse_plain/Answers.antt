-- `ntt_partial_steps::inverse_plain` meets its contract: the powers that are loaded are those of the inverse of the set's root, and the array holds them.
-- Assumes nothing.
use mathlib.Core.Path.{◌≡◌, sym, ap, ◌∙◌}
use Prim.Native.Nat.{◌*◌, ◌^◌}
use native.Mathlib.Omega.{arith}
use lib.ListN.{length}
use Rattle.maths.specs.Root.{power_table}
use Rattle.maths.proofs.PowerTable.{power_table_length}
use Rattle.maths.specs.Congruence.{Mod}
use Rattle.calls.proofs.Parts.{array_front}
use Rattle.sets.proofs.Rules.{listed_rules}
use Rattle.ntt_products.specs.Stored.{root_inverse_of, inverse_powers}
use Rattle.ntt_products.proofs.Laws.{size_rows, inverse_below, rows_root_inverse}
use Rattle.ntt_partial_steps.proofs.Rows.{size_few, rows_fit, plain_whole}
use Rattle.ntt_partial_steps.proofs.inverse_plain.Goals.{After-load_inverse_powers}
use Rattle.ntt_partial_steps.proofs.inverse_plain.Goals as goal

pub slice_bounds-room-end : goal.slice_bounds-room-end
slice_bounds-room-end c = let pre = c.requires in omega (arith, pre.1.places, size_few pre.0 pre.1)

pub load_inverse_powers-requires : goal.load_inverse_powers-requires
load_inverse_powers-requires c =
    let pre = c.requires in
    (pre.0, array_front 3328 (length c.args.input.now) (omega (arith, pre.1.places, size_few pre.0 pre.1)) ∙ pre.1.places ∙ pre.1.size)

pub size_inverse_of-e-requires : goal.size_inverse_of-e-requires
size_inverse_of-e-requires c =
    listed_rules c.args.p c.requires.0

-- the powers that are loaded
table : (c : After-load_inverse_powers)
    → c.load_inverse_powers.new.out ≡ power_table c.args.p.q (root_inverse_of c.args.p c.args.i)
    (c.args.rows * c.args.row)
unfolding inverse_powers
table c =
    c.load_inverse_powers.ensures ∙ rw c.requires.1.size

-- they are as many as the places
long : (c : After-load_inverse_powers)
    → length c.load_inverse_powers.new.out ≡ c.args.rows * c.args.row
long c = ap length (table c) ∙ power_table_length _ _ _

pub inverse-requires : goal.inverse-requires
inverse-requires c =
    let split = c.requires.1 in
    let fits = rows_fit c.requires.0 split in
    rw c.size_inverse_of-e.ensures (
      plain_whole c.requires.0 split _ (table (goal.at.inverse-requires c).After-load_inverse_powers),
      split.places,
      long (goal.at.inverse-requires c).After-load_inverse_powers ∙ sym split.places,
      inverse_below c.args.p (listed_rules c.args.p c.requires.0) c.args.i,
      rw c.requires.2 fits,
    )

pub returns : goal.returns
returns c =
    let v = root_inverse_of c.args.p c.args.i in
    let whole : Mod c.args.p.q (v ^ length c.load_inverse_powers.new.out) 1 =
    rw (long (goal.at.returns c).After-load_inverse_powers, c.requires.1.size, ← size_rows c.args.p c.requires.0 c.args.i)
    (rows_root_inverse c.args.p c.requires.0 c.args.i).power in
    (rw c.size_inverse_of-e.ensures at
    (c.inverse.ensures v c.args.m))
    (rw (long (goal.at.returns c).After-load_inverse_powers) (table (goal.at.returns c).After-load_inverse_powers)) whole c.requires.2 c.requires.1.within
