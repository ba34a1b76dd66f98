-- `ntt_products::load_tables` meets its contract: the powers of the root are loaded, and its tables are made of them.
-- Assumes nothing.
use mathlib.Core.Path.{◌≡◌, sym, ap, ◌∙◌}
use native.Mathlib.Omega.{arith}
use native.Mathlib.Nat.{sub-zero}
use lib.ListN.{length, length-take}
use Rattle.maths.proofs.PowerTable.{power_table_length}
use Rattle.sets.specs.Derived.{transform_size_of}
use Rattle.sets.proofs.Rules.{listed_rules}
use Rattle.ntt_products.proofs.Sizes.{size_rows, sizes, front_length, front_region, powers_ordered, table_below, tables_of}
use Rattle.ntt_products.proofs.load_tables.Goals.{After-load_powers, After-transform_size-size}
use Rattle.ntt_products.proofs.load_tables.Goals as goal

-- the size of the set's transform
size_is : (c : After-transform_size-size) → c.transform_size-size.result ≡ transform_size_of c.args.p c.args.i
size_is c = c.transform_size-size.ensures

-- so many powers are loaded
long : (c : After-load_powers) → length c.load_powers.new.out ≡ transform_size_of c.args.p c.args.i
long c = ap length c.load_powers.ensures ∙ power_table_length _ _ _

pub slice_bounds-load_powers-end : goal.slice_bounds-load_powers-end
slice_bounds-load_powers-end c = omega (arith, size_is c, c.requires.1)

pub load_powers-requires : goal.load_powers-requires
load_powers-requires c =
    (c.requires.0, simp (length-take, sub-zero) (omega (arith, size_is (goal.at.load_powers-requires c).After-transform_size-size, c.requires.1)))

pub rows_of-requires : goal.rows_of-requires
rows_of-requires c =
    listed_rules c.args.p c.requires.0

pub fill_tables-requires : goal.fill_tables-requires
fill_tables-requires c =
    let p = c.args.p in
    let i = c.args.i in
    rw c.rows_of.ensures (
      sizes p c.requires.0 i,
      rw (size_rows p c.requires.0 i)
          (front_length c.load_powers.new.out c.args.out.now c.transform_size-size.result (long (goal.at.fill_tables-requires c).After-load_powers ∙ sym
          (size_is (goal.at.fill_tables-requires c).After-transform_size-size))
          c.requires.1 (omega (arith, size_is (goal.at.fill_tables-requires c).After-transform_size-size))),
      table_below p c.requires.0 i _ (front_region _ _ _ (long (goal.at.fill_tables-requires c).After-load_powers) ∙ c.load_powers.ensures),
    )

pub returns : goal.returns
returns c =
    let p = c.args.p in
    let i = c.args.i in
    let made = rw c.rows_of.ensures at c.fill_tables.ensures in
    tables_of c.args.which p i made.lent (made.tables _
    (powers_ordered p c.requires.0 i c.args.which (front_region _ _ _ (long (goal.at.returns c).After-load_powers) ∙ c.load_powers.ensures)))
