-- `ntt_products::table_length` meets its contract: the size is at most 3328, and the rows are at most 16.
-- Assumes nothing.
use mathlib.Core.Path.{◌≡◌}
use native.Mathlib.Omega.{arith}
use Rattle.sets.specs.Derived.{transform_size_of}
use Rattle.sets.proofs.Rules.{listed_rules}
use Rattle.sets.proofs.Transforms.{size_most}
use Rattle.ntt_products.specs.Stored.{row_count}
use Rattle.ntt_products.proofs.Sizes.{sizes}
use Rattle.ntt_products.proofs.table_length.Goals.{After-rows_of, After-transform_size}
use Rattle.ntt_products.proofs.table_length.Goals as goal

-- the size of the set's transform
size_is : (c : After-transform_size) → c.transform_size.result ≡ transform_size_of c.args.p c.args.i
size_is c = c.transform_size.ensures

-- and its rows
rows_are : (c : After-rows_of) → c.rows_of.result ≡ row_count c.args.p c.args.i
rows_are c = c.rows_of.ensures

pub overflow_add-result : goal.overflow_add-result
overflow_add-result c = omega (arith, size_is c, size_most c.args.p (listed_rules _ c.requires) c.args.i)

pub rows_of-requires : goal.rows_of-requires
rows_of-requires c = listed_rules c.args.p c.requires

pub overflow_add-result-2 : goal.overflow_add-result-2
overflow_add-result-2 c =
    omega (
      arith,
      size_is (goal.at.overflow_add-result-2 c).After-transform_size,
      rows_are c,
      size_most c.args.p (listed_rules _ c.requires) c.args.i,
      (sizes c.args.p c.requires c.args.i).few_rows,
    )

pub returns : goal.returns
returns c = rw (size_is (goal.at.returns c).After-transform_size, rows_are c)
