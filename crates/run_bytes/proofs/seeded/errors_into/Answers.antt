-- The errors of one key are fewer than the bytes that they are drawn from.
-- Assumes nothing.
use Prim.Native.Nat.{◌≤◌}
use native.Mathlib.Omega.{arith}
use lib.ListN.{length-take}
use Rattle.sets.specs.declared.Parameters.{Parameters}
use Rattle.sets.specs.Rules.{ByteRules}
use Rattle.sets.specs.Derived.{error_draw_bytes_of, error_count_of}
use Rattle.run_bytes.proofs.seeded.errors_into.Goals.{After-error_count-count}
use Rattle.run_bytes.proofs.seeded.errors_into.Goals as goal

-- one byte of each polynomial is not used
bounded : (p : Parameters) → ByteRules p → error_count_of p ≤ 10240
unfolding error_count_of error_draw_bytes_of
bounded p all = omega (arith, all.most_error_bytes)

count_most : (c : After-error_count-count) → c.error_count-count.result ≤ 10240
count_most c = omega (arith, c.error_count-count.ensures.0, bounded c.parameters-p.result c.parameters-p.ensures.1)

pub slice_bounds-errors_from-end-2 : goal.slice_bounds-errors_from-end-2
slice_bounds-errors_from-end-2 c = omega (arith, count_most (goal.at.slice_bounds-errors_from-end-2 c).After-error_count-count)

pub errors_from-requires : goal.errors_from-requires
errors_from-requires c =
    let rules = c.parameters-p.ensures in
    let most = count_most (goal.at.errors_from-requires c).After-error_count-count in
    record {
      rules = (
        rules.0,
        rules.1,
        omega arith,
        omega (arith, length-take c.error_count-count.result c.args.out.now, most, c.error_count-count.ensures.0),
      );
      p_bound = omega (arith, rules.1.most_error_bytes);
    }
