-- Every number before the first that is none is a residue.
-- Assumes nothing.
use mathlib.Core.Path.{◌≡◌}
use mathlib.Core.Bool.{true, false}
use Prim.Native.Nat.{ℕ}
use lib.ListN.{get_or}
use native.Mathlib.Omega.{arith}
use borrow.Author.Tests.{leb-true, ltb-true}
use Rattle.calls.specs.Checks.{below}
use Rattle.calls.proofs.Checks.{passing_before, passing_within}
use Rattle.run_arithmetic.proofs.vectors.ready.Goals as goal

-- false is not true
never : false ≡ true → ⊥
never e = let z : ◌≡◌ {A = ℕ} 0 1 = cc in omega arith

pub returns-then-tables-table_length : goal.returns-then-tables-table_length
returns-then-tables-table_length c e = absurd (never e)

pub returns-then-x-transform_size : goal.returns-then-x-transform_size
returns-then-x-transform_size c e = absurd (never e)

pub returns : goal.returns
returns c e =
    let limit = c.args.p.q in
    let xs = c.args.x.now in
    let found = c.first_at_least.ensures in
    let most = leb-true c.args.n c.first_at_least.result e in
    let within = passing_within (below limit) 0 xs in (
      omega (arith, c.table_length.ensures),
      record {
        size = omega (arith, c.transform_size.ensures);
        inside = omega (arith, most, found, within, c.transform_size.ensures);
        residues = record {
          each = λ j h. omega (arith, ltb-true (get_or xs j 0) limit (passing_before (below limit) 0 xs 0 j (omega (arith, found, most))));
        };
      },
    )
