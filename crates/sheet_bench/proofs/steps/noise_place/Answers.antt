-- `sheet_bench::steps::noise_place` meets its contract: the noise of set 0 is two products.
-- Assumes nothing.
use mathlib.Core.Path.{ap₂, ◌∙◌}
use Prim.Native.Nat.{◌+◌}
use native.Mathlib.Omega.{arith}
use lib.IntN.{◌+ℤ◌, ◌*ℤ◌, pos}
use lib.ListN.{get_or}
use mir.Syntax.{w64}
use mir.Val.{SFits}
use mir.Facts.{to_z-of_z}
use Rattle.numbers.proofs.Laws.{entry_kept}
use Rattle.sheet_bench.proofs.NoiseLaws.{noise_two}
use borrow.Author.Rules.{rules}
use Rattle.sheet_bench.proofs.steps.noise_place.Goals as goal

pub two_products-requires : goal.two_products-requires
two_products-requires c =
    let small = c.requires.0 in
    let e = c.args.e.now in
    let r = c.args.r.now in
    let j = c.args.j in (
      rw (entry_kept (get_or r 0 (pos 0)) c.two_products-arg-1.given) (small.multipliers 0 (omega arith)),
      rw (entry_kept (get_or e (j + 1) (pos 0)) c.two_products-arg-2-1.given) (small.errors (j + 1) (omega arith)),
      rw (entry_kept (get_or r 1 (pos 0)) c.two_products-arg-3-1.given) (small.multipliers 1 (omega arith)),
      rw (entry_kept (get_or e j (pos 0)) c.two_products-arg-4-1.given) (small.errors j (omega arith)),
    )

pub returns : goal.returns
returns c =
    let small = c.requires.0 in
    let e = c.args.e.now in
    let r = c.args.r.now in
    let j = c.args.j in
    let fits : SFits w64 c.two_products.result = search rules in
    to_z-of_z fits ∙ c.two_products.ensures
    ∙ ap₂ ◌+ℤ◌ (ap₂ ◌*ℤ◌ (entry_kept (get_or r 0 (pos 0)) c.two_products-arg-1.given)
    (entry_kept (get_or e (j + 1) (pos 0)) c.two_products-arg-2-1.given))
    (ap₂ ◌*ℤ◌ (entry_kept (get_or r 1 (pos 0)) c.two_products-arg-3-1.given)
    (entry_kept (get_or e j (pos 0)) c.two_products-arg-4-1.given))
    ∙ noise_two e r j small.errors_length small.multipliers_length (omega arith)
