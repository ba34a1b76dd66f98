-- `sheet_bench::steps::copy_parts` meets its contract: each slice holds its part of the input.
-- Assumes nothing.
use mathlib.Core.Path.{ap, ◌∙◌}
use mathlib.Core.List.{map}
use Prim.Native.Nat.{ℕ}
use Rattle.calls.specs.Region.{region}
use Rattle.sheet_bench.specs.Bench.{signed}
use Rattle.sheet_bench.proofs.steps.copy_parts.Goals as goal

pub returns : goal.returns
returns c =
    let input = c.args.input.now in (
      c.copy_numbers.ensures ∙ ap (region input 1) c.requires.1,
      c.copy_numbers-2.ensures
          ∙ ap (region input 3) c.requires.2,
      c.copy_signed.ensures
          ∙ ap (λ (n : ℕ). map signed (region input 7 n)) c.requires.3,
      c.copy_signed-2.ensures
          ∙ ap (λ (n : ℕ). map signed (region input 10 n)) c.requires.4,
    )
