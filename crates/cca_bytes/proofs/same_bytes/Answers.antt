-- `cca_bytes::same_bytes` meets its contract: between two turns the differences of the bytes taken are found.
-- Assumes nothing.
use mathlib.Core.Path.{◌∙◌}
use mathlib.Core.Logic.{inl, inr}
use Rattle.cca_bytes.proofs.Compared.{compared_none, compared_more, compared_all}
use Rattle.cca_bytes.proofs.same_bytes.Goals as goal

pub loop-a-init : goal.loop-a-init
loop-a-init c = compared_none c.requires (cc) (cc)

pub loop-a-preserved : goal.loop-a-preserved
loop-a-preserved c = compared_more c.loop-a.invariant c.in-Some.ensures.steps.0 c.in-Some.ensures.steps.1

pub returns : goal.returns
returns c =
    let compared = c.loop-a.invariant in
    compared_all compared
    (elim c.in-None.ensures.steps [
      | inl first ↦ first.1.0
      | inr second ↦ compared.sizes ∙ second.1.0
    ])
