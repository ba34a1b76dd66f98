-- `lent_draws::residues` meets its contract: what looking gives is the answer, and it is accepted where the results are written.
-- Assumes nothing.
use mathlib.Core.Path.{◌≡◌, refl, sym, ap, ◌∙◌}
use lib.ListN.{length}
use Rattle.calls.specs.Outcome.{outcome}
use Rattle.draws.specs.Uniform.{numbers}
use Rattle.calls.proofs.Outcome.{handed_on}
use Rattle.lent_draws.specs.Calls.{residues_answer, residues_left}
use Rattle.lent_draws.proofs.Answers.{Shaped, shaped, shape_refused, refused_both, accepted_both, modulus_some, residues_drawn_lem, residues_answer_lem}
use Rattle.lent_draws.proofs.residues.Goals.{After-look, In_ok-check_shape}
use Rattle.lent_draws.proofs.residues.Goals as goal

-- the set and the count of results are accepted
shape : (c : In_ok-check_shape) → Shaped c.args.set
    (length c.args.out.now)
shape c = shaped _ _ (sym c.in_ok-check_shape.ensures)

-- the call's answer is the one that looking gave
answer : (c : After-look) → residues_answer c.args.set
    c.args.bytes.now
    (length c.args.out.now) ≡ outcome c.look.result
answer c = residues_answer_lem _ _ _ (shape (goal.at.After-look c).In_ok-check_shape) _ c.parameters_of-p.ensures ∙ sym c.look.ensures

pub returns-in_err-check_shape : goal.returns-in_err-check_shape
unfolding residues_answer residues_left
returns-in_err-check_shape c =
    let whole = refused_both _ _ (handed_on _ c.from_residual.result c.from_residual.ensures.1)
    (shape_refused _ _ (sym c.in_err-check_shape.ensures) _) in
    record { answer = whole.0; result = whole.1 }

pub look-requires : goal.look-requires
look-requires c =
    let made = shape (goal.at.look-requires c).In_ok-check_shape in (modulus_some _ _ c.parameters_of-p.ensures made.most, made.few)

pub returns-in-Err : goal.returns-in-Err
unfolding residues_left
returns-in-Err c =
    let told = answer (goal.at.returns-in-Err c).After-look ∙ ap outcome c.in-Err.is in
    let whole = refused_both _ _ refl told in record { answer = whole.0; result = whole.1 }

pub fill-requires : goal.fill-requires
fill-requires c = (
  modulus_some _ _ c.parameters_of-p.ensures (shape (goal.at.fill-requires c).In_ok-check_shape).most,
  sym c.look.ensures ∙ ap outcome c.in_default.is,
)

pub returns : goal.returns
unfolding residues_left
returns c =
    let whole = accepted_both _ (answer (goal.at.returns c).After-look ∙ ap outcome c.in_default.is)
    (c.fill.ensures ∙ ap numbers (residues_drawn_lem _ _ _ (shape (goal.at.returns c).In_ok-check_shape) _ c.parameters_of-p.ensures)) in
    record { answer = whole.0; result = whole.1 }
