-- The secret is drawn first; where it is, the vectors are stored and the public draws decide.
-- Assumes nothing.
use mathlib.Core.Path.{sym, ◌∙◌}
use mathlib.Core.Bool.{not}
use Rattle.calls.specs.Outcome.{accepted, refuse}
use Rattle.calls.proofs.Outcome.{accepted_refused, handed_on}
use Rattle.samplers.specs.Seeded.{secret_drawn, public_drawn}
use Rattle.scheme.specs.Answers.{is_taken, all_taken}
use Rattle.cpa_keygen.proofs.Drawn.{refuse_taken, draw_accepted, draw_refused}
use Rattle.cpa_keygen.proofs.WholeKey.{secret_residues, key_stored}
use Rattle.cpa_keygen.proofs.store_key.Goals as goal

pub store_vectors-requires : goal.store_vectors-requires
store_vectors-requires c =
    let pre = c.requires in
    let secret = c.draw_secret in
    let drawn = draw_accepted _ accepted (sym c.in_ok-draw_secret.ensures.answer) in (
      pre.0,
      pre.1,
      secret_residues c.args.p pre.0 pre.1 c.args.seedsk.now secret.new.work (secret.ensures.result drawn.0)
          (secret.auto.work ∙ pre.2),
    )

pub returns-in_err-draw_secret : goal.returns-in_err-draw_secret
returns-in_err-draw_secret c =
    let p = c.args.p in
    let told = handed_on _ c.from_residual.result c.from_residual.ensures.1 in
    let public = refuse (not (all_taken p.t (public_drawn p c.args.seedpk.now))) 5 0 accepted in
    let decided =
    draw_refused (is_taken (secret_drawn p c.args.seedsk.now)) public (sym c.in_err-draw_secret.ensures.answer) in
    record { answer = told ∙ decided; result = λ e. absurd (accepted_refused e told) }

pub returns : goal.returns
returns c =
    let pre = c.requires in
    let secret = c.draw_secret in
    let vectors = c.store_vectors in
    let drawn = draw_accepted _ accepted (sym c.in_ok-draw_secret.ensures.answer) in record {
      answer = vectors.ensures.answer ∙ sym (refuse_taken _ drawn.0);
      result = λ e.
          key_stored c.args.p pre.0 pre.1 c.args.seedsk.now secret.new.work (secret.ensures.result drawn.0)
          (secret.auto.work ∙ pre.2) c.args.seedpk.now _
          (vectors.ensures.result (draw_accepted _ accepted (sym vectors.ensures.answer ∙ e)).0);
    }
