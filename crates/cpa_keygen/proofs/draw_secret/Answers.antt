-- The draw of the secret decides, and the errors are drawn from the state that it leaves.
-- Assumes nothing.
use mathlib.Core.Path.{sym, ap, ◌∙◌}
use native.Mathlib.Omega.{arith}
use Rattle.calls.specs.Outcome.{accepted}
use Rattle.sets.proofs.Rules.{listed_rules}
use Rattle.byte_source.specs.Source.{State, state_at}
use Rattle.calls.proofs.Outcome.{handed_as}
use Rattle.samplers.specs.Seeded.{secret_drawn, secret_state}
use Rattle.samplers.proofs.Laws.{secret_state_small}
use Rattle.cpa_keygen.proofs.Drawn.{true_false, Advanced, advanced, stopped, secret_never_ends, refuse_taken, refuse_not_taken}
use Rattle.cpa_keygen.proofs.WholeKey.{secret_held}
use borrow.Author.Rules.{rules}
use Rattle.cpa_keygen.proofs.draw_secret.Goals.{In_ok-next}
use Rattle.cpa_keygen.proofs.draw_secret.Goals as goal

-- a draw with a counter: the secret is taken, and its state is known
module _ (c : In_ok-next) where
  took :
      Advanced (secret_drawn c.args.p c.args.seed.now)
      (secret_state c.args.p c.args.seed.now) (state_at c.args.seed.now c.in_ok-next.next)
  took = advanced _ _ _ c.in_ok-next.ensures.answer

pub draw_errors-requires : goal.draw_errors-requires
draw_errors-requires c =
    let pre = c.requires in
    let small = secret_state_small c.args.p (listed_rules _ pre.1) pre.0 c.args.seed.now in
    (pre.0, pre.1, search rules, omega (arith, small, ap (λ (s : State). s.counter) (took (goal.at.draw_errors-requires c).In_ok-next).next_is))

pub returns-in_err-next : goal.returns-in_err-next
returns-in_err-next c =
    let p = c.args.p in
    let seed = c.args.seed.now in
    let none = stopped _ _ (secret_drawn p seed) (secret_never_ends p c.requires.0 seed) c.in_err-next.ensures.answer in
    record {
      answer = handed_as c.from_residual.result c.from_residual.ensures.1 ∙ refuse_not_taken accepted none.not_taken none.five;
      result = λ t. absurd
          (true_false t none.not_taken);
    }

pub returns : goal.returns
returns c =
    let pre = c.requires in record {
      answer = sym (refuse_taken accepted (took (goal.at.returns c).In_ok-next).all_taken_lem);
      result = λ t.
          secret_held c.args.p pre.0 pre.1 c.args.seed.now c.args.work.now _ _ _ pre.2 t (took (goal.at.returns c).In_ok-next).next_is
          (c.draw_stored.ensures.result t) c.draw_errors.ensures;
    }
