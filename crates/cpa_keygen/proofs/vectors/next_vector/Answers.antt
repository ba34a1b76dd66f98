-- A polynomial that is drawn gives the vector; a refused draw gives none.
-- Assumes nothing.
use mathlib.Core.Path.{ap, ◌∙◌}
use Prim.Native.Nat.{◌+◌, ◌*◌}
use Rattle.std.proofs.lemmas.Result.{err_from_is_err_and}
use Rattle.calls.specs.Region.{over}
use Rattle.samplers.specs.Seeded.{public_drawn}
use Rattle.cpa_keygen.specs.Held.{vectors_start_of}
use Rattle.cpa_keygen.proofs.Drawn.{true_false, advanced, stopped, public_never_ends}
use Rattle.cpa_keygen.proofs.KeyVectors.{polynomial_placed, vector_below, stored_is}
use Rattle.cpa_keygen.proofs.vectors.next_vector.Goals as goal

pub returns-in_err-next : goal.returns-in_err-next
returns-in_err-next c =
    let p = c.args.p in
    let seed = c.args.seed.now in
    let none =
    stopped _ _ (public_drawn p seed c.args.i) (λ xs run. public_never_ends p c.requires.0 seed xs run c.args.i)
    c.in_err-next.ensures.answer in
    let same = err_from_is_err_and c.from_residual.result c.from_residual.ensures.1 in
    record { answer = rw (same.1, same.2) c.in_err-next.ensures.answer; result = λ t. absurd (true_false t none.not_taken) }

pub key_vector-requires : goal.key_vector-requires
key_vector-requires c =
    let pre = c.requires in
    let p = c.args.p in
    let seed = c.args.seed.now in
    let polynomial = c.draw_polynomial in
    let drawn = advanced _ _ (public_drawn p seed c.args.i) c.in_ok-next.ensures.answer in
    let placed =
    polynomial_placed p pre.1 seed polynomial.new.x c.args.i (polynomial.auto.x ∙ pre.6)
    (polynomial.ensures.result drawn.all_taken_lem) in
    (pre.0, pre.1, pre.2, pre.4, placed, pre.7)

pub store_vector-requires : goal.store_vector-requires
store_vector-requires c =
    let pre = c.requires in
    let vector = c.key_vector in
    let size = vector.auto.x ∙ c.draw_polynomial.auto.x ∙ pre.6 in
    let below = vector_below c.args.p pre.1 vector.new.x _ c.args.work.now c.args.i vector.ensures in
    (pre.0, pre.1, pre.2, pre.5, size, below, pre.7.size)

pub returns : goal.returns
returns c =
    let p = c.args.p in
    let work = c.args.work.now in
    let polynomial = c.draw_polynomial in record {
      answer = c.in_ok-next.ensures.answer;
      result = λ t.
          c.store_vector.ensures
          ∙ ap (over work (vectors_start_of p + p.d1 * c.args.i))
          (stored_is p c.args.seed.now work _ _ c.args.i c.key_vector.ensures (polynomial.ensures.result t));
    }
