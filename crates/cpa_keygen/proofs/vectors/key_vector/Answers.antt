-- The polynomial is correlated with the secret that the work slice holds, and the errors that it holds are added.
-- Assumes nothing.
use mathlib.Core.Path.{◌≡◌, ap, ◌∙◌}
use Prim.Native.Nat.{◌+◌, ◌-◌}
use native.Mathlib.Omega.{arith}
use lib.ListN.{take}
use Rattle.calls.specs.Region.{region}
use Rattle.sets.proofs.Rules.{listed_rules}
use Rattle.sets.proofs.Transforms.{third_size}
use Rattle.cpa_keygen.proofs.Room.{errors_short, errors_room, vectors_room, secret_room}
use Rattle.calls.proofs.Parts.{front_part}
use Rattle.cpa_keygen.proofs.KeyVectors.{secret_placed, errors_part, errors_length, errors_below, correlated_below, key_vector_lem}
use Rattle.cpa_keygen.proofs.vectors.key_vector.Goals.{After-transform_size-secret}
use Rattle.cpa_keygen.proofs.vectors.key_vector.Goals as goal

-- the secret as it is lent
secret_part : (c : After-transform_size-secret) → take (c.transform_size-secret.result - 0) c.args.work.now ≡ region c.args.work.now 0 c.args.p.d3
secret_part c =
    front_part c.args.work.now c.args.p.d3 c.transform_size-secret.result (c.transform_size-secret.ensures ∙ third_size c.args.p)

pub overflow_add-end : goal.overflow_add-end
overflow_add-end c =
    omega (
      arith,
      c.vector_length-count.ensures,
      c.errors_start-start.ensures,
      errors_short c.args.p c.requires.0 c.requires.1 c.args.i c.requires.2,
    )

pub slice_bounds-correlate-end : goal.slice_bounds-correlate-end
slice_bounds-correlate-end c =
    let p = c.args.p in
    omega (
      arith,
      c.transform_size-secret.ensures,
      third_size p,
      c.requires.5.size,
      vectors_room p c.requires.0 c.requires.1,
      secret_room p c.requires.0 c.requires.1,
    )

pub correlate-requires : goal.correlate-requires
correlate-requires c =
    let p = c.args.p in
    let pre = c.requires in
    let kept = listed_rules p pre.1 in (
      pre.1,
      pre.3,
      pre.4,
      kept.some_n,
      rw (secret_part (goal.at.correlate-requires c).After-transform_size-secret) (secret_placed p pre.0 pre.1 c.args.work.now pre.5),
      rw c.vector_length-count.ensures (omega (arith, third_size p, kept.holds3, kept.some_n)),
    )

pub offset_bounds-work-start : goal.offset_bounds-work-start
offset_bounds-work-start c =
    omega (
      arith,
      c.errors_start-start.ensures,
      errors_short c.args.p c.requires.0 c.requires.1 c.args.i c.requires.2,
    )

pub slice_bounds-add_errors-end : goal.slice_bounds-add_errors-end
slice_bounds-add_errors-end c =
    let p = c.args.p in
    omega (
      arith,
      c.errors_start-start.ensures,
      c.vector_length-count.ensures,
      c.requires.5.size,
      vectors_room p c.requires.0 c.requires.1,
      errors_room p c.requires.0 c.requires.1 c.args.i c.requires.2,
    )

pub add_errors-requires : goal.add_errors-requires
add_errors-requires c =
    let p = c.args.p in
    let pre = c.requires in
    let work = c.args.work.now in
    let i = c.args.i in
    let kept = listed_rules p pre.1 in
    let size = c.correlate.auto.x ∙ pre.4.size in
    rw (
      errors_part p pre.0 pre.1 i pre.2 work pre.5 c.errors_start-start.result c.vector_length-count.result
          c.errors_start-start.ensures c.vector_length-count.ensures,
      errors_length p pre.0 pre.1 i pre.2 work pre.5,
    ) (
      omega (arith, size, third_size p, kept.holds1, kept.rising1, kept.rising2),
      correlated_below p pre.0 pre.1 i pre.2 work pre.5 c.args.x.now _ pre.4 (secret_part (goal.at.add_errors-requires c).After-transform_size-secret)
          c.vector_length-count.ensures
          c.correlate.ensures size,
      errors_below p pre.0 pre.1 i pre.2 work pre.5,
      kept.small,
    )

pub returns : goal.returns
returns c =
    let p = c.args.p in
    let pre = c.requires in
    let work = c.args.work.now in
    let i = c.args.i in
    let errors =
    errors_part p pre.0 pre.1 i pre.2 work pre.5 c.errors_start-start.result c.vector_length-count.result
    c.errors_start-start.ensures c.vector_length-count.ensures in
    ap (take (p.d + p.k)) (rw errors at c.add_errors.ensures)
    ∙ key_vector_lem p pre.0 pre.1 i pre.2 work pre.5 c.args.x.now _ pre.4 (secret_part (goal.at.returns c).After-transform_size-secret)
    c.vector_length-count.ensures
    c.correlate.ensures (c.correlate.auto.x ∙ pre.4.size)
