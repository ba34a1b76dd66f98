-- The places after the secret take the errors.
-- Assumes nothing.
use mathlib.Core.Path.{◌≡◌, sym, ap, ◌∙◌}
use mathlib.Core.List.{map}
use Prim.Native.Nat.{◌+◌}
use native.Mathlib.Omega.{arith}
use lib.ListN.{length, length-map}
use Rattle.maths.specs.Integer.{residue}
use Rattle.calls.specs.Region.{over}
use Rattle.calls.proofs.Region.{over_lent}
use Rattle.sets.proofs.Rules.{listed_rules}
use Rattle.byte_source.specs.Source.{state_at}
use Rattle.sets.specs.Derived.{error_count_of}
use Rattle.samplers.specs.Seeded.{errors_drawn}
use Rattle.samplers.proofs.Laws.{errors_drawn_length}
use Rattle.cpa_keygen.specs.Held.{vectors_start_of}
use Rattle.cpa_keygen.proofs.Room.{vectors_room, secret_room}
use Rattle.calls.proofs.Parts.{part_length}
use Rattle.cpa_keygen.proofs.draw_errors.Goals.{After-vectors_start-end}
use Rattle.cpa_keygen.proofs.draw_errors.Goals as goal

-- the errors take the places before the stored vectors
errors_end : (c : After-vectors_start-end) → c.args.p.d3 + error_count_of c.args.p ≡ c.vectors_start-end.result
errors_end c = secret_room c.args.p c.requires.0 c.requires.1 ∙ sym c.vectors_start-end.ensures

pub offset_bounds-work-start : goal.offset_bounds-work-start
offset_bounds-work-start c = omega (arith, (listed_rules c.args.p c.requires.1).most_d3)

pub slice_bounds-errors_from-count : goal.slice_bounds-errors_from-count
slice_bounds-errors_from-count c = omega (arith, errors_end (goal.at.slice_bounds-errors_from-count c).After-vectors_start-end)

pub slice_bounds-errors_from-start : goal.slice_bounds-errors_from-start
slice_bounds-errors_from-start c = omega (arith, errors_end (goal.at.slice_bounds-errors_from-start c).After-vectors_start-end)

pub slice_bounds-errors_from-end-2 : goal.slice_bounds-errors_from-end-2
slice_bounds-errors_from-end-2 c = omega (arith, c.vectors_start-end.ensures, c.requires.2, vectors_room c.args.p c.requires.0 c.requires.1)

pub errors_from-requires : goal.errors_from-requires
errors_from-requires c =
    let p = c.args.p in
    let pre = c.requires in
    let size =
    part_length c.args.work.now p.d3 (vectors_start_of p) (error_count_of p) (sym (secret_room p pre.0 pre.1))
    (omega (arith, pre.2, vectors_room p pre.0 pre.1, secret_room p pre.0 pre.1)) in
    rw c.vectors_start-end.ensures (record {
      rules = (listed_rules p pre.1, pre.0, omega (arith, c.told-seed), size);
      p_bound = omega (arith, pre.3, pre.0.most_error_bytes);
    })

pub returns : goal.returns
returns c =
    let p = c.args.p in
    let work = c.args.work.now in
    let ys = c.errors_from.new.out in
    let state = state_at c.args.seed.now c.args.counter in
    let made : ys ≡ map (residue p.q) (errors_drawn p state) = c.errors_from.ensures in
    let count : length ys ≡ error_count_of p = ap length made ∙ length-map (errors_drawn p state) (residue p.q) ∙ errors_drawn_length p state in
    over_lent work p.d3 ys c.vectors_start-end.result (omega (arith, errors_end (goal.at.returns c).After-vectors_start-end)) ∙ ap (over work p.d3) made
