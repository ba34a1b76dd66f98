-- The first places of the work slice take the numbers drawn.
-- Assumes nothing.
use mathlib.Core.Path.{ap, ◌∙◌}
use Prim.Native.Nat.{◌≤◌}
use native.Mathlib.Omega.{arith}
use lib.ListN.{length}
use Rattle.calls.specs.Region.{over}
use Rattle.calls.proofs.Region.{over_lent}
use Rattle.sets.proofs.Rules.{listed_rules}
use Rattle.samplers.specs.Seeded.{secret_drawn}
use Rattle.scheme.specs.Encryption.{stored_secret}
use Rattle.cpa_keygen.proofs.Room.{vectors_room, secret_room}
use Rattle.calls.proofs.Parts.{front_length}
use Rattle.scheme.proofs.Taken.{taken_numbers}
use Rattle.cpa_keygen.proofs.Drawn.{secret_answer, secret_draw_lem}
use Rattle.cpa_keygen.proofs.draw_stored.Goals.{Start}
use Rattle.cpa_keygen.proofs.draw_stored.Goals as goal

-- the secret lies in the work slice
room : (c : Start) → c.args.p.d3 ≤ length c.args.work.now
room c = omega (arith, c.requires.2, vectors_room c.args.p c.requires.0 c.requires.1, secret_room c.args.p c.requires.0 c.requires.1)

pub slice_bounds-residues_from-end-2 : goal.slice_bounds-residues_from-end-2
slice_bounds-residues_from-end-2 c = room (goal.at.slice_bounds-residues_from-end-2 c).Start

pub residues_from-requires : goal.residues_from-requires
residues_from-requires c =
    let p = c.args.p in
    let pre = c.requires in
    let kept = listed_rules p pre.1 in
    let bytes = pre.0 in
    rw (front_length c.args.work.now p.d3 (room (goal.at.residues_from-requires c).Start))
    (record {
      rules = (kept, omega (arith, c.told-seed), bytes.some_bytpcs, bytes.most_bytpcs);
      out_nonzero = (omega (arith, kept.some_n, kept.some_d, kept.some_k, kept.holds3), omega (arith, kept.most_d3));
    })

pub returns : goal.returns
unfolding stored_secret
returns c =
    let p = c.args.p in
    let seed = c.args.seed.now in
    let work = c.args.work.now in
    let drawn = c.residues_from in
    let front = front_length work p.d3 (room (goal.at.returns c).Start) in record {
      answer = drawn.ensures.answer ∙ secret_answer p seed front;
      result = λ t.
          over_lent work 0 drawn.new.out p.d3 (omega (arith, drawn.auto.out, front))
          ∙ ap (over work 0) (drawn.ensures.result (stored_secret p seed) (secret_draw_lem p seed front ∙ taken_numbers (secret_drawn p seed) t));
    }
