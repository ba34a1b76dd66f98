-- The first places of `x` take the numbers drawn.
-- Assumes nothing.
use mathlib.Core.Path.{ap, ◌∙◌}
use Prim.Native.Nat.{◌≤◌}
use native.Mathlib.Omega.{arith}
use lib.ListN.{length}
use lib.Seq.{take_at}
use Rattle.sets.proofs.Rules.{listed_rules}
use Rattle.byte_source.specs.Source.{State}
use Rattle.samplers.specs.Seeded.{public_drawn}
use Rattle.samplers.proofs.Laws.{public_state_small}
use Rattle.scheme.specs.Encryption.{public_polynomial}
use Rattle.sets.proofs.Transforms.{third_size}
use Rattle.calls.proofs.Parts.{front_length}
use Rattle.scheme.proofs.Taken.{taken_numbers}
use Rattle.cpa_keygen.proofs.Drawn.{public_answer, public_draw}
use Rattle.cpa_keygen.proofs.vectors.draw_polynomial.Goals.{Start}
use Rattle.cpa_keygen.proofs.vectors.draw_polynomial.Goals as goal

-- the polynomial lies in `x`
room : (c : Start) → c.args.p.n ≤ length c.args.x.now
room c =
    let kept = listed_rules c.args.p c.requires.1 in
    omega (arith, c.requires.4, third_size c.args.p, kept.holds3, kept.some_d, kept.some_k)

pub slice_bounds-residues_from-end-2 : goal.slice_bounds-residues_from-end-2
slice_bounds-residues_from-end-2 c = room (goal.at.slice_bounds-residues_from-end-2 c).Start

pub residues_from-requires : goal.residues_from-requires
residues_from-requires c =
    let p = c.args.p in
    let pre = c.requires in
    let kept = listed_rules p pre.1 in
    let bytes = pre.0 in
    let small = public_state_small p kept bytes c.args.seed.now c.args.i (omega (arith, pre.2)) in
    let counter = ap (λ (s : State). s.counter) pre.3 in
    rw (front_length c.args.x.now p.n (room (goal.at.residues_from-requires c).Start))
    (record {
      rules = (kept, omega (arith, c.told-seed), bytes.some_bytpca, omega (arith, bytes.most_bytpca));
      out_nonzero = (kept.some_n, omega (arith, counter, small, kept.most_n));
    })

pub returns : goal.returns
unfolding public_polynomial
returns c =
    let p = c.args.p in
    let seed = c.args.seed.now in
    let i = c.args.i in
    let drawn = c.residues_from in
    let front = front_length c.args.x.now p.n (room (goal.at.returns c).Start) in record {
      answer = drawn.ensures.answer ∙ public_answer p seed i front c.requires.3;
      result = λ t.
          take_at drawn.new.out _ p.n (drawn.auto.out ∙ front)
          ∙ drawn.ensures.result (public_polynomial p seed i) (public_draw p seed i front c.requires.3 ∙ taken_numbers (public_drawn p seed i) t);
    }
