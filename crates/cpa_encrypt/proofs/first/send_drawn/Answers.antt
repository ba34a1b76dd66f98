-- The numbers are drawn into the first n places; where they are all there, they are sent.
-- Assumes nothing.
use mathlib.Core.Path.{◌≡◌, sym, ◌∙◌}
use Prim.Native.Nat.{◌-◌}
use native.Mathlib.Omega.{arith}
use lib.ListN.{length, take, drop}
use Rattle.std.proofs.lemmas.Result.{err_from_is_err_and}
use Rattle.draws.specs.Uniform.{taken}
use Rattle.byte_source.specs.Source.{State, state_at}
use Rattle.samplers.specs.Blocks.{uniform, uniform_answer}
use Rattle.calls.proofs.Parts.{front_length}
use Rattle.sets.proofs.Rules.{listed_rules}
use Rattle.cpa_encrypt.proofs.Adding.{polynomial_fits, answer_whole, drawn_numbers, drawn_refused, drawn_placed, drawn_sent}
use Rattle.cpa_encrypt.proofs.first.send_drawn.Goals.{In_ok-next, Start}
use Rattle.cpa_encrypt.proofs.first.send_drawn.Goals as goal

-- the state before the draw
abbrev state : Start → State
state c = state_at c.args.seed.now c.args.counter

-- the numbers are drawn into the first n places
front_size : (c : Start) → length (take (c.args.p.n - 0) (drop 0 c.args.y.now)) ≡ c.args.p.n
front_size c = front_length c.args.y.now c.args.p.n (omega (arith, c.requires.4, polynomial_fits c.args.p c.requires.1))

pub slice_bounds-residues_from-end-2 : goal.slice_bounds-residues_from-end-2
slice_bounds-residues_from-end-2 c = omega (arith, c.requires.4, polynomial_fits c.args.p c.requires.1)

pub residues_from-requires : goal.residues_from-requires
residues_from-requires c =
    let pre = c.requires in
    let kept = listed_rules c.args.p pre.1 in
    let bytes = pre.0 in
    let size = front_size (goal.at.residues_from-requires c).Start in
    record {
      rules = (kept, omega (arith, c.told-seed), bytes.some_bytpca, omega (arith, bytes.most_bytpca));
      out_nonzero = (
        omega (arith, size, kept.some_n),
        omega (arith, size, kept.most_n, pre.3),
      );
    }

-- the numbers drawn, where the answer is a counter
drawn : (c : In_ok-next) → (uniform c.args.p (state (goal.at.In_ok-next c).Start) c.args.p.bytpca c.args.p.n).drawn ≡ taken c.residues_from.new.out
drawn c =
    let given = c.in_ok-next.ensures in
    drawn_numbers c.args.p (state (goal.at.In_ok-next c).Start) _ (front_size (goal.at.In_ok-next c).Start) _ _
    (sym given.answer) given.result

pub send_first-requires : goal.send_first-requires
send_first-requires c =
    let placed = drawn_placed c.args.p c.requires.1 (state (goal.at.send_first-requires c).Start) c.args.y.now _ c.requires.4 in
    (c.requires.1, c.requires.2.lent, placed (drawn (goal.at.send_first-requires c).In_ok-next))

-- the answer of the draw is that of n numbers
whole : (c : Start) → let p = c.args.p in
    uniform_answer p (state c) p.bytpca (length (take (p.n - 0) (drop 0 c.args.y.now))) ≡ uniform_answer p (state c) p.bytpca p.n
whole c = answer_whole c.args.p (state c) _ (front_size c)

pub returns-in_err-next : goal.returns-in_err-next
returns-in_err-next c =
    let told = sym c.in_err-next.ensures.answer in
    let none = drawn_refused c.args.p (state (goal.at.returns-in_err-next c).Start) _
    (front_size (goal.at.returns-in_err-next c).Start) c.requires.0.some_bytpca
    _ told in
    let same = err_from_is_err_and c.from_residual.result c.from_residual.ensures.1 in record {
      answer = rw (same.1, same.2) c.in_err-next.ensures.answer ∙ whole (goal.at.returns-in_err-next c).Start;
      result = λ xs u. absurd (none xs u);
    }

pub returns : goal.returns
returns c =
    record {
      answer = c.in_ok-next.ensures.answer ∙ whole (goal.at.returns c).Start;
      result = drawn_sent c.args.p c.requires.1 (state (goal.at.returns c).Start)
          c.args.y.now _ c.requires.4 (drawn (goal.at.returns c).In_ok-next) _ (c.send_first.ensures.root c.requires.2);
    }
