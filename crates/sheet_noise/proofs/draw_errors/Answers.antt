-- The draw of the secret is taken, and the errors go on from the state that it leaves.
-- Assumes nothing.
use mathlib.Core.Path.{◌≡◌, sym, ap, ◌∙◌}
use mathlib.Core.List.{List, ◌++◌, map}
use Prim.Native.Nat.{ℕ, ◌-◌, ◌≤◌}
use native.Mathlib.Omega.{arith}
use lib.ListN.{length, take, drop}
use Rattle.maths.specs.Integer.{residue}
use Rattle.sets.specs.declared.Parameters.{Parameters}
use Rattle.sets.specs.Rules.{Rules}
use Rattle.byte_source.specs.Source.{State, state_at}
use Rattle.samplers.specs.Blocks.{onward}
use Rattle.samplers.specs.Seeded.{errors_drawn, secret_state}
use Rattle.samplers.proofs.Laws.{secret_state_small}
use Rattle.scheme.specs.Encryption.{errors}
use Rattle.sets.proofs.Rules.{listed_rules}
use Rattle.calls.proofs.Parts.{front_length, back_length}
use Rattle.sheet_noise.proofs.Held.{work_room, secret_state_lem, never_refused, errors_written}
use Rattle.sheet_noise.proofs.draw_errors.Goals.{After-error_count-count, After-residues_from, In-Ok}
use Rattle.sheet_noise.proofs.draw_errors.Goals as goal

-- the set's numbers and their rules
abbrev p : After-error_count-count → Parameters
p c = c.args.p

kept : (c : After-error_count-count) → Rules (p c)
kept c = listed_rules (p c) c.requires.1

-- the work slice before, and after the draw of the secret
abbrev work : After-error_count-count → List ℕ
work c = c.args.work.now

abbrev work_after : After-residues_from → List ℕ
work_after c =
    take 0 (work (goal.at.After-residues_from c).After-error_count-count)
    ++ (c.residues_from.new.out ++ drop ((p (goal.at.After-residues_from c).After-error_count-count).d3 - 0)
    (drop 0 (work (goal.at.After-residues_from c).After-error_count-count)))

pub error_count-count-requires : goal.error_count-count-requires
error_count-count-requires c = listed_rules c.args.p c.requires.1

-- the secret and the errors fit
secret_fits : (c : After-error_count-count) → (p c).d3 ≤ length (work c)
secret_fits c =
    omega (arith, (work_room c.args.p c.requires.0 c.requires.1).secret_in, c.requires.3)

errors_fit : (c : After-error_count-count) → c.error_count-count.result ≤ length (work c)
errors_fit c =
    omega (arith, (work_room c.args.p c.requires.0 c.requires.1).all_in, c.error_count-count.ensures.0, c.requires.3)

-- the part of the secret
secret_part : (c : After-error_count-count)
    → length (take ((p c).d3 - 0) (drop 0 (work c))) ≡ (p c).d3
secret_part c = front_length (work c) (p c).d3 (secret_fits c)

pub slice_bounds-residues_from-end-2 : goal.slice_bounds-residues_from-end-2
slice_bounds-residues_from-end-2 c = omega (arith, secret_fits (goal.at.slice_bounds-residues_from-end-2 c).After-error_count-count)

pub residues_from-requires : goal.residues_from-requires
residues_from-requires c =
    let all = kept (goal.at.residues_from-requires c).After-error_count-count in
    record {
      rules = (all, omega (arith, c.told-secret), c.requires.0.some_bytpcs, c.requires.0.most_bytpcs);
      out_nonzero = (
        omega (arith, secret_part (goal.at.residues_from-requires c).After-error_count-count, all.some_n, all.some_d, all.some_k, all.holds3),
        omega (arith, secret_part (goal.at.residues_from-requires c).After-error_count-count, all.most_d3),
      );
    }

pub returns-in_default : goal.returns-in_default
returns-in_default c =
    let secret = c.args.secret.now in
    let answer = sym (ap (onward secret) c.in_default.is) ∙ c.residues_from.ensures.answer in
    absurd
    (never_refused c.args.p secret _ (secret_part (goal.at.returns-in_default c).After-error_count-count)
    c.requires.0.some_bytpcs _ answer c.requires.2)

-- the state that the draw of the secret leaves
state_is : (c : In-Ok) → state_at c.args.secret.now c.in-Ok.counter ≡ secret_state c.args.p c.args.secret.now
state_is c =
    let secret = c.args.secret.now in
    secret_state_lem c.args.p secret _ (secret_part (goal.at.In-Ok c).After-error_count-count) _
    (sym (ap (onward secret) c.in-Ok.is) ∙ c.residues_from.ensures.answer)

-- the work slice keeps its length
kept_length : (c : After-residues_from) → length (work_after c) ≡ length (work (goal.at.After-residues_from c).After-error_count-count)
kept_length c =
    back_length (work (goal.at.After-residues_from c).After-error_count-count) c.residues_from.new.out
    (p (goal.at.After-residues_from c).After-error_count-count).d3
    (c.residues_from.auto.out ∙ secret_part (goal.at.After-residues_from c).After-error_count-count)
    (secret_fits (goal.at.After-residues_from c).After-error_count-count)

pub slice_bounds-errors_from-end-2 : goal.slice_bounds-errors_from-end-2
slice_bounds-errors_from-end-2 c =
    omega (
      arith,
      kept_length (goal.at.slice_bounds-errors_from-end-2 c).After-residues_from,
      errors_fit (goal.at.slice_bounds-errors_from-end-2 c).After-error_count-count,
    )

-- the part of the errors
errors_size : (c : After-residues_from)
    → length (take (c.error_count-count.result - 0) (drop 0 (work_after c))) ≡ c.error_count-count.result
errors_size c =
    front_length (work_after c) c.error_count-count.result (omega (arith, kept_length c, errors_fit (goal.at.After-residues_from c).After-error_count-count))

pub errors_from-requires : goal.errors_from-requires
errors_from-requires c =
    let small = secret_state_small (p (goal.at.errors_from-requires c).After-error_count-count) (kept (goal.at.errors_from-requires c).After-error_count-count)
    c.requires.0 c.args.secret.now in
    let counter = ap (λ (s : State). s.counter) (state_is (goal.at.errors_from-requires c).In-Ok) in
    record {
      rules = (
        kept (goal.at.errors_from-requires c).After-error_count-count,
        c.requires.0,
        omega (arith, c.told-secret),
        errors_size (goal.at.errors_from-requires c).After-residues_from ∙ c.error_count-count.ensures.0,
      );
      p_bound = omega (
        arith,
        small,
        counter,
        c.requires.0.most_error_bytes,
      );
    }

pub returns : goal.returns
unfolding errors
returns c =
    let o = c.args.p in
    let made = c.errors_from in
    let secret = c.args.secret.now in
    errors_written o secret (work_after (goal.at.returns c).After-residues_from) made.new.out c.error_count-count.result
    (made.auto.out ∙ errors_size (goal.at.returns c).After-residues_from ∙ c.error_count-count.ensures.0)
    (made.ensures ∙ ap (λ (s : State). map (residue o.q) (errors_drawn o s)) (state_is (goal.at.returns c).In-Ok))
