-- The secret is drawn; where the draw is refused nothing is written, else the message is read with it.
-- Assumes nothing.
use mathlib.Core.Path.{◌≡◌, sym, ap, subst⁻¹, ◌∙◌}
use mathlib.Core.List.{List, ◌++◌}
use Prim.Native.Nat.{ℕ, ◌-◌, ◌≤◌}
use native.Mathlib.Omega.{arith}
use lib.ListN.{length, take, drop}
use Rattle.calls.specs.Outcome.{refused}
use Rattle.calls.proofs.Outcome.{refused_call, accepted_call, handed_as}
use Rattle.sets.specs.declared.Parameters.{Parameters}
use Rattle.sets.specs.Derived.{transform_size_of}
use Rattle.sets.proofs.Rules.{listed_rules}
use Rattle.std.specs.Prelude.{Ok}
use Rattle.byte_source.specs.Source.{state_at, initial}
use Rattle.samplers.specs.Blocks.{uniform, uniform_answer, onward}
use Rattle.samplers.proofs.Laws.{Onto, answer_onto, answer_refusal}
use Rattle.ntt_products.specs.Placed.{Placed}
use Rattle.scheme.specs.Encryption.{stored_secret}
use Rattle.cpa_decrypt.specs.Decrypted.{decrypted_message_from}
use Rattle.cpa_decrypt.proofs.Bits.{opened_message}
use Rattle.cpa_decrypt.proofs.Secret.{secret_taken, secret_refused, secret_placed}
use Rattle.calls.proofs.Parts.{front_length, part_front, front_room}
use Rattle.cpa_decrypt.proofs.Room.{secret_room}
use Rattle.cpa_decrypt.proofs.decrypt.Goals.{After-residues_from}
use Rattle.cpa_decrypt.proofs.decrypt.Goals as goal

pub slice_bounds-residues_from-end-2 : goal.slice_bounds-residues_from-end-2
slice_bounds-residues_from-end-2 c = rw c.requires.3 (secret_room c.args.p)

pub residues_from-requires : goal.residues_from-requires
residues_from-requires c =
    let p = c.args.p in
    let kept = listed_rules p c.requires.1 in
    let bytes = c.requires.0 in
    let room = rw (← c.requires.3) at (secret_room p) in
    rw (front_length c.args.work.now p.d3 room) (record {
      rules = (kept, omega (arith, c.told-seed), bytes.some_bytpcs, bytes.most_bytpcs);
      out_nonzero = (omega (arith, kept.holds3, kept.some_n, kept.some_d, kept.some_k), omega (arith, kept.most_d3));
    })

-- after the draw: the secret's seed, the set's parameters, the work slice before, and what the draw left at its front
module _ (c : After-residues_from) where
  abbrev seed : List ℕ
  seed = c.args.seed.now

  abbrev p : Parameters
  p = c.args.p

  abbrev work : List ℕ
  work = c.args.work.now

  abbrev drawn : List ℕ
  drawn = c.residues_from.new.out

  -- a stored secret has room
  room : p.d3 ≤ length work
  room = omega (arith, c.requires.3, secret_room p)

  -- as many numbers are drawn as it has
  drawn_length : length drawn ≡ p.d3
  drawn_length = omega (arith, c.residues_from.auto, front_length work p.d3 room)

  -- the draw is the one that the definition makes
  answered : uniform_answer p (initial seed) p.bytpcs p.d3 ≡ onward seed c.residues_from.result
  answered = sym (rw (front_length work p.d3 room) at c.residues_from.ensures.answer)

  module _ {next : ℕ} (told : c.residues_from.result ≡ Ok next) where
    -- a draw with a counter has its numbers
    secret : Onto (uniform p (initial seed) p.bytpcs p.d3).drawn (uniform p (initial seed) p.bytpcs p.d3).next (state_at seed next)
    secret = answer_onto p (initial seed) p.bytpcs p.d3 (state_at seed next) (answered ∙ ap (onward seed) told)

    -- the front of the work slice is the secret as it is stored
    stored : take (p.d3 - 0) (drawn ++ drop (p.d3 - 0) work) ≡ stored_secret p seed
    stored =
        part_front drawn _ p.d3 drawn_length
        ∙ c.residues_from.ensures.result secret.xs
        (ap (λ (n : ℕ). (uniform p (initial seed) p.bytpcs n).drawn) (front_length work p.d3 room) ∙ secret.drawn_is)
        ∙ sym (secret_taken p seed secret.xs secret.drawn_is).1

    -- which may be correlated with
    stored_placed : Placed p 3 (transform_size_of p 3) (stored_secret p seed)
    stored_placed =
        rw (secret_taken p seed secret.xs secret.drawn_is).1
        (secret_placed p c.requires.1 seed secret.xs secret.drawn_is)

pub slice_bounds-read-end : goal.slice_bounds-read-end
slice_bounds-read-end c =
    front_room (drawn (goal.at.slice_bounds-read-end c).After-residues_from) _ (p (goal.at.slice_bounds-read-end c).After-residues_from).d3
    (drawn_length (goal.at.slice_bounds-read-end c).After-residues_from)

pub read-requires : goal.read-requires
read-requires c =
    let told = c.in_ok-residues_from.was in (
      c.requires.0,
      c.requires.1,
      c.requires.2,
      subst⁻¹ (λ (l : List ℕ). Placed (p (goal.at.read-requires c).After-residues_from) 3
          (transform_size_of (p (goal.at.read-requires c).After-residues_from) 3) l) (stored (goal.at.read-requires c).After-residues_from told)
          (stored_placed (goal.at.read-requires c).After-residues_from told),
    )

pub returns-in_err-residues_from : goal.returns-in_err-residues_from
returns-in_err-residues_from c =
    let told = c.in_err-residues_from.was in
    let bytes = c.requires.0 in
    let none = answer_refusal (p (goal.at.returns-in_err-residues_from c).After-residues_from)
    (initial (seed (goal.at.returns-in_err-residues_from c).After-residues_from)) (p (goal.at.returns-in_err-residues_from c).After-residues_from).bytpcs
    (p (goal.at.returns-in_err-residues_from c).After-residues_from).d3 bytes.some_bytpcs _
    (answered (goal.at.returns-in_err-residues_from c).After-residues_from
    ∙ ap (onward (seed (goal.at.returns-in_err-residues_from c).After-residues_from)) told) in
    let five = handed_as c.from_residual.result c.from_residual.ensures.1 ∙ ap (λ (k : ℕ). refused k 0) none.0 in
    let call = refused_call _ _ (secret_refused (p (goal.at.returns-in_err-residues_from c).After-residues_from)
    (seed (goal.at.returns-in_err-residues_from c).After-residues_from) none.1) in record { answer = five ∙ call.0; read = call.1 }

pub returns : goal.returns
returns c =
    let ct = c.args.ciphertext.now in
    let told = c.in_ok-residues_from.was in
    let found = secret (goal.at.returns c).After-residues_from told in
    let whole = accepted_call _ _ (secret_taken (p (goal.at.returns c).After-residues_from) (seed (goal.at.returns c).After-residues_from) found.xs
    found.drawn_is).0
    (c.read.ensures
    ∙ ap (λ (l : List ℕ). decrypted_message_from (p (goal.at.returns c).After-residues_from) l ct) (stored (goal.at.returns c).After-residues_from
    told)
    ∙ opened_message (p (goal.at.returns c).After-residues_from) (seed (goal.at.returns c).After-residues_from) ct) in record {
      answer = whole.0;
      read = whole.1;
    }
