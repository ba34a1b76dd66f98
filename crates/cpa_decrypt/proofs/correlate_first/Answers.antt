-- What ĉ1 stores is recovered to the front of the buffer, and its first n + k numbers are correlated with what is stored.
-- Assumes nothing.
use mathlib.Core.Path.{◌≡◌, sym, ap, subst⁻¹, ◌∙◌}
use mathlib.Core.List.{List, ◌++◌}
use Prim.Native.Nat.{ℕ, ◌+◌, ◌-◌}
use native.Mathlib.Omega.{arith}
use lib.ListN.{length, take, drop}
use Rattle.calls.specs.Region.{over}
use Rattle.calls.proofs.Region.{over_lent}
use Rattle.calls.proofs.Parts.{front_length}
use Rattle.sets.specs.declared.Parameters.{Parameters}
use Rattle.sets.specs.Derived.{transform_size_of}
use Rattle.sets.proofs.Rules.{listed_rules}
use Rattle.sets.proofs.Transforms.{second_size, third_size}
use Rattle.ntt_products.specs.Stored.{recovered}
use Rattle.ntt_products.specs.Placed.{Placed}
use Rattle.cpa_decrypt.proofs.First.{first, second_room, first_unpacked, buffer_placed, first_correlated}
use Rattle.cpa_decrypt.proofs.Room.{tables_rising}
use borrow.Author.Rules.{rules}
use Rattle.cpa_decrypt.proofs.correlate_first.Goals.{After-recover_first}
use Rattle.cpa_decrypt.proofs.correlate_first.Goals as goal

pub slice_bounds-recover_first-end-2 : goal.slice_bounds-recover_first-end-2
slice_bounds-recover_first-end-2 c =
    omega (arith, c.table_length-room.ensures, c.requires.4, tables_rising c.args.p c.requires.0 c.requires.1)

pub slice_bounds-recover_first-end-3 : goal.slice_bounds-recover_first-end-3
slice_bounds-recover_first-end-3 c =
    second_room c.args.p c.requires.1 c.args.x.now c.requires.5

pub recover_first-requires : goal.recover_first-requires
recover_first-requires c =
    let places = c.table_length-room in
    let p = c.args.p in
    let tables = c.args.tables.now in
    let x = c.args.x.now in
    let pre = c.requires in (
      pre.0,
      pre.1,
      front_length tables places.result (omega (arith, places.ensures, pre.4, tables_rising p pre.0 pre.1)) ∙ places.ensures,
      front_length x p.d2 (second_room p pre.1 x pre.5) ∙ sym (second_size p),
    )

-- after the recovery
module _ (c : After-recover_first) where
  -- the set's parameters
  abbrev p : Parameters
  p = c.args.p

  -- the front of the buffer has the places of the second transform
  front_size : length c.recover_first.new.x ≡ transform_size_of p 2
  front_size =
      let x = c.args.x.now in
      c.recover_first.auto.x ∙ front_length x p.d2 (second_room p c.requires.1 x c.requires.5) ∙ sym (second_size p)

  -- it begins with c1'
  front_made : take (p.n + p.k) c.recover_first.new.x ≡ first p c.args.ciphertext.now
  front_made =
      c.recover_first.ensures
      ∙ ap (recovered p 2 (p.n + p.k)) (first_unpacked p c.args.ciphertext.now (second_size p) c.first_bytes-end.ensures.0)

  -- the buffer is written over with it
  buffer : c.recover_first.new.x ++ drop (p.d2 - 0) c.args.x.now ≡ over c.args.x.now 0 c.recover_first.new.x
  buffer = over_lent c.args.x.now 0 c.recover_first.new.x p.d2 (omega (arith, second_size p, front_size))

pub load_tables-requires : goal.load_tables-requires
load_tables-requires c = (c.requires.1, search rules)

pub correlate-requires : goal.correlate-requires
correlate-requires c =
    let kept = listed_rules (p (goal.at.correlate-requires c).After-recover_first) c.requires.1 in
    let count = c.first_count in
    let placed =
    buffer_placed (p (goal.at.correlate-requires c).After-recover_first) c.requires.1 c.args.x.now c.args.ciphertext.now c.recover_first.new.x c.requires.5
    (front_size (goal.at.correlate-requires c).After-recover_first) (front_made (goal.at.correlate-requires c).After-recover_first) in (
      c.requires.1,
      c.load_tables.ensures,
      rw count.ensures (subst⁻¹ (λ (l : List ℕ). Placed (p (goal.at.correlate-requires c).After-recover_first) 3
          ((p (goal.at.correlate-requires c).After-recover_first).n + (p (goal.at.correlate-requires c).After-recover_first).k) l)
          (buffer (goal.at.correlate-requires c).After-recover_first) placed),
      omega (arith, count.ensures, kept.some_n),
      c.requires.3,
      omega (arith, count.ensures, third_size (p (goal.at.correlate-requires c).After-recover_first), kept.holds3, kept.some_n),
    )

pub returns : goal.returns
returns c =
    let count = c.first_count in
    first_correlated (p (goal.at.returns c).After-recover_first) c.requires.1 c.args.x.now c.args.ciphertext.now c.recover_first.new.x c.requires.5
    (front_size (goal.at.returns c).After-recover_first) (front_made (goal.at.returns c).After-recover_first) c.args.stored.now c.correlate.new.x _ _
    (buffer (goal.at.returns c).After-recover_first) count.ensures
    c.correlate.ensures
