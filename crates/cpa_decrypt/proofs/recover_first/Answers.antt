-- The numbers are unpacked, taken modulo q and recovered, which gives what they themselves recover to.
-- Assumes nothing.
use mathlib.Core.Path.{◌≡◌, ap, ◌∙◌}
use mathlib.Core.List.{List}
use Prim.Native.Nat.{ℕ, ◌+◌}
use lib.ListN.{length}
use Rattle.sets.specs.declared.Parameters.{Parameters}
use Rattle.sets.specs.Derived.{transform_size_of}
use Rattle.sets.proofs.Rules.{listed_rules}
use Rattle.packing.specs.Digits.{unpack}
use Rattle.packing.proofs.Laws.{unpack_length}
use Rattle.ntt_products.specs.Stored.{recovered}
use Rattle.cpa_decrypt.specs.Decrypted.{reduced}
use Rattle.cpa_decrypt.proofs.First.{few}
use Rattle.cpa_decrypt.proofs.Modulo.{reduced_placed, recovered_reduced}
use Rattle.cpa_decrypt.proofs.Room.{first_widths, first_double}
use Rattle.cpa_decrypt.proofs.recover_first.Goals.{After-reduce_all}
use Rattle.cpa_decrypt.proofs.recover_first.Goals as goal

pub unpack_into-requires : goal.unpack_into-requires
unpack_into-requires c =
    let p = c.args.p in
    first_widths p (listed_rules p c.requires.1) c.requires.0

pub reduce_all-requires : goal.reduce_all-requires
reduce_all-requires c =
    let p = c.args.p in
    let packed = c.args.packed.now in
    let kept = listed_rules p c.requires.1 in
    rw c.unpack_into.ensures (rw (unpack_length p.width (length c.args.x.now) packed) (first_double p kept _ packed), kept.small)

-- after the numbers are taken modulo q: the start, the set's parameters, and the numbers that are packed
module _ (c : After-reduce_all) where
  abbrev p : Parameters
  p = c.args.p

  abbrev numbers : List ℕ
  numbers = unpack p.width (transform_size_of p 2) c.args.packed.now

  -- the residues are theirs
  made : c.reduce_all.new.xs ≡ reduced p.q numbers
  made =
      c.reduce_all.ensures
      ∙ ap (reduced p.q) (c.unpack_into.ensures ∙ ap (λ (n : ℕ). unpack p.width n c.args.packed.now) c.requires.3)

pub recover_first-requires : goal.recover_first-requires
recover_first-requires c =
    let known = c.requires.1 in (
      known,
      c.load_tables.ensures.lent,
      rw (made (goal.at.recover_first-requires c).After-reduce_all) (reduced_placed (p (goal.at.recover_first-requires c).After-reduce_all) known 2
          (numbers (goal.at.recover_first-requires c).After-reduce_all) (unpack_length _ _ _)),
      rw c.first_count.ensures (few (p (goal.at.recover_first-requires c).After-reduce_all) known),
    )

pub returns : goal.returns
returns c =
    let known = c.requires.1 in
    let n = (p (goal.at.returns c).After-reduce_all).n + (p (goal.at.returns c).After-reduce_all).k in
    (rw c.first_count.ensures at (c.recover_first.ensures.root c.load_tables.ensures))
    ∙ ap (recovered (p (goal.at.returns c).After-reduce_all) 2 n) (made (goal.at.returns c).After-reduce_all)
    ∙ recovered_reduced (p (goal.at.returns c).After-reduce_all) known 2 n (numbers (goal.at.returns c).After-reduce_all)
    (few (p (goal.at.returns c).After-reduce_all) known)
