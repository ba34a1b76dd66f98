-- `numbers_key::key_place` meets its contract: a place of the product of a_i and s, and the residue of an error.
-- Assumes nothing.
use mathlib.Core.Path.{◌≡◌, refl, ap, ◌∙◌}
use Prim.Native.Nat.{◌+◌, ◌/◌, ◌%◌, ◌≤◌, ◌<◌}
use native.Mathlib.Nat.{mod-lt}
use native.Mathlib.Omega.{arith}
use lib.ListN.{length, get_or}
use lib.IntN.{pos}
use Rattle.maths.specs.Integer.{residue}
use Rattle.maths.proofs.Integer.{residue_lt}
use Rattle.sets.specs.Derived.{error_count_of}
use Rattle.residues.proofs.Laws.{remainder_below}
use Rattle.calls.proofs.Region.{region_part}
use Rattle.numbers.proofs.Size.{entry_kept}
use Rattle.numbers.proofs.Family.{vector_index, family_room, family_operand}
use Rattle.numbers.proofs.KeyLaws.{key_sum}
use Rattle.numbers_key.proofs.key_place.Goals.{After-of_signed-error, After-product-from, Start}
use Rattle.numbers_key.proofs.key_place.Goals as goal

-- the place is one of b
inside : (c : Start) → c.args.l < error_count_of c.args.p
inside c = omega (arith, c.requires.1.errors_length, c.requires.2)

-- it is in vector i of t
index : (c : Start) → c.args.l / (c.args.p.d + c.args.p.k) < c.args.p.t
unfolding error_count_of
index c = vector_index (c.args.p.d + c.args.p.k) c.args.p.t c.args.l (omega (arith, c.requires.0.some_d)) (inside c)

pub product-from-requires : goal.product-from-requires
product-from-requires c = (omega (arith, c.requires.0.most_n), omega (arith, index (goal.at.product-from-requires c).Start, c.requires.0.most_t))

-- vector i of a lies within a
room : (c : After-product-from) → c.product-from.result + c.args.p.n ≤ length c.args.a.now
room c = rw c.product-from.ensures (family_room c.requires.1.public _ (index (goal.at.After-product-from c).Start))

pub overflow_add-end : goal.overflow_add-end
overflow_add-end c = omega (arith, room c)

pub offset_bounds-a-from : goal.offset_bounds-a-from
offset_bounds-a-from c = omega (arith, room c)

pub slice_bounds-product_place-end : goal.slice_bounds-product_place-end
slice_bounds-product_place-end c = omega (arith, room c)

-- the place in a vector
column : (c : Start) → c.args.l % (c.args.p.d + c.args.p.k) < c.args.p.d + c.args.p.k
column c = mod-lt c.args.l (omega (arith, c.requires.0.some_d))

pub overflow_add-n : goal.overflow_add-n
overflow_add-n c =
    omega (arith, column (goal.at.overflow_add-n c).Start, c.requires.0.most_n, c.requires.0.most_d, c.requires.0.most_k)

pub product_place-product-requires : goal.product_place-product-requires
product_place-product-requires c =
    let kept = c.requires.0 in (
      rw (region_part c.args.a.now c.product-from.result c.args.p.n _ refl, c.product-from.ensures)
          (family_operand c.requires.1.public _ (index (goal.at.product_place-product-requires c).Start) kept.small (omega (arith, kept.most_n))),
      c.requires.1.secret,
      omega (arith, column (goal.at.product_place-product-requires c).Start, kept.most_n, kept.most_d, kept.most_k),
      omega (arith, kept.prime.above),
    )

pub of_signed-error-requires : goal.of_signed-error-requires
of_signed-error-requires c =
    let kept = c.requires.0 in
    rw (entry_kept (get_or c.args.e.now c.args.l (pos 0)) c.of_signed-arg-1.given)
    (omega (arith, kept.prime.above), kept.small, omega (arith, kept.most_eta, c.requires.1.errors_small c.args.l c.requires.2))

-- the error's residue
error : (c : After-of_signed-error)
    → let args = c.args in
    c.of_signed-error.result ≡ residue args.p.q (get_or args.e.now args.l (pos 0))
error c =
    let args = c.args in
    c.of_signed-error.ensures ∙ ap (residue args.p.q) (entry_kept (get_or args.e.now args.l (pos 0)) c.of_signed-arg-1.given)

pub add-requires : goal.add-requires
add-requires c =
    let kept = c.requires.0 in (
      remainder_below _ c.product_place-product.ensures (omega (arith, kept.prime.above)),
      rw (error c)
          (residue_lt c.args.p.q _ (omega (arith, kept.prime.above))),
      kept.small,
    )

pub returns : goal.returns
returns c =
    let args = c.args in
    let from = c.product-from in
    let place = c.product_place-product in
    c.add.ensures
    ∙ key_sum args.p args.a.now args.s.now args.e.now c.requires.1.public.size args.l from.result _ place.result
    c.of_signed-error.result (inside (goal.at.returns c).Start) (omega (arith, c.requires.0.some_d)) from.ensures refl place.ensures
    (error (goal.at.returns c).After-of_signed-error)
