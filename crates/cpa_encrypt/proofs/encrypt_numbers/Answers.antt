-- The first part is written into the first bytes; where it is not refused, the second fills the others.
-- Assumes nothing.
use mathlib.Core.Path.{◌≡◌, sym, ap, ◌∙◌}
use mathlib.Core.List.{List, ◌++◌}
use Prim.Native.Nat.{ℕ, ◌+◌, ◌-◌, ◌≤◌}
use native.Mathlib.Omega.{arith}
use lib.ListN.{length, take, drop}
use Rattle.calls.proofs.Outcome.{handed_on}
use Rattle.scheme.specs.Encryption.{second_bytes}
use Rattle.calls.proofs.Parts.{front_length, back_length, rest_length, front_refused}
use Rattle.sets.proofs.Rules.{listed_rules}
use Rattle.cpa_encrypt.proofs.Sealed.{both_accepted, ends}
use Rattle.cpa_encrypt.proofs.encrypt_numbers.Goals.{After-encrypt_first, After-packed_bytes-middle}
use Rattle.cpa_encrypt.proofs.encrypt_numbers.Goals as goal

pub overflow_cast-p : goal.overflow_cast-p
overflow_cast-p c =
    omega (arith, (listed_rules c.args.p c.requires.1).width_most)

pub packed_bytes-middle-requires : goal.packed_bytes-middle-requires
packed_bytes-middle-requires c =
    omega (arith, (listed_rules c.args.p c.requires.1).most_sealed_bits)

-- the ciphertext lent
abbrev lent : After-packed_bytes-middle → List ℕ
lent c = c.args.ciphertext.now

-- the first part fits
fits : (c : After-packed_bytes-middle) → c.packed_bytes-middle.result ≤ length (lent c)
fits c =
    let ending = ends c.args.p c.requires.1 in
    omega (arith, c.packed_bytes-middle.ensures, ending.first_is, ending.whole_is, c.requires.4)

pub slice_bounds-encrypt_first-end : goal.slice_bounds-encrypt_first-end
slice_bounds-encrypt_first-end c = fits c

-- and is lent whole
front_size : (c : After-packed_bytes-middle) → length (take (c.packed_bytes-middle.result - 0) (drop 0 (lent c))) ≡ c.packed_bytes-middle.result
front_size c = front_length (lent c) c.packed_bytes-middle.result (fits c)

pub encrypt_first-requires : goal.encrypt_first-requires
encrypt_first-requires c =
    let pre = c.requires in (
      pre.0,
      pre.1,
      pre.3,
      front_size (goal.at.encrypt_first-requires c).After-packed_bytes-middle ∙ c.packed_bytes-middle.ensures ∙
          (ends c.args.p pre.1).first_is,
    )

-- the first part has its length, and so has the whole ciphertext after it is written
first_size : (c : After-encrypt_first) → length c.encrypt_first.new.out ≡ c.packed_bytes-middle.result
first_size c = c.encrypt_first.auto.out ∙ front_size (goal.at.After-encrypt_first c).After-packed_bytes-middle

abbrev written : After-encrypt_first → List ℕ
written c = let ct = lent (goal.at.After-encrypt_first c).After-packed_bytes-middle in
    take 0 ct ++ (c.encrypt_first.new.out ++ drop (c.packed_bytes-middle.result - 0) (drop 0 ct))

whole_size : (c : After-encrypt_first) → length (written c) ≡ length (lent (goal.at.After-encrypt_first c).After-packed_bytes-middle)
whole_size c =
    back_length (lent (goal.at.After-encrypt_first c).After-packed_bytes-middle) c.encrypt_first.new.out c.packed_bytes-middle.result
    (first_size c) (fits (goal.at.After-encrypt_first c).After-packed_bytes-middle)

pub slice_bounds-encrypt_second-count : goal.slice_bounds-encrypt_second-count
slice_bounds-encrypt_second-count c =
    omega (
      arith,
      whole_size (goal.at.slice_bounds-encrypt_second-count c).After-encrypt_first,
      fits (goal.at.slice_bounds-encrypt_second-count c).After-packed_bytes-middle,
    )

pub slice_bounds-encrypt_second-start : goal.slice_bounds-encrypt_second-start
slice_bounds-encrypt_second-start c =
    omega (
      arith,
      whole_size (goal.at.slice_bounds-encrypt_second-start c).After-encrypt_first,
      fits (goal.at.slice_bounds-encrypt_second-start c).After-packed_bytes-middle,
    )

pub encrypt_second-requires : goal.encrypt_second-requires
encrypt_second-requires c =
    let bytes = c.packed_bytes-middle in
    let p = c.args.p in
    let pre = c.requires in
    let ending = ends p pre.1 in (
      pre.0,
      pre.1,
      pre.2,
      pre.3,
      rest_length (written (goal.at.encrypt_second-requires c).After-encrypt_first) bytes.result (second_bytes p)
          (whole_size (goal.at.encrypt_second-requires c).After-encrypt_first ∙ pre.4 ∙ ending.whole_is ∙ ap (λ (n : ℕ). n + second_bytes p)
          (sym (bytes.ensures ∙ ending.first_is))),
    )

pub returns-in_err-encrypt_first : goal.returns-in_err-encrypt_first
returns-in_err-encrypt_first c =
    let made = c.in_err-encrypt_first.ensures in
    let told = handed_on _ c.from_residual.result c.from_residual.ensures.1 in
    let call = front_refused (lent (goal.at.returns-in_err-encrypt_first c).After-packed_bytes-middle) _ _ _ c.packed_bytes-middle.result (sym made.answer)
    made.left in record { answer = told ∙ call.0; sealed = call.1 }

pub returns : goal.returns
returns c =
    let made = c.in_ok-encrypt_first.ensures in
    let done = sym made.answer in
    let whole = both_accepted (lent (goal.at.returns c).After-packed_bytes-middle) _ _ _ _ c.packed_bytes-middle.result done
    (first_size (goal.at.returns c).After-encrypt_first) made.left c.encrypt_second.ensures in record { answer = whole.0; sealed = whole.1 }
