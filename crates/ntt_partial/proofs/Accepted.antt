-- What an accepted call has checked, and what it leaves.
-- Assumes nothing.
use mathlib.Core.Path.{◌≡◌, sym, ◌∙◌}
use mathlib.Core.Bool.{not}
use mathlib.Core.List.{List}
use Prim.Native.Nat.{ℕ, ◌*◌, ◌≤◌}
use native.Mathlib.Nat.{mul-le-mul_right}
use native.Mathlib.Omega.{arith}
use lib.Dec.{ltb, eqb}
use lib.ListN.{length, take}
use borrow.Author.Tests.{ltb-false, eqb-true, eqb-false, not-false}
use Rattle.maths.specs.Transform.{send, recover}
use Rattle.calls.specs.Outcome.{accepted}
use Rattle.calls.proofs.Outcome.{refuse_accepted}
use Rattle.sets.specs.Table.{last_set, no_set, set_of, IsSet}
use Rattle.sets.proofs.Rules.{byte_rules, listed_set}
use Rattle.middle.proofs.Chained.{accepted_one}
use Rattle.ntt_products.specs.Stored.{row_count, sent, recovered}
use Rattle.ntt_products.proofs.Laws.{size_rows}
use Rattle.ntt_partial_checks.specs.Checks.{size_number_of, partial_answer_of}
use Rattle.ntt_partial_checks.proofs.Sizes.{size_found}
use Rattle.ntt_partial.specs.Calls.{partial_sent, partial_recovered}
use Rattle.ntt_partial_steps.specs.Split.{Split, Wide}
use Rattle.ntt_partial_steps.proofs.Rows.{size_few}

-- the set, the rows and columns, and the lengths of an accepted call
pub record Accepted (set D1 D2 m : ℕ) (input : List ℕ) (places : ℕ) : Type 0 where
  pub some : 1 ≤ set
  pub low : IsSet set
  pub split : Split (set_of set) (size_number_of (set_of set) (D1 * D2)) D1 D2 m input
  pub output : places ≡ D1 * D2

module _ (set D1 D2 m : ℕ) (input : List ℕ) (places : ℕ) where
  pub call_accepted : partial_answer_of set D1 D2 m input places ≡ accepted → Accepted set D1 D2 m input places
  unfolding partial_answer_of
  call_accepted e =
      let a = refuse_accepted (ltb set 1) 1 0 _ e in
      let b = refuse_accepted (no_set set) 1 0 _ a.1 in
      let c = refuse_accepted (ltb m 1) 11 0 _ b.1 in
      let d = refuse_accepted (ltb D1 m) 11 0 _ c.1 in
      let f = refuse_accepted (eqb (size_number_of (set_of set) (D1 * D2)) 0) 12 0 _ d.1 in
      let g = refuse_accepted (not (eqb (length input) (D1 * D2))) 2 0 _ f.1 in
      let h = refuse_accepted (not (eqb places (D1 * D2))) 2 0 _ g.1 in
      let low : set ≤ last_set = ltb-false last_set set b.0 in
      record {
        some = ltb-false set 1 a.0;
        low = omega arith;
        split = record {
          size = sym (size_found (set_of set) (D1 * D2) (eqb-false _ 0 f.0));
          some = ltb-false m 1 c.0;
          within = ltb-false D1 m d.0;
          places = eqb-true _ _ (not-false _ g.0);
          residues = record { each = (accepted_one (set_of set).q 0 input accepted h.1).0 };
        };
        output = eqb-true _ _ (not-false _ h.0);
      }

-- an accepted size is at most 3,328, and m rows fit it
module _ {set D1 D2 m places : ℕ} {input : List ℕ} (call : Accepted set D1 D2 m input places) where
  pub rows_few : D1 * D2 ≤ 3328
  rows_few = size_few (listed_set _ call.low) call.split

  pub rows_within : m * D2 ≤ D1 * D2
  rows_within = mul-le-mul_right D2 call.split.within

-- the number of rows, by their length
count_of : {size ρ δ D1 D2 : ℕ} → ρ ≡ 256 → D2 ≡ 256 → δ * ρ ≡ size → D1 * D2 ≡ size → δ ≡ D1
count_of {size} {ρ} {δ} {D1} {D2} e w f g =
    let rows : δ * 256 ≡ size = rw e at f in
    let split : D1 * 256 ≡ size = rw w at g in
    omega arith

-- the same rows and columns
same_sent : {ρ δ D1 D2 : ℕ} (q w m : ℕ) (xs : List ℕ) → ρ ≡ 256 → D2 ≡ 256 → δ ≡ D1 → send q ρ δ w (take (m * 256) xs) ≡ send q D2 D1 w (take (m * D2) xs)
same_sent q w m xs e d f = rw (e, d, f)

same_recovered : {ρ δ D1 D2 : ℕ} (q w v m : ℕ) (xs : List ℕ) → ρ ≡ 256 → D2 ≡ 256 → δ ≡ D1
    → recover q ρ δ w v (m * 256) xs ≡ recover q D2 D1 w v (m * D2) xs
same_recovered q w v m xs e d f = rw (e, d, f)

-- rows of 256 numbers are those of the scheme's transforms
module _ {set D1 D2 m places : ℕ} {input : List ℕ} (call : Accepted set D1 D2 m input places) (wide : D2 ≡ 256) where
  wide_row : (set_of set).row ≡ 256
  wide_row = (byte_rules set call.some call.low).row_256

  wide_count : row_count (set_of set) (size_number_of (set_of set) (D1 * D2)) ≡ D1
  wide_count = count_of wide_row wide (size_rows (set_of set) (listed_set set call.low) (size_number_of (set_of set) (D1 * D2))) call.split.size

  pub call_wide : Wide (set_of set) (size_number_of (set_of set) (D1 * D2)) m input
  call_wide =
      record {
        places = call.split.places ∙ call.split.size;
        within = rw (← wide, call.split.places) (rows_within call);
        residues = call.split.residues;
      }

  pub wide_sent : sent (set_of set) (size_number_of (set_of set) (D1 * D2)) (take (m * 256) input) ≡ partial_sent (set_of set) D1 D2 m input
  unfolding sent partial_sent
  wide_sent = same_sent _ _ m input wide_row wide wide_count

  pub wide_recovered : recovered (set_of set) (size_number_of (set_of set) (D1 * D2)) (m * 256) input ≡ partial_recovered (set_of set) D1 D2 m input
  unfolding recovered partial_recovered
  wide_recovered = same_recovered _ _ _ m input wide_row wide wide_count
