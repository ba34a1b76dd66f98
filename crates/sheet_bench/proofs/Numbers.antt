-- The numbers of an input in range are numbers that key, sealing and reading take (01, The bench sheet).
-- Assumes nothing.
use mathlib.Core.Path.{◌≡◌, refl, sym, ap, ◌∙◌}
use mathlib.Core.Bool.{true, ◌&&◌}
use mathlib.Core.List.{List, map}
use Prim.Native.Nat.{ℕ, ◌+◌, ◌-◌, ◌*◌, ◌≤◌, ◌<◌}
use native.Mathlib.Nat.{zero-add}
use native.Mathlib.Omega.{arith}
use borrow.Author.Tests.{ltb-true, leb-true}
use lib.Dec.{leb}
use lib.IntN.{ℤ, pos, nat_abs}
use lib.ListN.{length, get_or, length-map, get_or-map}
use Rattle.maths.specs.Vector.{at}
use Rattle.maths.proofs.Tests.{both_true}
use Rattle.calls.specs.Outcome.{accepted}
use Rattle.calls.specs.Region.{region}
use Rattle.calls.proofs.Checks.{refuse_first_accepted, passing_all}
use Rattle.calls.proofs.Region.{region_length, region_entry}
use Rattle.sets.specs.Table.{none, table, set_of}
use Rattle.sets.specs.Derived.{multiplier_count_of, error_count_of}
use Rattle.claim.specs.Claim.{drawn}
use Rattle.claim.proofs.Numbers.{Inputs, key_takes, sealing_takes}
use Rattle.sheet_bench.specs.Bench.{bench, signed, bench_public, bench_secret, bench_errors, bench_multipliers, bench_message, bench_handed, bench_fits}
use Rattle.sheet_bench.specs.Bench.{bench_answer}
use Rattle.sheet_bench.specs.Operands.{Small}
use Rattle.sheet_bench.proofs.ByteLaws.{signed_zero, bench_multiplier, fits_residue, fits_error, fits_multiplier, fits_message}

-- the whole number at a place of a part of the input
pub signed_entry : (input : List ℕ) (from n i : ℕ) → i < n → get_or (map signed (region input from n)) i (pos 0) ≡ signed (at input (from + i))
signed_entry input from n i h =
    ap (λ (d : ℤ). get_or (map signed (region input from n)) i d) (sym signed_zero) ∙ get_or-map signed (region input from n) i 0
    ∙ ap signed (region_entry input from n i 0 h)

-- the length of such a part
pub signed_length : (input : List ℕ) (from n : ℕ) → from + n ≤ length input → length (map signed (region input from n)) ≡ n
signed_length input from n fits = length-map (region input from n) signed ∙ region_length input from n fits

-- the lengths of set 0
bench_public_lem : bench.t * bench.n ≡ 2
unfolding none table set_of
bench_public_lem = refl

bench_secret_lem : bench.n + bench.d + bench.k - 1 ≡ 4
unfolding none table set_of
bench_secret_lem = refl

pub bench_errors_lem : error_count_of bench ≡ 3
unfolding none table set_of error_count_of
bench_errors_lem = refl

bench_multipliers_lem : multiplier_count_of bench ≡ 2
unfolding none table set_of multiplier_count_of
bench_multipliers_lem = refl

pub bench_message_lem : bench.d ≡ 2
unfolding none table set_of
bench_message_lem = refl

pub bench_first : bench.n + bench.k ≡ 3
unfolding none table set_of
bench_first = refl

bench_residues : bench.q ≡ 17
unfolding none table set_of
bench_residues = refl

bench_size : bench.eta ≡ 1
unfolding none table set_of
bench_size = refl

module _ (input : List ℕ) (size : length input ≡ 14) (answer : bench_answer input ≡ accepted) where
  -- each byte is in range
  in_range : (place : ℕ) → place < 14 → bench_fits place (at input place) ≡ true
  unfolding bench_answer
  in_range place h =
      rw zero-add at ((passing_all bench_fits 0 input 0).0 (refuse_first_accepted bench_fits 0 0 input accepted answer).0 place (omega arith))

  -- residues
  residue_at : (place : ℕ) → 1 ≤ place → place < 7 → at input place < 17
  residue_at place low h = ltb-true _ _ (fits_residue place (at input place) low h ∙ in_range place (omega arith))

  -- errors
  error_at_lem : (i : ℕ) → i < 3 → leb (nat_abs (get_or (bench_errors input) i (pos 0))) 1 ≡ true
  error_at_lem i h = rw (signed_entry input 7 3 i h) (fits_error (7 + i) (at input (7 + i)) (omega arith) (omega arith) ∙ in_range (7 + i) (omega arith))

  -- multipliers
  multiplier_at_lem : (i : ℕ) → i < 2
      → leb 1 (nat_abs (get_or (bench_multipliers input) i (pos 0))) && leb (nat_abs (get_or (bench_multipliers input) i (pos 0))) 2 ≡ true
  multiplier_at_lem i h =
      rw (signed_entry input 10 2 i h) (fits_multiplier (10 + i) (at input (10 + i)) (omega arith) (omega arith) ∙ in_range (10 + i) (omega arith))

  -- message bits
  message_at : (i : ℕ) → i < 2 → at input (12 + i) < 2
  message_at i h = ltb-true _ _ (fits_message (12 + i) (at input (12 + i)) (omega arith) ∙ in_range (12 + i) (omega arith))

  public_size : length (bench_public input) ≡ 2
  public_size = region_length input 1 2 (omega arith)

  secret_size : length (bench_secret input) ≡ 4
  secret_size = region_length input 3 4 (omega arith)

  errors_size : length (bench_errors input) ≡ 3
  errors_size = signed_length input 7 3 (omega arith)

  multipliers_size : length (bench_multipliers input) ≡ 2
  multipliers_size = signed_length input 10 2 (omega arith)

  message_size : length (bench_message input) ≡ 2
  message_size = region_length input 12 2 (omega arith)

  -- what key and sealing take
  bench_inputs : Inputs bench (bench_public input) (bench_secret input) (bench_errors input) (bench_multipliers input) (bench_message input)
  bench_inputs =
      record {
        public_length = public_size ∙ sym bench_public_lem;
        public = λ i h. let k : i < 2 = omega (arith, public_size) in rw (bench_residues, region_entry input 1 2 i 0 k)
            (residue_at (1 + i) (omega arith) (omega arith));
        secret_length = secret_size ∙ sym bench_secret_lem;
        secret = λ i h. let k : i < 4 = omega (arith, secret_size) in rw (bench_residues, region_entry input 3 4 i 0 k)
            (residue_at (3 + i) (omega arith) (omega arith));
        errors_length = errors_size ∙ sym bench_errors_lem;
        errors = λ i h. rw bench_size (error_at_lem i (omega (arith, errors_size)));
        multipliers_length = multipliers_size ∙ sym bench_multipliers_lem;
        multipliers = λ i h. rw (bench_multiplier i) (multiplier_at_lem i (omega (arith, multipliers_size)));
        message_length = message_size ∙ sym bench_message_lem;
        message = λ i h. let k : i < 2 = omega (arith, message_size) in rw (region_entry input 12 2 i 0 k) (message_at i k);
      }

  -- key and sealing accept them
  pub bench_drawn : drawn 0 (bench_handed input) ≡ accepted
  bench_drawn =
      let a = bench_public input in
      let s = bench_secret input in
      let e = bench_errors input in
      let r = bench_multipliers input in
      let m = bench_message input in
      rw (key_takes 0 (omega arith) a s e r m bench_inputs) (sealing_takes 0 (omega arith) a s e r m bench_inputs)

  -- errors and multipliers are small
  pub bench_small : Small (bench_errors input) (bench_multipliers input)
  bench_small =
      record {
        errors_length = errors_size;
        errors = λ i h. leb-true _ _ (error_at_lem i h);
        multipliers_length = multipliers_size;
        multipliers = λ i h.
            let size = nat_abs (get_or (bench_multipliers input) i (pos 0)) in
            leb-true size 2 (both_true (leb 1 size) (leb size 2) (multiplier_at_lem i h)).1;
      }
