-- The parts of the slices that a sealing lends, and the whole ciphertext.
-- Assumes nothing.
use mathlib.Core.Path.{◌≡◌, refl, sym, ap, ap₂, ◌∙◌}
use mathlib.Core.Bool.{Bool, true, false, not}
use mathlib.Core.List.{List, [], ◌∷◌, ◌++◌, map, append-nil}
use Prim.Native.Nat.{ℕ, zero, suc, ◌+◌, ◌-◌, ◌*◌, ◌≤◌, ◌<◌}
use native.Mathlib.Nat.{sub-zero, mul-le-mul_left}
use native.Mathlib.Decide.{dec_lt}
use native.Mathlib.Omega.{arith}
use lib.Dec.{ltb}
use lib.IntN.{ℤ, pos}
use lib.ListN.{length, get_or, take, drop, length-drop, length-map}
use lib.Seq.{take_at, drop_at, drop-length}
use borrow.Author.Tests.{ltb-false}
use Rattle.maths.specs.Vector.{at}
use Rattle.maths.specs.Integer.{residue}
use Rattle.maths.proofs.Vector.{at_past}
use Rattle.maths.proofs.Integer.{residue_lt}
use Rattle.calls.specs.Outcome.{Outcome, accepted, refused, refuse, leaves}
use Rattle.calls.specs.Checks.{passing, below}
use Rattle.calls.proofs.Outcome.{leaves_accepted, refuse_true, refuse_false, accepted_call}
use Rattle.calls.proofs.Checks.{passing_within, passing_below}
use Rattle.calls.proofs.Region.{region_part}
use Rattle.calls.proofs.Parts.{rest_whole}
use Rattle.sets.specs.declared.Parameters.{Parameters}
use Rattle.sets.specs.Table.{Listed}
use Rattle.sets.specs.Derived.{multiplier_count_of, packed_bytes_of, public_key_bytes_of, cpa_ciphertext_bytes_of, error_count_of}
use Rattle.sets.proofs.Rules.{listed_rules}
use Rattle.packing.specs.Digits.{unpack}
use Rattle.packing.proofs.Laws.{unpack_length}
use Rattle.samplers.specs.Seeded.{public_drawn, multipliers_drawn}
use Rattle.samplers.proofs.Laws.{multipliers_drawn_length}
use Rattle.scheme.specs.Answers.{work_length_of, all_taken, only_residues, encrypt_draws}
use Rattle.scheme.specs.Encryption.{residue_vector, key_seed, key_numbers, key_polynomial, multiplier_vector, encrypted_numbers, first_bytes_of, second_bytes}
use Rattle.scheme.specs.Encryption.{ciphertext}
use Rattle.cpa_encrypt.specs.Parts.{Multipliers, KeyResidues, Loaded, packed_first, second_sums, packed_second}

-- the first n entries written, then the others
pub both_written : (xs ys zs : List ℕ) (n : ℕ) → length ys ≡ n
    → take n (take 0 xs ++ (ys ++ drop (n - 0) (drop 0 xs)))
    ++ (zs ++ drop (length (take 0 xs ++ (ys ++ drop (n - 0) (drop 0 xs))) - n) (drop n (take 0 xs ++ (ys ++ drop (n - 0) (drop 0 xs))))) ≡ ys ++ zs
both_written xs ys zs n l =
    let all : List ℕ = take 0 xs ++ (ys ++ drop (n - 0) (drop 0 xs)) in
    let first : take n all ≡ ys = take_at ys (drop (n - 0) (drop 0 xs)) n l in
    let none : drop (length all - n) (drop n all) ≡ [] = ap (λ (m : ℕ). drop m (drop n all)) (sym (length-drop n all)) ∙ drop-length (drop n all) in
    ap (λ (ls : List ℕ). ls ++ (zs ++ drop (length all - n) (drop n all))) first
    ∙ ap (λ (ls : List ℕ). ys ++ (zs ++ ls)) none ∙ ap (λ (ls : List ℕ). ys ++ ls) (append-nil zs)

-- an accepted call leaves the first n entries, then the others
pub both_accepted : {o : Outcome} (xs ys zs front rest : List ℕ) (n : ℕ) → o ≡ accepted → length ys ≡ n → ys ≡ leaves o front (take (n - 0) (drop 0 xs))
    → zs ≡ rest
    → (accepted ≡ o)
    × (take n (take 0 xs ++ (ys ++ drop (n - 0) (drop 0 xs)))
    ++ (zs ++ drop (length (take 0 xs ++ (ys ++ drop (n - 0) (drop 0 xs))) - n) (drop n (take 0 xs ++ (ys ++ drop (n - 0) (drop 0 xs)))))
    ≡ leaves o (front ++ rest) xs)
both_accepted xs ys zs front rest n e l first second =
    accepted_call (front ++ rest) xs e
    (both_written xs ys zs n l ∙ ap₂ (λ (one other : List ℕ). one ++ other) (first ∙ leaves_accepted front (take (n - 0) (drop 0 xs)) e) second)

-- a slice whose first n entries came back as ys, and the m after them as zs
module _ (xs ys zs : List ℕ) (n end : ℕ) (l : length ys ≡ n) (m : length zs ≡ end - n) where
  -- the first n entries after both
  front_is : take n (take 0 xs ++ (ys ++ drop (n - 0) (drop 0 xs))) ≡ ys
  front_is = take_at ys (drop (n - 0) (drop 0 xs)) n l

  -- the part of the first n entries
  pub first_part : take (n - 0)
      (drop 0 (take n (take 0 xs ++ (ys ++ drop (n - 0) (drop 0 xs))) ++ (zs ++ drop (end - n) (drop n (take 0 xs ++ (ys ++ drop (n - 0) (drop 0 xs))))))) ≡ ys
  first_part = rw (front_is, sub-zero) (take_at ys _ n l)

  -- the part of those after them
  pub second_part_lem : take (end - n)
      (drop n (take n (take 0 xs ++ (ys ++ drop (n - 0) (drop 0 xs))) ++ (zs ++ drop (end - n) (drop n (take 0 xs ++ (ys ++ drop (n - 0) (drop 0 xs))))))) ≡ zs
  second_part_lem = rw (front_is, drop_at ys (zs ++ drop (end - n) (drop n (take 0 xs ++ (ys ++ drop (n - 0) (drop 0 xs))))) n l) (take_at zs _ (end - n) m)

-- a test whose negation holds fails
negated : (b : Bool) → not b ≡ true → b ≡ false
negated true e = sym e
negated false e = refl

-- an entry of the residues
map_entry : (q : ℕ) (zs : List ℤ) (k : ℕ) → k < length zs → at (map (residue q) zs) k ≡ residue q (get_or zs k (pos 0))
map_entry q [] k h = absurd (omega arith)
map_entry q (z ∷ zs) zero h = refl
map_entry q (z ∷ zs) (suc k) h = map_entry q zs k (omega arith)

-- a residue of a whole number is below q, and so is 0
residue_entry : (q : ℕ) (zs : List ℤ) → 0 < q → (k : ℕ) → at (map (residue q) zs) k < q
residue_entry q zs some k =
    elim (dec_lt k (length zs)) [
      | yes h ↦ rw (map_entry q zs k h) (residue_lt q (get_or zs k (pos 0)) some)
      | no h ↦ rw (at_past (map (residue q) zs) k (rw length-map (omega arith))) some
    ]

-- where the parts of a ciphertext and of the work slice end
pub record Ends (p : Parameters) : Type 0 where
  pub first_is : packed_bytes_of p.d2 p.width ≡ first_bytes_of p
  pub whole_is : cpa_ciphertext_bytes_of p ≡ first_bytes_of p + second_bytes p
  pub seed_fits : 32 ≤ public_key_bytes_of p
  pub numbers_fit : p.d1 * p.t + multiplier_count_of p ≤ work_length_of p
  pub few_numbers : p.d1 * p.t ≤ 10240
  pub few_multipliers : multiplier_count_of p ≤ 8192

-- k + 1 numbers for each of t polynomials are no more than d + k
fewer : (t k d : ℕ) → 1 ≤ d → t * (k + 1) ≤ t * (d + k)
fewer t k d h = mul-le-mul_left t (omega arith)

module _ (p : Parameters) where
  -- the rules give all room
  pub ends : Listed p → Ends p
  unfolding first_bytes_of second_bytes cpa_ciphertext_bytes_of public_key_bytes_of error_count_of work_length_of multiplier_count_of
  ends known =
      let kept = listed_rules p known in
      record {
        first_is = refl;
        whole_is = refl;
        seed_fits = omega arith;
        numbers_fit = omega (arith, fewer p.t p.k p.d kept.some_d);
        few_numbers = kept.most_public;
        few_multipliers = kept.most_multipliers;
      }

  -- the numbers of a public key, as they are unpacked
  pub key_numbers_lem : (key : List ℕ) (len : ℕ) → len ≡ p.d1 * p.t → unpack p.width len (take (length key - 32) (drop 32 key)) ≡ key_numbers p key
  unfolding key_numbers
  key_numbers_lem key len l = rw l (ap (unpack p.width (p.d1 * p.t)) (rest_whole key 32))

  -- numbers that are all below q
  pub key_residues : (key : List ℕ) → only_residues p.q (key_numbers p key) ≡ true → KeyResidues p (key_numbers p key)
  unfolding only_residues key_numbers
  key_residues key all =
      let xs = unpack p.width (p.d1 * p.t) (drop 32 key) in
      let size : length xs ≡ p.d1 * p.t = unpack_length p.width (p.d1 * p.t) (drop 32 key) in
      let failed : ltb (passing (below p.q) 0 xs) (length xs) ≡ false = negated (ltb (passing (below p.q) 0 xs) (length xs)) all in
      let passed : passing (below p.q) 0 xs ≡ length xs =
      omega (arith, ltb-false (passing (below p.q) 0 xs) (length xs) failed, passing_within (below p.q) 0 xs) in
      record { size = size; residues = record { each = λ k h. passing_below p.q xs passed k (omega arith) } }

  -- the multipliers drawn
  pub drawn_multipliers : Listed p → (seed ms : List ℕ) → ms ≡ map (residue p.q) (multipliers_drawn p seed) → Multipliers p ms
  drawn_multipliers known seed ms made =
      let some : 0 < p.q = omega (arith, (listed_rules p known).prime.above) in
      let size : length ms ≡ multiplier_count_of p = rw made (length-map (multipliers_drawn p seed) (residue p.q) ∙ multipliers_drawn_length p seed) in
      record { size = size; residues = record { each = λ k h. rw made (residue_entry p.q (multipliers_drawn p seed) some k) } }

  -- both parts are the ciphertext
  pub parts_sealed : (key message seed ms : List ℕ) → ms ≡ map (residue p.q) (multipliers_drawn p seed)
      → packed_first p (key_seed key) ms ++ packed_second p (key_numbers p key) ms message ≡ ciphertext p key message seed
  unfolding packed_first packed_second second_sums ciphertext encrypted_numbers key_polynomial multiplier_vector residue_vector
  parts_sealed key message seed ms made = rw made

  -- and the numbers before packing are c2'
  pub sums_sealed : (key message seed ns ms : List ℕ) → ns ≡ key_numbers p key → ms ≡ map (residue p.q) (multipliers_drawn p seed)
      → second_sums p ns ms message ≡ encrypted_numbers p key message seed
  unfolding second_sums encrypted_numbers key_polynomial multiplier_vector residue_vector
  sums_sealed key message seed ns ms numbers made = rw (numbers, made)

  -- the numbers of a key and the multipliers of a seed written side by side
  pub loaded : (key seed xs ys zs : List ℕ) (count : ℕ) → count ≡ multiplier_count_of p → length ys ≡ p.d1 * p.t → length zs ≡ p.d1 * p.t + count - p.d1 * p.t
      → ys ≡ key_numbers p key → zs ≡ map (residue p.q) (multipliers_drawn p seed)
      → Loaded p key seed
      (take (p.d1 * p.t) (take 0 xs ++ (ys ++ drop (p.d1 * p.t - 0) (drop 0 xs)))
      ++ (zs ++ drop (p.d1 * p.t + count - p.d1 * p.t) (drop (p.d1 * p.t) (take 0 xs ++ (ys ++ drop (p.d1 * p.t - 0) (drop 0 xs))))))
  loaded key seed xs ys zs count counted l m numbers multipliers =
      let n = p.d1 * p.t in
      let all : List ℕ =
      take n (take 0 xs ++ (ys ++ drop (n - 0) (drop 0 xs))) ++ (zs ++ drop (n + count - n) (drop n (take 0 xs ++ (ys ++ drop (n - 0) (drop 0 xs))))) in
      record {
        numbers = sym (region_part all 0 n n (omega arith)) ∙ first_part xs ys zs n (n + count) l m ∙ numbers;
        multipliers =
            sym (region_part all n (multiplier_count_of p) (n + count) (omega (arith, counted))) ∙ second_part_lem xs ys zs n (n + count) l m ∙ multipliers;
      }

  module _ (key seed work : List ℕ) (held : Loaded p key seed work) where
    -- the part of the numbers of the key
    pub held_numbers : take (p.d1 * p.t - 0) (drop 0 work) ≡ key_numbers p key
    held_numbers = region_part work 0 (p.d1 * p.t) (p.d1 * p.t) (omega arith) ∙ held.numbers

    -- the part of the multipliers
    pub held_multipliers : (count : ℕ) → count ≡ multiplier_count_of p
        → take (p.d1 * p.t + count - p.d1 * p.t) (drop (p.d1 * p.t) work) ≡ map (residue p.q) (multipliers_drawn p seed)
    held_multipliers count counted =
        region_part work (p.d1 * p.t) (multiplier_count_of p) (p.d1 * p.t + count) (omega (arith, counted)) ∙ held.multipliers

  -- what the check of the numbers tells
  pub key_answer_lem : (key : List ℕ) (len : ℕ) (r : Bool) → len ≡ p.d1 * p.t
      → r ≡ only_residues p.q (unpack p.width len (take (length key - 32) (drop 32 key)))
      → only_residues p.q (key_numbers p key) ≡ r
  key_answer_lem key len r l ans = sym (ans ∙ ap (only_residues p.q) (key_numbers_lem key len l))

  -- a number of q or more refuses
  pub numbers_refused : (key : List ℕ) → only_residues p.q (key_numbers p key) ≡ false → encrypt_draws p key ≡ refused 3 0
  unfolding encrypt_draws
  numbers_refused key f = refuse_true 3 0 _ (ap not f)

  -- where there is none, the draws decide
  pub draws_decide : (key message seed ns ms out old : List ℕ) (r : Outcome) → only_residues p.q (key_numbers p key) ≡ true
      → ns ≡ key_numbers p key → ms ≡ map (residue p.q) (multipliers_drawn p seed)
      → r ≡ refuse (not (all_taken p.t (public_drawn p (take (32 - 0) (drop 0 key))))) 5 0 accepted
      → out ≡ leaves (refuse (not (all_taken p.t (public_drawn p (take (32 - 0) (drop 0 key))))) 5 0 accepted)
      (packed_first p (take (32 - 0) (drop 0 key)) ms ++ packed_second p ns ms message) old
      → (r ≡ encrypt_draws p key) × (out ≡ leaves (encrypt_draws p key) (ciphertext p key message seed) old)
  unfolding encrypt_draws key_seed
  draws_decide key message seed ns ms out old r all numbers multipliers answer made =
      let inner : Outcome = refuse (not (all_taken p.t (public_drawn p (take 32 key)))) 5 0 accepted in
      let same : encrypt_draws p key ≡ inner = refuse_false 3 0 inner (ap not all) in
      let sealed : packed_first p (take 32 key) ms ++ packed_second p ns ms message ≡ ciphertext p key message seed =
      rw numbers (parts_sealed key message seed ms multipliers) in (
        answer ∙ sym same,
        made ∙ ap (λ (new : List ℕ). leaves inner new old) sealed
            ∙ ap (λ (o : Outcome). leaves o (ciphertext p key message seed) old) (sym same),
      )
