-- Demand 3 on numbers, for every set: reading accepts what an accepted key and an accepted sealing give, and each bit is read by its noise.
-- Assumes nothing.
use mathlib.Core.Path.{◌≡◌, refl, sym, ◌∙◌}
use mathlib.Core.Bool.{Bool, true, not}
use mathlib.Core.List.{List}
use Prim.Native.Nat.{ℕ, ◌+◌, ◌-◌, ◌*◌, ◌/◌, ◌%◌, ◌≤◌, ◌<◌}
use native.Mathlib.Nat.{zero-add, mod-eq_of_lt}
use native.Mathlib.Decide.{dec_lt}
use native.Mathlib.Omega.{arith}
use borrow.Author.Tests.{eq-eqb, eqb-true, lt-ltb, not-false}
use lib.IntN.{ℤ, pos}
use lib.ListN.{length, get_or}
use Rattle.maths.specs.Vector.{at, Below}
use Rattle.maths.specs.Integer.{residue}
use Rattle.maths.specs.BitClaim.{BitClaim}
use Rattle.maths.proofs.Vector.{equal_by_place}
use Rattle.maths.proofs.Rounding.{floor_bit_claim, centred_bit_claim}
use Rattle.calls.specs.Outcome.{Outcome, accepted}
use Rattle.calls.specs.Checks.{all_of, refuse_first, below}
use Rattle.calls.proofs.Outcome.{refuse_accepted}
use Rattle.calls.proofs.Checks.{refuse_first_passes, refuse_first_accepted, passing_all, all_of_each, each_all_of}
use Rattle.sets.specs.declared.Parameters.{Parameters}
use Rattle.sets.specs.Table.{set_of, IsSet, no_set}
use Rattle.sets.specs.Derived.{half_modulus_of, multiplier_count_of, error_count_of}
use Rattle.sets.proofs.Rules.{rules, byte_rules}
use Rattle.middle.proofs.Laws.{two_slices, accepted_one, accepted_two}
use Rattle.numbers.specs.Scheme.{opened, reading}
use Rattle.numbers.specs.Calls.{is_error, is_multiplier_of, key_shape, sealing_shape, key_answer, sealing_answer, reading_answer}
use Rattle.numbers.specs.Noise.{numbers_noise}
use Rattle.numbers.proofs.Laws.{rounded_bit_bench, rounded_bit_centred, key_length, key_below, key_numbers_lem, first_part_length, first_part_below}
use Rattle.numbers.proofs.Laws.{second_part_length}
use Rattle.numbers.proofs.Laws.{second_part_below, sealing_numbers, reading_length, reading_at, opened_below, three_slices, reading_numbers}
use Rattle.claim.specs.Claim.{on_numbers, key_of, first_of, second_of, Demand3}
use Rattle.claim.proofs.Noisy.{opened_noisy}

-- a check that every entry passes gives what comes after
passes : {A : Type 0} (test : ℕ → A → Bool) (offset : ℕ) (xs : List A) (d : A) (after : Outcome)
    → ((i : ℕ) → i < length xs → test i (get_or xs i d) ≡ true) → refuse_first test 0 offset xs after ≡ after
passes test offset xs d after each =
    refuse_first_passes test 0 offset xs after (length xs) (sym ((passing_all test 0 xs d).1 (λ k h. rw zero-add (each k h)))) (omega arith)

-- the same of numbers below a limit
passes_below : (limit offset : ℕ) (xs : List ℕ) (after : Outcome) → Below limit xs → refuse_first (below limit) 0 offset xs after ≡ after
passes_below limit offset xs after each = passes (below limit) offset xs 0 after (λ i h. lt-ltb _ _ (each i h))

-- numbers of the set's lengths and in range
pub record Inputs (p : Parameters) (a s : List ℕ) (e r : List ℤ) (m : List ℕ) : Type 0 where
  pub public_length : length a ≡ p.t * p.n
  pub public : Below p.q a
  pub secret_length : length s ≡ p.n + p.d + p.k - 1
  pub secret : Below p.q s
  pub errors_length : length e ≡ error_count_of p
  pub errors : (i : ℕ) → i < length e → is_error p.eta i (get_or e i (pos 0)) ≡ true
  pub multipliers_length : length r ≡ multiplier_count_of p
  pub multipliers : (i : ℕ) → i < length r → is_multiplier_of p i (get_or r i (pos 0)) ≡ true
  pub message_length : length m ≡ p.d
  pub message : Below 2 m

module _ (set : ℕ) (within : IsSet set) (a s : List ℕ) (e r : List ℤ) (m : List ℕ) where
  -- q is not 0
  some : 0 < (set_of set).q
  some = omega (arith, (rules set within).prime.above)

  -- key and sealing accept such numbers
  pub key_takes : Inputs (set_of set) a s e r m → key_answer set a s e (error_count_of (set_of set)) ≡ accepted
  key_takes given =
      let p = set_of set in
      let bound = error_count_of p in
      key_numbers_lem set p a s e bound refl (omega arith)
      (each_all_of _ (
        eq-eqb _ _ given.public_length,
        (
          eq-eqb _ _ given.secret_length,
          (eq-eqb _ _ given.errors_length, (eq-eqb bound bound refl, tt)),
        ),
      ))
      ∙ two_slices p.q a s _ ∙ passes_below p.q 0 a _ given.public ∙ passes_below p.q (length a) s _ given.secret
      ∙ passes (is_error p.eta) (length a + length s) e (pos 0) _ given.errors

  pub sealing_takes : Inputs (set_of set) a s e r m → sealing_answer set a (key_of set a s e) r m ((set_of set).n + (set_of set).k) (set_of set).d ≡ accepted
  sealing_takes given =
      let p = set_of set in
      let b = key_of set a s e in
      sealing_numbers set p a b r m (p.n + p.k) p.d refl (omega arith)
      (each_all_of _ (
        eq-eqb _ _ given.public_length,
        (
          eq-eqb _ _ (key_length p a s e),
          (
            eq-eqb _ _ given.multipliers_length,
            (eq-eqb _ _ given.message_length, (eq-eqb (p.n + p.k) (p.n + p.k) refl, (eq-eqb p.d p.d refl, tt))),
          ),
        ),
      ))
      ∙ two_slices p.q a b _ ∙ passes_below p.q 0 a _ given.public ∙ passes_below p.q (length a) b _ (key_below p a s e some)
      ∙ passes (is_multiplier_of p) (length a + length b) r (pos 0) _ given.multipliers ∙ passes_below 2 (length a + length b + length r) m _ given.message

  module _ (keyed : key_answer set a s e (error_count_of (set_of set)) ≡ accepted)
      (sealed : sealing_answer set a (key_of set a s e) r m ((set_of set).n + (set_of set).k) (set_of set).d ≡ accepted)
    where
      -- they tell that the numbers have the set's lengths and are in range
      pub inputs_told : Inputs (set_of set) a s e r m
      unfolding key_answer sealing_answer
      inputs_told =
          let p = set_of set in
          let b = key_of set a s e in
          let key_set = refuse_accepted (no_set set) 1 0 _ keyed in
          let key-shape = refuse_accepted (not (all_of (key_shape p (length a) (length s) (length e) (error_count_of p)))) 2 0 _ key_set.1 in
          let key-lengths = all_of_each _ (not-false _ key-shape.0) in
          let key_residues = accepted_two p.q a s _ key-shape.1 in
          let small-errors = refuse_first_accepted (is_error p.eta) 0 (length a + length s) e _ key_residues.2 in
          let sealing-set = refuse_accepted (no_set set) 1 0 _ sealed in
          let sealing-shape = refuse_accepted (not (all_of (sealing_shape p (length a) (length b) (length r) (length m) (p.n + p.k) p.d))) 2 0 _
          sealing-set.1 in
          let sealing-lengths = all_of_each _ (not-false _ sealing-shape.0) in
          let small-multipliers = refuse_first_accepted (is_multiplier_of p) 0 (length a + length b) r _ (accepted_two p.q a b _ sealing-shape.1).2 in
          record {
            public_length = eqb-true _ _ key-lengths.0;
            public = key_residues.0;
            secret_length = eqb-true _ _ key-lengths.1.0;
            secret = key_residues.1;
            errors_length = eqb-true _ _ key-lengths.1.1.0;
            errors = (passing_all (is_error p.eta) 0 e (pos 0)).0 small-errors.0;
            multipliers_length = eqb-true _ _ sealing-lengths.1.1.0;
            multipliers = λ i h. rw zero-add at ((passing_all (is_multiplier_of p) 0 r (pos 0)).0 small-multipliers.0 i h);
            message_length = eqb-true _ _ sealing-lengths.1.1.1.0;
            message = (accepted_one 2 (length a + length b + length r) m _ small-multipliers.1).0;
          }

      -- reading accepts what sealing gives
      reading_takes : reading_answer set (first_of set a r) (second_of set a s e r m) s (set_of set).d ≡ accepted
      reading_takes =
          let p = set_of set in
          let b = key_of set a s e in
          let c1 = first_of set a r in
          let c2 = second_of set a s e r m in
          let told = inputs_told in
          reading_numbers set p c1 c2 s p.d refl (omega arith)
          (each_all_of _ (
            eq-eqb _ _ (first_part_length p a r),
            (eq-eqb _ _ (second_part_length p b r m), (eq-eqb _ _ told.secret_length, (eq-eqb p.d p.d refl, tt))),
          ))
          ∙ three_slices p.q c1 c2 s _ ∙ two_slices p.q c1 c2 _ ∙ passes_below p.q 0 c1 _ (first_part_below p a r some)
          ∙ passes_below p.q (length c1) c2 _ (second_part_below p b r m some) ∙ passes_below p.q (length c1 + length c2) s _ told.secret

      -- each bit is read by its noise
      each_bit : (j : ℕ) → j < (set_of set).d
          → BitClaim (half_modulus_of (set_of set)) (numbers_noise (set_of set) e r j) (at m j)
          (at (reading set (set_of set) (first_of set a r) (second_of set a s e r m) s) j)
      each_bit j h =
          let p = set_of set in
          let half = half_modulus_of p in
          let N = numbers_noise p e r j in
          let w = opened p (first_of set a r) (second_of set a s e r m) s j in
          let odd = (rules set within).odd in
          let told = inputs_told in
          let bit : at m j ≤ 1 = omega (arith, told.message_length, told.message j (omega (arith, told.message_length))) in
          let exact : w ≡ (residue p.q N + half * at m j) % p.q =
          sym (mod-eq_of_lt (opened_below p (first_of set a r) (second_of set a s e r m) s j some))
          ∙ (opened_noisy p (rules set within) a s e told.public_length r m told.multipliers_length j h).same in
          rw (reading_at set p (first_of set a r) (second_of set a s e r m) s j h) (elim (dec_lt 0 set) [
            | yes above ↦ rw (rounded_bit_centred set p w (λ z. omega arith))
                (centred_bit_claim half p.q (at m j) w N odd bit exact (half / 2) (byte_rules set above within).even_half)
            | no zero ↦ rw (rounded_bit_bench set p w (omega arith)) (floor_bit_claim half p.q (at m j) w N odd bit exact)
          ])

      -- demand 3
      pub numbers_claim : Demand3 set (on_numbers a s e r m)
      numbers_claim =
          record {
            key_accepts = keyed;
            sealing_accepts = sealed;
            reading_accepts = reading_takes;
            bits = each_bit;
            whole = λ small.
                equal_by_place (set_of set).d _ _ (reading_length set (set_of set) (first_of set a r) (second_of set a s e r m) s)
                inputs_told.message_length (λ j h. (each_bit j h).reads (small j h));
          }
