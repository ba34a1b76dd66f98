-- The noise over residues is the noise over the whole numbers drawn.
-- Assumes nothing.
use mathlib.Core.Path.{◌≡◌, refl, sym, ap, ap₂, ◌∙◌}
use mathlib.Core.Bool.{Bool, true}
use mathlib.Core.List.{List, [], ◌∷◌, map}
use Prim.Native.Nat.{ℕ, zero, suc, ◌+◌, ◌*◌, ◌^◌, ◌≤◌, ◌<◌}
use native.Mathlib.Nat.{zero-add}
use native.Mathlib.Decide.{dec_lt}
use native.Mathlib.Omega.{arith}
use borrow.Author.Tests.{leb-true}
use lib.Dec.{leb}
use lib.IntN.{ℤ, pos, ◌+ℤ◌, ◌*ℤ◌, nat_abs}
use lib.ListN.{length, get_or, length-map, get_or-eq_default}
use Rattle.maths.specs.Vector.{at}
use Rattle.maths.specs.Integer.{residue, centre, correlation_ℤ}
use Rattle.maths.proofs.Vector.{at_past}
use Rattle.maths.proofs.Integer.{residue_lt, centre_residue, sum_ℤ_cong}
use Rattle.calls.specs.Checks.{all_of}
use Rattle.calls.specs.Region.{vector}
use Rattle.calls.proofs.Region.{region_entry}
use Rattle.sets.specs.declared.Parameters.{Parameters}
use Rattle.sets.specs.Rules.{Rules, ByteRules}
use Rattle.sets.specs.Table.{table, set_of, Listed}
use Rattle.sets.specs.Derived.{half_modulus_of, multiplier_count_of, error_count_of, multiplier_bits_of}
use Rattle.sets.proofs.Rules.{listed_rules}
use Rattle.sets.proofs.Tested.{passed, at_each}
use Rattle.ceiling.proofs.Laws.{ceiling_most}
use Rattle.draws.specs.Calls.{in_turn}
use Rattle.sets.proofs.Counts.{bits_most}
use Rattle.draws.proofs.Laws.{power_most, turn_length, turn_at}
use Rattle.samplers.specs.Seeded.{multipliers_drawn, secret_state}
use Rattle.samplers.proofs.Laws.{errors_drawn_length, errors_drawn_most, multipliers_drawn_length, multipliers_drawn_most}
use Rattle.scheme.specs.Answers.{only_residues}
use Rattle.scheme.specs.Encryption.{secret_seed, public_key, errors, encrypted_numbers, key_numbers}
use Rattle.scheme.specs.Noise.{product_noise_of, dropped_noise_of, noise}
use Rattle.scheme.proofs.Answers.{all_below}
use Rattle.scheme.proofs.Conditions.{listed_conditions}
use Rattle.scheme.proofs.Sizes.{noise_most}
use Rattle.scheme.proofs.Bytes.{key_numbers_below, encrypted_numbers_below, cipher_second_at}
use Rattle.sheet_noise.specs.Centred.{Residues, centred_term, centred_correlation, centred_part, centred_product, centred_dropped, centred_noise, drawn_noise}
use Rattle.sheet_noise.proofs.Sums.{room}

-- numbers that are equal in turn
pub turn_cong : (f g : ℕ → ℤ) (first n : ℕ) → ((j : ℕ) → j < first + n → f j ≡ g j) → in_turn f first n ≡ in_turn g first n
unfolding in_turn
turn_cong f g first zero e = refl
turn_cong f g first (suc n) e = ap₂ ◌∷◌ (e first (omega arith)) (turn_cong f g (suc first) n (λ j h. e j (omega arith)))

-- an entry of the residues
map_entry : (q : ℕ) (zs : List ℤ) (k : ℕ) → k < length zs → at (map (residue q) zs) k ≡ residue q (get_or zs k (pos 0))
map_entry q [] k h = absurd (omega arith)
map_entry q (z ∷ zs) zero h = refl
map_entry q (z ∷ zs) (suc k) h = map_entry q zs k (omega arith)

-- residues of whole numbers are below q
pub map_residues : (q : ℕ) (zs : List ℤ) → 0 < q → Residues q (map (residue q) zs)
map_residues q zs some =
    record {
      each = λ k.
          elim (dec_lt k (length zs)) [
            | yes h ↦ rw (map_entry q zs k h) (residue_lt q (get_or zs k (pos 0)) some)
            | no h ↦ rw (at_past (map (residue q) zs) k (rw length-map (omega arith))) some
          ];
    }

-- half a set's modulus has two rows or more, so that in sets 1 to 12 it is larger than every multiplier
abbrev half_tests : Parameters → List Bool
half_tests p = leb (2 * p.row) (half_modulus_of p) ∷ []

halves_passed : passed half_tests table ≡ true
unfolding passed all_of table half_modulus_of
halves_passed = refl

half_large : (p : Parameters) → ByteRules p → Listed p → 512 ≤ half_modulus_of p
unfolding set_of table
half_large p bytes known =
    let two : 2 * p.row ≤ half_modulus_of p =
    leb-true _ _ (rw known.listed (at_each half_tests table halves_passed known.set known.is_set).0) in
    omega (arith, two, bytes.row_256)

-- the whole numbers of two lists by their residues
module _ (p : Parameters) (kept : Rules p) (bytes : ByteRules p) (r e : List ℤ) (rl : length r ≡ multiplier_count_of p) (el : length e ≡ error_count_of p)
    (rm : (k : ℕ) → k < multiplier_count_of p → nat_abs (get_or r k (pos 0)) ≤ half_modulus_of p)
    (em : (k : ℕ) → k < error_count_of p → nat_abs (get_or e k (pos 0)) ≤ half_modulus_of p) where
  -- one number
  centred_entry : (zs : List ℤ) (k : ℕ) → k < length zs → nat_abs (get_or zs k (pos 0)) ≤ half_modulus_of p
      → centre (half_modulus_of p) (at (map (residue p.q) zs) k) ≡ get_or zs k (pos 0)
  centred_entry zs k h most =
      ap (centre (half_modulus_of p)) (map_entry p.q zs k h) ∙ centre_residue (half_modulus_of p) p.q (get_or zs k (pos 0)) kept.odd most

  -- one product
  term_drawn : (i j l : ℕ) → i < p.t → j < p.d → l < p.k + 1
      → centred_term (half_modulus_of p) (map (residue p.q) r) ((p.k + 1) * i) (map (residue p.q) e) ((p.d + p.k) * i + j) l
      ≡ get_or (vector (p.k + 1) r i) l (pos 0) *ℤ get_or (vector (p.d + p.k) e i) (j + l) (pos 0)
  unfolding centred_term
  term_drawn i j l h m o =
      let within = room p kept bytes i j h m in
      let place : (p.d + p.k) * i + j + l ≡ (p.d + p.k) * i + (j + l) = omega arith in
      ap₂ ◌*ℤ◌
      (centred_entry r ((p.k + 1) * i + l) (omega (arith, within.multipliers_in, rl)) (rm ((p.k + 1) * i + l) (omega (arith, within.multipliers_in)))
      ∙ sym (region_entry r ((p.k + 1) * i) (p.k + 1) l (pos 0) o))
      (centred_entry e ((p.d + p.k) * i + j + l) (omega (arith, within.errors_in, el)) (em ((p.d + p.k) * i + j + l) (omega (arith, within.errors_in)))
      ∙ ap (λ (k : ℕ). get_or e k (pos 0)) place ∙ sym (region_entry e ((p.d + p.k) * i) (p.d + p.k) (j + l) (pos 0) (omega arith)))

  -- the products' part
  pub product_drawn : (j : ℕ) → j < p.d → centred_product p (map (residue p.q) r) (map (residue p.q) e) j ≡ product_noise_of p r e j
  unfolding centred_product centred_part centred_correlation product_noise_of correlation_ℤ
  product_drawn j m = sum_ℤ_cong p.t _ _ (λ i h. sum_ℤ_cong (p.k + 1) _ _ (λ l o. term_drawn i j l h m o))

module _ (p : Parameters) (bytes : ByteRules p) (known : Listed p) (secret sealing : List ℕ) where
  -- the products' part of what is drawn
  pub drawn_product : (j : ℕ) → j < p.d
      → centred_product p (map (residue p.q) (multipliers_drawn p sealing)) (map (residue p.q) (errors p secret)) j
      ≡ product_noise_of p (multipliers_drawn p sealing) (errors p secret) j
  unfolding errors
  drawn_product j h =
      let kept = listed_rules p known in
      product_drawn p kept bytes (multipliers_drawn p sealing) (errors p secret) (multipliers_drawn_length p sealing)
      (errors_drawn_length p (secret_state p secret))
      (λ k l. omega (
        arith,
        multipliers_drawn_most p sealing k l,
        power_most (multiplier_bits_of p k) (bits_most p kept k),
        half_large p bytes known,
      ))
      (λ k l. omega (arith, errors_drawn_most p (secret_state p secret) k l, half_large p bytes known))
      j h

  -- the noise over the residues drawn
  pub noise_drawn : (ms es before : List ℕ) → ms ≡ map (residue p.q) (multipliers_drawn p sealing)
      → es ≡ map (residue p.q) (errors p secret)
      → in_turn (λ j. centred_noise p ms es (at before j) j) 0 p.d ≡ in_turn (drawn_noise p secret sealing before) 0 p.d
  unfolding centred_noise drawn_noise
  noise_drawn ms es before m e =
      turn_cong _ _ 0 p.d
      (λ j h. ap (λ (z : ℤ). z +ℤ centred_dropped p (at before j))
      (ap₂ (λ (xs ys : List ℕ). centred_product p xs ys j) m e ∙ drawn_product j (rw zero-add at h)))

module _ (p : Parameters) (bytes : ByteRules p) (known : Listed p) (seed message sealing : List ℕ) where
  -- place j from c2 before packing
  noise_place_lem : (j : ℕ) → j < p.d
      → drawn_noise p (secret_seed p seed) sealing (encrypted_numbers p (public_key p seed) message sealing) j
      ≡ noise p seed message sealing j
  unfolding drawn_noise centred_dropped noise dropped_noise_of
  noise_place_lem j h = rw (cipher_second_at (listed_conditions p bytes known) (public_key p seed) message sealing j h)

  -- the noise of every place
  pub noise_places : (secret before public : List ℕ) → secret ≡ secret_seed p seed → public ≡ public_key p seed
      → before ≡ encrypted_numbers p public message sealing
      → in_turn (drawn_noise p secret sealing before) 0 p.d ≡ in_turn (noise p seed message sealing) 0 p.d
  noise_places secret before public s k b =
      let made : before ≡ encrypted_numbers p (public_key p seed) message sealing =
      b ∙ ap (λ (pk : List ℕ). encrypted_numbers p pk message sealing) k in
      ap₂ (λ (xs ys : List ℕ). in_turn (drawn_noise p xs sealing ys) 0 p.d) s made
      ∙ turn_cong _ _ 0 p.d (λ j h. noise_place_lem j (rw zero-add at h))

  -- every place of the list is small: no noise exceeds the ceiling
  pub noise_small : (out : List ℤ) → out ≡ in_turn (noise p seed message sealing) 0 p.d → (j : ℕ) → nat_abs (get_or out j (pos 0)) < 2 ^ 62
  noise_small out made j =
      elim (dec_lt j p.d) [
        | yes h ↦ rw (made, turn_at (noise p seed message sealing) 0 p.d j (pos 0) h, zero-add)
            (omega (arith, noise_most (listed_conditions p bytes known) seed message sealing j h, ceiling_most p (listed_rules p known)))
        | no h ↦ let past : length out ≤ j = rw (made, turn_length) (omega arith) in rw (get_or-eq_default out (pos 0) past) (omega arith)
      ]

  -- the numbers of the public key are residues
  pub key_below : (public : List ℕ) → public ≡ public_key p seed → only_residues p.q (key_numbers p public) ≡ true
  key_below public e = rw e (all_below p.q (key_numbers p (public_key p seed)) (key_numbers_below (listed_conditions p bytes known) seed))

  -- and so is c2 before packing
  pub before_residues : (public before : List ℕ) → before ≡ encrypted_numbers p public message sealing → Residues p.q before
  before_residues public before e = rw e (record { each = encrypted_numbers_below (listed_conditions p bytes known) public message sealing })
