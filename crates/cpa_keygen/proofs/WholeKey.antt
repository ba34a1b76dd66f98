-- The secret and the errors in the work slice, the stored vectors of a public key, and its bytes.
-- Assumes nothing.
use mathlib.Core.Path.{◌≡◌, sym, ap, ◌∙◌}
use mathlib.Core.Bool.{true, not}
use mathlib.Core.List.{List, ◌++◌, map}
use Prim.Native.Nat.{ℕ, ◌+◌, ◌-◌, ◌*◌, ◌^◌, ◌≤◌, ◌<◌}
use native.Mathlib.Nat.{zero-mod, zero-add}
use native.Mathlib.Decide.{dec_lt}
use native.Mathlib.Omega.{arith}
use lib.IntN.{ℤ, pos}
use lib.ListN.{length, get_or, length-map, get_or-map}
use Rattle.maths.specs.Vector.{at}
use Rattle.maths.specs.Integer.{residue}
use Rattle.maths.proofs.Vector.{at_past}
use Rattle.maths.proofs.Integer.{residue_lt, residue_pos}
use Rattle.calls.specs.Outcome.{Outcome, accepted, refuse}
use Rattle.calls.specs.Region.{region, over, joined}
use Rattle.calls.proofs.Region.{region_entry, region_region, region_over_same, over_length, joined_length, joined_each}
use Rattle.sets.specs.declared.Parameters.{Parameters}
use Rattle.sets.specs.Table.{Listed}
use Rattle.sets.specs.Rules.{ByteRules}
use Rattle.sets.specs.Derived.{transform_size_of, packed_bytes_of, error_count_of}
use Rattle.sets.proofs.Rules.{listed_rules}
use Rattle.packing.specs.Digits.{Digit, pack}
use Rattle.byte_source.specs.Source.{State, initial, output}
use Rattle.samplers.specs.Seeded.{secret_sampled, secret_drawn, secret_state, public_drawn, errors_drawn}
use Rattle.samplers.proofs.Laws.{uniform_length, uniform_below, errors_drawn_length}
use Rattle.ntt_products.specs.Stored.{sent_inverse}
use Rattle.ntt_products.proofs.Laws.{sent_inverse_placed}
use Rattle.scheme.specs.Encryption.{secret_seed, public_seed, stored_secret, secret, errors, residue_vector, public_vector, public_key}
use Rattle.scheme.specs.Answers.{is_taken, all_taken, key_draws, work_length_of}
use Rattle.cpa_keygen.specs.Held.{vectors_start_of, Held, SecretHeld, held_vector, stored_vector}
use Rattle.sets.proofs.Transforms.{first_size}
use Rattle.cpa_keygen.proofs.Room.{vectors_room, secret_room, errors_room}
use Rattle.scheme.proofs.Taken.{taken_numbers}
use Rattle.calls.proofs.Parts.{region_before, joined_cong}
use Rattle.cpa_keygen.proofs.KeyVectors.{some_modulus}

-- the residue at a place of a list of whole numbers
residues_at : (q : ℕ) (zs : List ℤ) (j : ℕ) → at (map (residue q) zs) j ≡ residue q (get_or zs j (pos 0))
residues_at q zs j =
    let zero-residue : residue q (pos 0) ≡ 0 = residue_pos q 0 ∙ zero-mod q in
    ap (get_or (map (residue q) zs) j) (sym zero-residue) ∙ get_or-map (residue q) zs j (pos 0)

module _ (p : Parameters) (bytes : ByteRules p) (known : Listed p) (seedsk : List ℕ) where
  -- the numbers of the secret are residues
  secret_below : (j : ℕ) → at (stored_secret p seedsk) j < p.q
  unfolding stored_secret secret_drawn secret_sampled
  secret_below j = uniform_below p (initial seedsk) p.bytpcs p.d3 (some_modulus p known) j

  -- a drawn secret has the places of the third transform
  secret_length : is_taken (secret_drawn p seedsk) ≡ true → length (stored_secret p seedsk) ≡ p.d3
  unfolding stored_secret secret_drawn secret_sampled
  secret_length t = uniform_length p (initial seedsk) p.bytpcs p.d3 _ (taken_numbers (secret_drawn p seedsk) t)

  -- the secret is drawn to the front, the errors after it
  pub secret_held : (old middle new : List ℕ) (next : State) → length old ≡ work_length_of p → is_taken (secret_drawn p seedsk) ≡ true
      → next ≡ secret_state p seedsk → middle ≡ over old 0 (stored_secret p seedsk)
      → new ≡ over middle p.d3 (map (residue p.q) (errors_drawn p next)) → SecretHeld p seedsk new
  unfolding errors
  secret_held old middle new next size t n first second =
      let es : List ℕ = map (residue p.q) (errors_drawn p next) in
      let long = secret_length t in
      let count : length es ≡ error_count_of p = length-map (errors_drawn p next) (residue p.q) ∙ errors_drawn_length p next in
      let room : vectors_start_of p ≤ length old = omega (arith, vectors_room p bytes known) in
      let front : 0 + length (stored_secret p seedsk) ≤ length old = omega (arith, secret_room p bytes known) in
      let kept : length middle ≡ length old = ap length first ∙ over_length old 0 (stored_secret p seedsk) front in
      let rest : p.d3 + length es ≤ length middle = omega (arith, secret_room p bytes known) in
      record {
        secret =
            ap (λ (xs : List ℕ). region xs 0 p.d3) second
            ∙ region_before middle p.d3 es 0 p.d3 rest (omega arith)
            ∙ ap (λ (xs : List ℕ). region xs 0 p.d3) first
            ∙ region_over_same old 0 (stored_secret p seedsk) front p.d3 long;
        errors_held =
            ap (λ (xs : List ℕ). region xs p.d3 (error_count_of p)) second
            ∙ region_over_same middle p.d3 es rest (error_count_of p) count
            ∙ ap (λ (s : State). map (residue p.q) (errors_drawn p s)) n;
      }

  module _ (work : List ℕ) (held : SecretHeld p seedsk work) (size : length work ≡ work_length_of p) where
    -- all of them are residues
    pub secret_residues : Held p work
    secret_residues = record { size = size; residues = record { each = each } }
      where
        first : (j : ℕ) → j < p.d3 → at work j < p.q
        first j h =
            rw (ap (at work) (sym (zero-add j)) ∙ sym (region_entry work 0 p.d3 j 0 h) ∙ ap (λ (xs : List ℕ). at xs j) held.secret)
            (secret_below j)

        second : (j : ℕ) → j < error_count_of p → at work (p.d3 + j) < p.q
        second j h =
            rw (sym (region_entry work p.d3 (error_count_of p) j 0 h) ∙ ap (λ (xs : List ℕ). at xs j) held.errors_held
            ∙ residues_at p.q (errors p seedsk) j)
            (residue_lt p.q _ (some_modulus p known))

        each : (j : ℕ) → j < vectors_start_of p → at work j < p.q
        each j h =
            elim (dec_lt j p.d3) [
              | yes l ↦ first j l
              | no l ↦
                  let place : j ≡ p.d3 + (j - p.d3) = omega arith in
                  rw place (second (j - p.d3) (omega (arith, secret_room p bytes known)))
            ]

    -- b̂_i from them
    vector_is : (seedpk : List ℕ) (i : ℕ) → i < p.t → stored_vector p seedpk work i ≡ sent_inverse p 1 (public_vector p seedsk seedpk i)
    unfolding stored_vector held_vector public_vector secret residue_vector
    vector_is seedpk i h =
        let row : ℕ = p.d + p.k in
        let part : region work (p.d3 + row * i) row ≡ region (map (residue p.q) (errors p seedsk)) (row * i) row =
        sym (region_region work p.d3 (error_count_of p) (row * i) row (omega (arith, secret_room p bytes known, vectors_room p bytes known))
        (omega (arith, secret_room p bytes known, errors_room p bytes known i h)))
        ∙ ap (λ (xs : List ℕ). region xs (row * i) row) held.errors_held in
        rw (held.secret, part)

    -- the stored vectors of the public key
    pub key_stored : (seedpk new : List ℕ) → new ≡ over work (vectors_start_of p) (joined p.t (stored_vector p seedpk work))
        → region new (vectors_start_of p) (p.d1 * p.t) ≡ joined p.t (λ i. sent_inverse p 1 (public_vector p seedsk seedpk i))
    key_stored seedpk new written =
        let all : List ℕ = joined p.t (λ i. sent_inverse p 1 (public_vector p seedsk seedpk i)) in
        let same : joined p.t (stored_vector p seedpk work) ≡ all = joined_cong p.t _ _ (vector_is seedpk) in
        let count : length all ≡ p.d1 * p.t = joined_length p.d1 p.t _ (λ i h. (sent_inverse_placed p known 1 _).size ∙ first_size p) in
        rw (written, same) (region_over_same work (vectors_start_of p) all (omega (arith, vectors_room p bytes known)) (p.d1 * p.t) count)

-- stored vectors may be packed
pub stored_digits : (p : Parameters) → Listed p → (f : ℕ → List ℕ) (xs : List ℕ) → xs ≡ joined p.t (λ i. sent_inverse p 1 (f i)) → Digit p.width xs
stored_digits p known f xs made k =
    rw made (joined_each (λ x. x < 2 ^ p.width) 0 (omega (arith, wide)) p.t (λ i. sent_inverse p 1 (f i)) (λ i j h. digit (f i) j) k)
  where
    wide : p.q < 2 ^ p.width
    wide = (listed_rules p known).width_enough

    digit : (ys : List ℕ) (j : ℕ) → at (sent_inverse p 1 ys) j < 2 ^ p.width
    digit ys j =
        let stored = sent_inverse_placed p known 1 ys in
        elim (dec_lt j (transform_size_of p 1)) [
          | yes l ↦ omega (arith, wide, stored.residues.each j l)
          | no l ↦ rw (at_past (sent_inverse p 1 ys) j (omega (arith, stored.size))) (omega (arith, wide))
        ]

module _ (p : Parameters) (seed : List ℕ) {n : ℕ} (m : n ≡ 32) where
  -- seedsk
  pub secret_made : {xs : List ℕ} → xs ≡ (output p (initial seed) n).bytes → xs ≡ secret_seed p seed
  unfolding secret_seed
  secret_made made = rw m at made

  -- seedpk, from the state that the output of seedsk leaves
  pub public_made : {xs : List ℕ} {o : ℕ} (next : State) → o ≡ 32 → next ≡ (output p (initial seed) n).next → xs ≡ (output p next o).bytes
      → xs ≡ public_seed p seed
  unfolding public_seed
  public_made next l moved made = rw (moved, l, m) at made

module _ (p : Parameters) (seed seedsk seedpk : List ℕ) (first : seedsk ≡ secret_seed p seed) (second : seedpk ≡ public_seed p seed) where
  -- the draws from them decide the call
  pub draws_decide : {o : Outcome} → o ≡ refuse (not (is_taken (secret_drawn p seedsk))) 5 0 (refuse (not (all_taken p.t (public_drawn p seedpk))) 5 0 accepted)
      → key_draws p seed ≡ o
  unfolding key_draws
  draws_decide answered = rw (← first, ← second) (sym answered)

  -- the bytes of the public key
  pub key_made : (xs : List ℕ) → xs ≡ joined p.t (λ i. sent_inverse p 1 (public_vector p seedsk seedpk i))
      → seedpk ++ pack p.width (packed_bytes_of (p.d1 * p.t) p.width) xs ≡ public_key p seed
  unfolding public_key
  key_made xs stored = rw (stored, first, second)
