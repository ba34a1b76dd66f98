-- The vectors of a public key: b_i from the correlations, what is stored, and the invariant of the loop that stores one vector after the other.
-- Assumes nothing.
use mathlib.Core.Path.{◌≡◌, refl, sym, ap, ◌∙◌}
use mathlib.Core.Bool.{true}
use mathlib.Core.List.{List, ◌++◌}
use Prim.Native.Nat.{ℕ, suc, ◌+◌, ◌-◌, ◌*◌, ◌%◌, ◌≤◌, ◌<◌}
use native.Mathlib.Nat.{sub-zero, mod-lt, mul-le-mul_left}
use native.Mathlib.Numerals.{add-one}
use native.Mathlib.Omega.{arith}
use lib.ListN.{length, take, drop}
use lib.Seq.{length-take-le, get_or-take, take-take}
use Rattle.maths.specs.Vector.{at, AllBelow}
use Rattle.maths.specs.Product.{correlation}
use Rattle.maths.proofs.Vector.{tabulate_at, tabulate_cong}
use Rattle.maths.proofs.Congruence.{mod_refl, mod_eq, mod_trans, mod_add, mod_remainder}
use Rattle.maths.proofs.Product.{correlation_mod}
use Rattle.calls.specs.Region.{region, over, joined}
use Rattle.calls.proofs.Region.{region_entry, region_length, over_length, over_append, over_over, over_lent, over_region, over_outside, region_part}
use Rattle.calls.proofs.Region.{region_over_same, joined_length}
use Rattle.sets.specs.declared.Parameters.{Parameters}
use Rattle.sets.specs.Table.{Listed}
use Rattle.sets.specs.Rules.{ByteRules}
use Rattle.sets.specs.Derived.{transform_size_of}
use Rattle.sets.proofs.Rules.{listed_rules}
use Rattle.byte_source.specs.Source.{state_at}
use Rattle.samplers.specs.Seeded.{public_state, public_drawn}
use Rattle.samplers.proofs.Laws.{uniform_below}
use Rattle.ntt_products.specs.Stored.{sent_inverse, recovered_inverse, correlations}
use Rattle.ntt_products.specs.Placed.{Placed}
use Rattle.ntt_products.proofs.Laws.{recovered_inverse_take, sent_inverse_placed}
use Rattle.scheme.specs.Encryption.{key_vector_of, public_polynomial}
use Rattle.scheme.specs.Answers.{is_taken, all_taken}
use Rattle.cpa_keygen.specs.Held.{vectors_start_of, Held, sums, held_vector, stored_vector}
use Rattle.sets.proofs.Transforms.{first_size, third_size}
use Rattle.cpa_keygen.proofs.Room.{vectors_room, errors_room, secret_room}
use Rattle.cpa_keygen.proofs.Sums.{sums_length}
use Rattle.calls.proofs.Parts.{front, region_before}

module _ (p : Parameters) (bytes : ByteRules p) (known : Listed p) where
  -- the secret that is held may be correlated with
  pub secret_placed : (work : List ℕ) → Held p work → Placed p 3 (transform_size_of p 3) (region work 0 p.d3)
  secret_placed work held =
      let third = third_size p in
      let room : 0 + p.d3 ≤ length work = omega (arith, held.size, vectors_room p bytes known, secret_room p bytes known) in
      record {
        size = region_length work 0 p.d3 room ∙ sym third;
        inside = omega arith;
        residues =
            record {
              each = λ j h. let k : j < p.d3 = omega arith in rw (region_entry work 0 p.d3 j 0 k)
                  (held.residues.each (0 + j) (omega (arith, secret_room p bytes known)));
            };
      }

  module _ (i : ℕ) (h : i < p.t) (work : List ℕ) (held : Held p work) where
    -- the errors of polynomial i
    abbrev part : List ℕ
    part = region work (p.d3 + (p.d + p.k) * i) (p.d + p.k)

    -- as the code lends them
    pub errors_part : (start n : ℕ) → start ≡ p.d3 + (p.d + p.k) * i → n ≡ p.d + p.k → take (start + n - start) (drop start work) ≡ part
    errors_part start n e m = region_part work start n (start + n) refl ∙ rw (e, m)

    -- how many they are
    pub errors_length : length part ≡ p.d + p.k
    errors_length = region_length work _ _ (omega (arith, held.size, vectors_room p bytes known, errors_room p bytes known i h))

    -- they are residues
    pub errors_below : AllBelow p.q (p.d + p.k) part
    errors_below =
        record {
          each = λ j l. rw (region_entry work (p.d3 + (p.d + p.k) * i) (p.d + p.k) j 0 l)
              (held.residues.each _ (omega (arith, errors_room p bytes known i h)));
        }

    -- the first n correlations are made with the secret as the code lends it
    module _ (old new : List ℕ) {lent : List ℕ} {n : ℕ} (placed : Placed p 3 p.n old) (secret : lent ≡ region work 0 p.d3) (few : n ≡ p.d + p.k)
        (made : take n new ≡ correlations p.q (take p.n old) (recovered_inverse p 3 (transform_size_of p 3) lent) n) (size : length new ≡ transform_size_of p 3)
      where
        -- that is, with the secret itself
        first : take (p.d + p.k) new
            ≡ correlations p.q (take p.n old) (recovered_inverse p 3 (transform_size_of p 3) (region work 0 p.d3)) (p.d + p.k)
        first = rw (secret, few) at made

        -- number j of the correlations
        correlated_at : (j : ℕ) → j < p.d + p.k
            → at new j ≡ correlation p.n (at (take p.n old)) (at (recovered_inverse p 3 (p.n + p.d + p.k - 1) (region work 0 p.d3))) j % p.q
        unfolding correlations
        correlated_at j l =
            let kept = listed_rules p known in
            let third = third_size p in
            let m = p.n + p.d + p.k - 1 in
            let whole = recovered_inverse p 3 (transform_size_of p 3) (region work 0 p.d3) in
            let short : length (take p.n old) ≡ p.n = length-take-le p.n old (omega (arith, placed.size, placed.inside)) in
            sym (get_or-take (p.d + p.k) new j 0 l)
            ∙ ap (λ (xs : List ℕ). at xs j) first
            ∙ tabulate_at (p.d + p.k) _ j l
            ∙ rw short
            (correlation_mod p.n _ _ _ _ j (λ k u. mod_refl _)
            (λ k u. mod_eq (sym (get_or-take m whole (j + k) 0 (omega (arith, kept.some_n)))
            ∙ ap (λ (xs : List ℕ). at xs (j + k)) (recovered_inverse_take p 3 m (region work 0 p.d3) (omega (arith, kept.holds3)))))).same

        -- the correlations are residues
        pub correlated_below : AllBelow p.q (p.d + p.k) new
        correlated_below = record { each = λ j l. rw (correlated_at j l) (mod-lt _ (omega (arith, (listed_rules p known).prime.above))) }

        -- the correlations plus the errors
        sums_key : sums p.q new part ≡ key_vector_of p (take p.n old) (recovered_inverse p 3 (p.n + p.d + p.k - 1) (region work 0 p.d3)) part
        unfolding sums key_vector_of
        sums_key =
            rw errors_length (tabulate_cong (p.d + p.k) _ _
            (λ j l. (mod_add (mod_trans (mod_eq (correlated_at j l)) (mod_remainder p.q _)) (mod_refl _)).same))

        -- are b_i
        pub key_vector_lem : take (p.d + p.k) (over new 0 (sums p.q new part)) ≡ held_vector p (take p.n old) work i
        unfolding held_vector
        key_vector_lem =
            let count : length (sums p.q new part) ≡ p.d + p.k = sums_length p.q new part ∙ errors_length in
            let room : length (sums p.q new part) ≤ length new =
            omega (arith, (listed_rules p known).holds1, (listed_rules p known).rising1, (listed_rules p known).rising2, third_size p) in
            (rw count at (front new (sums p.q new part) room)) ∙ sums_key

module _ (p : Parameters) (known : Listed p) where
  -- there is a modulus
  pub some_modulus : 0 < p.q
  some_modulus = omega (arith, (listed_rules p known).prime.above)

  -- the numbers of a public polynomial are residues
  polynomial_below : (seedpk : List ℕ) (i j : ℕ) → at (public_polynomial p seedpk i) j < p.q
  unfolding public_polynomial public_drawn
  polynomial_below seedpk i j = uniform_below p (public_state p seedpk i) p.bytpca p.n some_modulus j

  -- so the polynomial at the front of x may be sent
  pub polynomial_placed : (seedpk x : List ℕ) (i : ℕ) → length x ≡ transform_size_of p 3 → take p.n x ≡ public_polynomial p seedpk i → Placed p 3 p.n x
  polynomial_placed seedpk x i size drawn =
      let kept = listed_rules p known in
      record {
        size = size;
        inside = omega (arith, kept.holds3, kept.some_d, kept.some_k, third_size p);
        residues = record { each = λ j h. rw (sym (get_or-take p.n x j 0 h) ∙ ap (λ (xs : List ℕ). at xs j) drawn) (polynomial_below seedpk i j) };
      }

  -- the numbers of b_i are residues
  pub vector_below : (x a work : List ℕ) (i : ℕ) → take (p.d + p.k) x ≡ held_vector p a work i → AllBelow p.q (p.d + p.k) x
  unfolding held_vector key_vector_of
  vector_below x a work i made =
      record {
        each = λ j h. rw
            (sym (get_or-take (p.d + p.k) x j 0 h) ∙ ap (λ (xs : List ℕ). at xs j) made ∙ tabulate_at (p.d + p.k) _ j h)
            (mod-lt _ some_modulus);
      }

-- b̂_i is what is sent of b_i
pub stored_is : (p : Parameters) (seedpk work a xs : List ℕ) (i : ℕ) → xs ≡ held_vector p a work i → a ≡ public_polynomial p seedpk i
    → sent_inverse p 1 xs ≡ stored_vector p seedpk work i
unfolding stored_vector
stored_is p seedpk work a xs i made drawn = rw (made, drawn)

-- a vector at the front of x is copied to its places and sent there
module _ (p : Parameters) (known : Listed p) (x work new : List ℕ) (start size n : ℕ) (whole : size ≡ p.d1) (few : n ≡ p.d + p.k)
    (room : start + p.d1 ≤ length work) (long : length x ≡ transform_size_of p 3) (below : AllBelow p.q (p.d + p.k) x)
    (copied : new ≡ over work start (take (size - 0) x))
  where
    -- x has the places of the first transform
    first_length : length (take size x) ≡ size
    first_length = length-take-le size x (omega (arith, third_size p, (listed_rules p known).rising1, (listed_rules p known).rising2))

    -- what stands in these places
    copied_part : take (start + size - start) (drop start new) ≡ take size x
    copied_part =
        region_part new start size (start + size) refl
        ∙ rw (copied, sub-zero) (region_over_same work start (take size x) (omega (arith, first_length)) size first_length)

    -- may be sent
    pub copied_placed : Placed p 1 n (take (start + size - start) (drop start new))
    copied_placed =
        let fits : n ≤ size = omega (arith, (listed_rules p known).holds1) in
        rw copied_part
        (record {
          size = first_length ∙ whole ∙ sym (first_size p);
          inside = omega (arith, first_size p);
          residues = record { each = λ j h. rw (get_or-take size x j 0 (omega arith)) (below.each j (omega arith)) };
        })

    -- and then the vector is stored
    pub copied_stored : (ys : List ℕ) → ys ≡ sent_inverse p 1 (take n (take (start + size - start) (drop start new)))
        → take start new ++ (ys ++ drop (start + size - start) (drop start new)) ≡ over work start (sent_inverse p 1 (take (p.d + p.k) x))
    copied_stored ys e =
        let fits : n ≤ size = omega (arith, (listed_rules p known).holds1) in
        let made : ys ≡ sent_inverse p 1 (take (p.d + p.k) x) = e ∙ rw (copied_part, take-take n size x fits, few) in
        let count : length ys ≡ size = ap length made ∙ (sent_inverse_placed p known 1 _).size ∙ first_size p ∙ sym whole in
        over_lent new start ys (start + size) (omega arith)
        ∙ rw (copied, sub-zero) (over_over work start (take size x) (omega (arith, first_length)) ys (omega (arith, first_length)))
        ∙ ap (over work start) made

-- vectors are stored for the first i polynomials
pub record Vectors (p : Parameters) (seedpk old : List ℕ) (i counter : ℕ) (new : List ℕ) : Type 0 where
  pub within : i ≤ p.t
  pub state_is : state_at seedpk counter ≡ public_state p seedpk i
  pub all_taken_lem : all_taken i (public_drawn p seedpk) ≡ true
  pub written : new ≡ over old (vectors_start_of p) (joined i (stored_vector p seedpk old))

module _ (p : Parameters) (bytes : ByteRules p) (known : Listed p) (seedpk old : List ℕ) (held : Held p old) where
  -- a stored vector has the places of the first transform
  vector_size : (work : List ℕ) (i : ℕ) → length (stored_vector p seedpk work i) ≡ p.d1
  unfolding stored_vector
  vector_size work i = (sent_inverse_placed p known 1 _).size ∙ first_size p

  -- before the first polynomial
  pub vectors_none : Vectors p seedpk old 0 0 old
  unfolding public_state all_taken joined region
  vectors_none =
      record {
        within = omega arith;
        state_is = refl;
        all_taken_lem = refl;
        written = sym (over_region old (vectors_start_of p) 0 (omega (arith, held.size, vectors_room p bytes known)));
      }

  module _ (i counter : ℕ) (new : List ℕ) (v : Vectors p seedpk old i counter new) where
    -- how many numbers are stored so far, and that they fit
    stored_length : length (joined i (stored_vector p seedpk old)) ≡ p.d1 * i
    stored_length = joined_length p.d1 i (stored_vector p seedpk old) (λ j l. vector_size old j)

    stored_room : vectors_start_of p + length (joined i (stored_vector p seedpk old)) ≤ length old
    stored_room = omega (arith, stored_length, held.size, vectors_room p bytes known, mul_within)
      where
        mul_within : p.d1 * i ≤ p.d1 * p.t
        mul_within = mul-le-mul_left p.d1 v.within

    -- a region before the stored vectors is as it was
    kept_before : (from n : ℕ) → from + n ≤ vectors_start_of p → region new from n ≡ region old from n
    kept_before from n before =
        rw v.written (region_before old (vectors_start_of p) (joined i (stored_vector p seedpk old)) from n stored_room before)

    -- the secret and the errors are held still
    pub held_still : Held p new
    held_still =
        record {
          size = rw v.written (over_length old (vectors_start_of p) (joined i (stored_vector p seedpk old)) stored_room) ∙ held.size;
          residues =
              record {
                each = λ j l. rw v.written
                    (rw (over_outside old (vectors_start_of p) (joined i (stored_vector p seedpk old)) stored_room j 0 (λ k m e. omega arith))
                    (held.residues.each j l));
              };
        }

    -- so the next vector is what it was to be
    same_vector : i < p.t → stored_vector p seedpk new i ≡ stored_vector p seedpk old i
    unfolding stored_vector held_vector
    same_vector h =
        rw (
          kept_before 0 p.d3 (omega (arith, secret_room p bytes known)),
          kept_before (p.d3 + (p.d + p.k) * i) (p.d + p.k) (errors_room p bytes known i h),
        )

    -- one polynomial more
    pub vectors_more : (next : ℕ) (after : List ℕ) → i < p.t → is_taken (public_drawn p seedpk i) ≡ true
        → state_at seedpk next ≡ public_state p seedpk (suc i)
        → after ≡ over new (vectors_start_of p + p.d1 * i) (stored_vector p seedpk new i) → Vectors p seedpk old (i + 1) next after
    unfolding all_taken joined
    vectors_more next after h t n w =
        record {
          within = omega arith;
          state_is = rw add-one n;
          all_taken_lem = rw (add-one, v.all_taken_lem) t;
          written =
              w ∙ rw (same_vector h, v.written, ← stored_length, add-one)
              (over_append old (vectors_start_of p) (joined i (stored_vector p seedpk old)) stored_room (stored_vector p seedpk old i));
        }
