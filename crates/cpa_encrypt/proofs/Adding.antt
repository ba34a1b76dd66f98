-- The first part of a ciphertext: one public polynomial drawn and sent, the products added up over all polynomials, and what they stand for.
-- Assumes nothing.
use mathlib.Core.Path.{◌≡◌, refl, sym, ap, subst, ◌∙◌}
use mathlib.Core.Bool.{true, not}
use mathlib.Core.List.{List, ◌++◌}
use Prim.Native.Nat.{ℕ, ◌+◌, ◌-◌, ◌*◌, ◌^◌, ◌≤◌, ◌<◌}
use native.Mathlib.Numerals.{add-one}
use native.Mathlib.Omega.{arith}
use lib.ListN.{length, take, drop, replicate}
use Rattle.maths.specs.Vector.{at, AllBelow}
use Rattle.calls.specs.Outcome.{accepted, refused, refuse}
use Rattle.calls.specs.Region.{vector}
use Rattle.calls.proofs.Region.{region_length, over_lent}
use Rattle.sets.specs.declared.Parameters.{Parameters}
use Rattle.sets.specs.Table.{Listed}
use Rattle.sets.specs.Rules.{ByteRules}
use Rattle.sets.specs.Derived.{transform_size_of}
use Rattle.sets.proofs.Rules.{listed_rules}
use Rattle.packing.specs.Digits.{Digit, pack}
use Rattle.draws.specs.Uniform.{taken, numbers}
use Rattle.samplers.specs.Blocks.{uniform, onto, refusal, uniform_answer}
use Rattle.byte_source.specs.Source.{State, state_at}
use Rattle.samplers.specs.Seeded.{public_state, public_drawn}
use Rattle.samplers.proofs.Laws.{uniform_length, uniform_below, answer_onto, answer_refusal, public_state_small}
use Rattle.ntt_products.specs.Stored.{sent, unscaled, accumulated, totals}
use Rattle.ntt_products.specs.Placed.{Placed, SentScaled}
use Rattle.ntt_products.proofs.Laws.{accumulated_length, Stored, sent_placed, addends, totals_none, totals_more, totals_placed, totals_sent, front_placed}
use Rattle.scheme.specs.Answers.{is_taken, all_taken}
use Rattle.scheme.specs.Encryption.{public_polynomial, first_numbers, first_bytes_of}
use Rattle.cpa_encrypt.specs.Parts.{Multipliers, packed_first}
use Rattle.calls.proofs.Parts.{front}
use Rattle.sets.proofs.Transforms.{second_size}
use Rattle.cpa_encrypt.proofs.Multiplied.{residue_digits, vector_room}
use Rattle.scheme.proofs.Taken.{not_taken, taken_numbers, all_taken_false, all_taken_each, all_taken_more, all_taken_none}

module _ (p : Parameters) (state : State) (len : ℕ) (l : len ≡ p.n) where
  -- a draw of as many numbers as a slice of n has answers as one of n
  pub answer_whole : uniform_answer p state p.bytpca len ≡ uniform_answer p state p.bytpca p.n
  answer_whole = ap (uniform_answer p state p.bytpca) l

  -- and draws the same
  draw_whole : (uniform p state p.bytpca len).drawn ≡ (uniform p state p.bytpca p.n).drawn
  draw_whole = ap (λ (n : ℕ). (uniform p state p.bytpca n).drawn) l

  -- an answer with a state: the numbers are those drawn
  pub drawn_numbers : (next : State) (ys : List ℕ) → uniform_answer p state p.bytpca len ≡ onto next
      → ((xs : List ℕ) → (uniform p state p.bytpca len).drawn ≡ taken xs → ys ≡ xs) → (uniform p state p.bytpca p.n).drawn ≡ taken ys
  drawn_numbers next ys answer result =
      let o = answer_onto p state p.bytpca len next answer in
      sym draw_whole ∙ o.drawn_is ∙ ap taken (sym (result o.xs o.drawn_is))

  -- a refusal: there are no numbers
  pub drawn_refused : 384 ≤ p.bytpca → (number : ℕ) → uniform_answer p state p.bytpca len ≡ refusal number
      → (xs : List ℕ) → (uniform p state p.bytpca p.n).drawn ≡ taken xs → ⊥
  drawn_refused large number answer xs u = (answer_refusal p state p.bytpca len large number answer).1 xs (draw_whole ∙ u)

module _ (p : Parameters) (known : Listed p) where
  -- a public polynomial fits the second transform
  pub polynomial_fits : p.n ≤ transform_size_of p 2
  polynomial_fits = omega (arith, second_size p, (listed_rules p known).holds2)

  module _ (state : State) (y ys : List ℕ) (size : length y ≡ transform_size_of p 2) (u : (uniform p state p.bytpca p.n).drawn ≡ taken ys) where
    -- there are n of them
    drawn_size : length ys ≡ p.n
    drawn_size = uniform_length p state p.bytpca p.n ys u

    -- they are residues
    drawn_below : (k : ℕ) → at ys k < p.q
    unfolding numbers
    drawn_below k =
        let some : 0 < p.q = omega (arith, (listed_rules p known).prime.above) in
        rw u at (uniform_below p state p.bytpca p.n some k)

    -- the numbers drawn may be sent
    pub drawn_placed : Placed p 2 p.n (take 0 y ++ (ys ++ drop (p.n - 0) (drop 0 y)))
    drawn_placed =
        subst (Placed p 2 p.n) (sym (over_lent y 0 ys p.n (omega (arith, drawn_size))))
        (rw drawn_size at (front_placed p 2 y ys size (rw drawn_size polynomial_fits) (record { each = λ k h. drawn_below k })))

    -- and are what is sent
    pub drawn_front : take p.n (take 0 y ++ (ys ++ drop (p.n - 0) (drop 0 y))) ≡ ys
    drawn_front =
        ap (take p.n) (over_lent y 0 ys p.n (omega (arith, drawn_size)))
        ∙ rw drawn_size at (front y ys (rw (drawn_size, size) polynomial_fits))

    -- so what is sent is what the draw took
    pub drawn_sent : (exit : List ℕ) → exit ≡ sent p 2 (take p.n (take 0 y ++ (ys ++ drop (p.n - 0) (drop 0 y))))
        → (xs : List ℕ) → (uniform p state p.bytpca p.n).drawn ≡ taken xs → exit ≡ sent p 2 xs
    drawn_sent exit s xs v =
        let same : ys ≡ xs = cc in
        s ∙ ap (sent p 2) (drawn_front ∙ same)

-- the products of the first i polynomials, all of them sent, one added to the other
abbrev product_total : Parameters → List ℕ → List ℕ → ℕ → List ℕ
product_total p seed ms i = totals p.q (transform_size_of p 2) i (λ j. sent p 2 (vector (p.k + 1) ms j)) (λ j. sent p 2 (public_polynomial p seed j))

-- the products of the first i polynomials are added up
pub record Adding (p : Parameters) (seed ms : List ℕ) (size : ℕ) (total x y : List ℕ) (counter i : ℕ) : Type 0 where
  pub total_size : length total ≡ size
  pub within : i ≤ p.t
  pub drawn : all_taken i (public_drawn p seed) ≡ true
  pub reached : state_at seed counter ≡ public_state p seed i
  pub sum : total ≡ product_total p seed ms i
  pub x_size : length x ≡ transform_size_of p 2
  pub y_size : length y ≡ transform_size_of p 2

-- one public polynomial is drawn and sent
pub record PolynomialSent (p : Parameters) (seed : List ℕ) (i : ℕ) (next : State) (y : List ℕ) : Type 0 where
  pub is_taken_lem : is_taken (public_drawn p seed i) ≡ true
  pub reached : next ≡ public_state p seed (i + 1)
  pub y_is : y ≡ sent p 2 (public_polynomial p seed i)

module _ (p : Parameters) (known : Listed p) (seed ms : List ℕ) where
  -- before the first polynomial
  pub adding_none : (total x y : List ℕ) → total ≡ replicate (transform_size_of p 2) 0 → length x ≡ transform_size_of p 2
      → length y ≡ transform_size_of p 2 → Adding p seed ms (length total) total x y 0 0
  unfolding public_state
  adding_none total x y zeros xs ys =
      record {
        total_size = refl;
        within = omega arith;
        drawn = all_taken_none (public_drawn p seed);
        reached = refl;
        sum = zeros ∙ sym (totals_none p.q (transform_size_of p 2) _ _ (omega (arith, (listed_rules p known).prime.above)));
        x_size = xs;
        y_size = ys;
      }

  -- the counter stays small
  pub counter_small : ByteRules p → {counter i : ℕ} → i ≤ p.t → state_at seed counter ≡ public_state p seed i → counter < 2 ^ 31
  counter_small bytes {i = i} h reached =
      omega (arith, ap (λ (s : State). s.counter) reached, public_state_small p (listed_rules p known) bytes seed i h)

  module _ (state : State) (i : ℕ) (reached : state ≡ public_state p seed i) where
    -- the draw from the state reached is that of polynomial i
    draw_is : public_drawn p seed i ≡ (uniform p state p.bytpca p.n).drawn
    unfolding public_drawn
    draw_is = ap (λ (s : State). (uniform p s p.bytpca p.n).drawn) (sym reached)

    -- an answer with a state: polynomial i is drawn and sent
    pub polynomial_sent : (next : State) (y : List ℕ) → uniform_answer p state p.bytpca p.n ≡ onto next
        → ((xs : List ℕ) → (uniform p state p.bytpca p.n).drawn ≡ taken xs → y ≡ sent p 2 xs) → PolynomialSent p seed i next y
    unfolding public_state public_polynomial numbers
    polynomial_sent next y answer result =
        let o = answer_onto p state p.bytpca p.n next answer in
        let is : public_drawn p seed i ≡ taken o.xs = draw_is ∙ o.drawn_is in
        record {
          is_taken_lem = rw is;
          reached = o.next_is ∙ rw (add-one, reached);
          y_is = rw is (result o.xs o.drawn_is);
        }

    -- a refused draw refuses all with its number
    pub polynomial_refused : (number : ℕ) → ByteRules p → i < p.t → uniform_answer p state p.bytpca p.n ≡ refusal number
        → refused number 0 ≡ refuse (not (all_taken p.t (public_drawn p seed))) 5 0 accepted
    polynomial_refused number bytes h answer =
        let none = answer_refusal p state p.bytpca p.n bytes.some_bytpca number answer in
        let one = not_taken (public_drawn p seed i) (λ xs d. none.1 xs (sym draw_is ∙ d)) in
        rw (all_taken_false p.t (public_drawn p seed) i h one, none.0)

  -- one polynomial more
  pub adding_more : {size : ℕ} {total x₀ y₀ : List ℕ} {counter i : ℕ} (new x y : List ℕ) (next : ℕ) → Adding p seed ms size total x₀ y₀ counter i
      → i < p.t → PolynomialSent p seed i (state_at seed next) y → SentScaled p 2 (vector (p.k + 1) ms i) x
      → new ≡ accumulated p.q total (unscaled p.q x) y → Adding p seed ms size new x y next (i + 1)
  adding_more {total = total} {i = i} new x y next a h s scaled made =
      record {
        total_size = ap length made ∙ accumulated_length p.q total _ y ∙ a.total_size;
        within = omega arith;
        drawn = all_taken_more i (public_drawn p seed) a.drawn s.is_taken_lem;
        reached = s.reached;
        sum =
            made ∙ rw (a.sum, scaled.unscaled_is, s.y_is)
            (totals_more p.q (transform_size_of p 2) (λ j. sent p 2 (vector (p.k + 1) ms j)) (λ j. sent p 2 (public_polynomial p seed j)) i);
        x_size = scaled.placed.size;
        y_size = rw s.y_is (sent_placed p known 2 _).size;
      }

  -- the total and the vectors of one turn may be accumulated
  pub adding_addends : {size : ℕ} {total x₀ y₀ x y : List ℕ} {counter i : ℕ}
      → Adding p seed ms size total x₀ y₀ counter i → SentScaled p 2 (vector (p.k + 1) ms i) x → y ≡ sent p 2 (public_polynomial p seed i)
      → (length x ≡ length total) × (length y ≡ length total) × AllBelow p.q (length total) total × AllBelow p.q (length total) x
  adding_addends {total = total} {y = y} {i = i} a scaled y_is =
      let stored : Stored p 2 total =
      rw a.sum (totals_placed p known 2 i (λ j. sent p 2 (vector (p.k + 1) ms j)) (λ j. sent p 2 (public_polynomial p seed j))) in
      let other : Stored p 2 y = rw y_is (sent_placed p known 2 (public_polynomial p seed i)) in
      addends p known 2 stored scaled.placed other

  -- after the last polynomial
  pub adding_all : {size : ℕ} {total x y : List ℕ} {counter i : ℕ} → Adding p seed ms size total x y counter i → p.t ≤ i
      → (accepted ≡ refuse (not (all_taken p.t (public_drawn p seed))) 5 0 accepted) × (accepted ≡ accepted → total ≡ product_total p seed ms p.t)
  adding_all {i = i} a h =
      let all : i ≡ p.t = omega arith in
      (rw (rw all at a.drawn), λ e. rw all at a.sum)

  -- a public polynomial has n numbers
  polynomial_length : all_taken p.t (public_drawn p seed) ≡ true → (i : ℕ) → i < p.t → length (public_polynomial p seed i) ≡ p.n
  unfolding public_drawn public_polynomial
  polynomial_length all i h =
      uniform_length p (public_state p seed i) p.bytpca p.n _
      (taken_numbers (public_drawn p seed i) (all_taken_each p.t (public_drawn p seed) all i h))

  -- all products added up are what is sent of c1'
  pub first_sent : Multipliers p ms → all_taken p.t (public_drawn p seed) ≡ true
      → product_total p seed ms p.t ≡ sent p 2 (first_numbers p (λ i. vector (p.k + 1) ms i) (public_polynomial p seed))
  unfolding first_numbers
  first_sent m all =
      totals_sent p known 2 p.t (λ i. vector (p.k + 1) ms i) (public_polynomial p seed) (p.n + p.k)
      (omega (arith, second_size p, (listed_rules p known).holds2))
      (λ j h.
      let one : length (vector (p.k + 1) ms j) ≡ p.k + 1 =
      region_length ms ((p.k + 1) * j) (p.k + 1) (omega (arith, m.size, (vector_room p known j h).within)) in
      omega (arith, polynomial_length all j h))

  -- each number of the total has the bits of a packed number
  pub total_digits : (total : List ℕ) → total ≡ product_total p seed ms p.t → Digit p.width total
  total_digits total made =
      let stored : Stored p 2 total =
      rw made (totals_placed p known 2 p.t (λ j. sent p 2 (vector (p.k + 1) ms j)) (λ j. sent p 2 (public_polynomial p seed j))) in
      residue_digits p total (listed_rules p known) (rw stored.size stored.residues)

  -- packed, they are the first part
  pub first_packed : (total : List ℕ) (len : ℕ) → Multipliers p ms → all_taken p.t (public_drawn p seed) ≡ true → len ≡ first_bytes_of p
      → total ≡ product_total p seed ms p.t → pack p.width len total ≡ packed_first p seed ms
  unfolding packed_first
  first_packed total len m all l made = rw (l, made, first_sent m all)
