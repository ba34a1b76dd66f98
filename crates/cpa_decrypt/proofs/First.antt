-- The correlations of c1' with the secret, as the transforms give them.
-- Assumes nothing.
use mathlib.Core.Path.{◌≡◌, ap, ◌∙◌}
use mathlib.Core.List.{List}
use Prim.Native.Nat.{ℕ, ◌+◌, ◌-◌, ◌%◌, ◌≤◌, ◌<◌}
use native.Mathlib.Nat.{sub-zero, mod-lt}
use native.Mathlib.Decide.{dec_lt}
use native.Mathlib.Omega.{arith}
use borrow.Author.Tests.{lt-ltb, le-ltb, lt-leb, le-leb}
use lib.Dec.{leb}
use lib.ListN.{length, take, drop}
use lib.Seq.{get_or-take}
use Rattle.maths.specs.Vector.{at, AllBelow}
use Rattle.maths.specs.Product.{correlation}
use Rattle.maths.proofs.Vector.{tabulate_at, tabulate_cong}
use Rattle.maths.proofs.Transform.{recover_length}
use Rattle.calls.specs.Checks.{passing, below}
use Rattle.calls.specs.Region.{over}
use Rattle.calls.proofs.Region.{over_length}
use Rattle.sets.specs.declared.Parameters.{Parameters}
use Rattle.sets.specs.Table.{Listed}
use Rattle.sets.specs.Derived.{transform_size_of}
use Rattle.sets.proofs.Rules.{listed_rules}
use Rattle.sets.proofs.Transforms.{third_size, second_size}
use Rattle.packing.specs.Digits.{unpack}
use Rattle.packing.proofs.Laws.{unpack_length}
use Rattle.ntt_products.specs.Stored.{recovered_inverse, recovered, correlations}
use Rattle.ntt_products.specs.Placed.{Placed}
use Rattle.ntt_products.proofs.Laws.{recovered_inverse_take, recovered_below}
use Rattle.scheme.specs.Encryption.{first_bytes_of, cipher_first}
use Rattle.scheme.specs.Answers.{only_residues}
use Rattle.cpa_decrypt.specs.Decrypted.{first_correlations}
use Rattle.maths.proofs.Product.{correlation_front}
use Rattle.calls.proofs.Parts.{front_first}

-- the test that the code makes of the first number that fails
pub below_test : (q n i : ℕ) (xs : List ℕ) → length xs ≡ n → i ≡ passing (below q) 0 xs → leb n i ≡ only_residues q xs
unfolding only_residues
below_test q n i xs size e =
    rw (← e, size)
    (elim (dec_lt i n) [
      | yes fails ↦ rw (lt-ltb i n fails, lt-leb n i fails)
      | no passes ↦ let all : n ≤ i = omega arith in rw (le-ltb i n all, le-leb n i all)
    ])

module _ (p : Parameters) (stored ct : List ℕ) where
  -- each correlation is a residue
  first_correlations_below : 0 < p.q → AllBelow p.q p.d (first_correlations p stored ct)
  unfolding first_correlations
  first_correlations_below some = record { each = λ j h. rw (tabulate_at p.d _ j h) (mod-lt _ some) }

-- places for the third transform have room for the second
pub second_room : (p : Parameters) → Listed p → (xs : List ℕ) → length xs ≡ transform_size_of p 3 → p.d2 ≤ length xs
second_room p known xs size = rw (size, third_size) (listed_rules p known).rising2

-- ĉ1 from the first bytes of a ciphertext
pub first_unpacked : (p : Parameters) (ct : List ℕ) {n end : ℕ} → n ≡ p.d2 → end ≡ first_bytes_of p
    → unpack p.width n (take (end - 0) (drop 0 ct)) ≡ cipher_first p ct
unfolding cipher_first
first_unpacked p ct e b = rw (sub-zero, e, b)

-- how many numbers ĉ1 has
pub cipher_first_length : (p : Parameters) (ct : List ℕ) → length (cipher_first p ct) ≡ p.d2
unfolding cipher_first
cipher_first_length p ct = unpack_length p.width p.d2 (take (first_bytes_of p) ct)

-- numbers are residues where the front of them is that of the correlations
pub front_below : (p : Parameters) (stored ct xs : List ℕ) → 0 < p.q → take p.d xs ≡ first_correlations p stored ct → AllBelow p.q p.d xs
front_below p stored ct xs some e =
    record { each = λ j h. rw (← get_or-take p.d xs j 0 h, e) ((first_correlations_below p stored ct some).each j h) }

-- c1'
abbrev pub first : Parameters → List ℕ → List ℕ
first p ct = recovered p 2 (p.n + p.k) (cipher_first p ct)

-- the second transform has room for it
pub few : (p : Parameters) → Listed p → p.n + p.k ≤ transform_size_of p 2
few p known = rw second_size (listed_rules p known).holds2

-- x is a buffer with the places of the third transform, to whose front ys, which begin with c1', were recovered
module _ (p : Parameters) (known : Listed p) (x ct ys : List ℕ) (size : length x ≡ transform_size_of p 3) (long : length ys ≡ transform_size_of p 2)
    (made : take (p.n + p.k) ys ≡ first p ct)
  where
    -- the buffer begins with c1'
    buffer_front : take (p.n + p.k) (over x 0 ys) ≡ first p ct
    buffer_front = front_first x ys (p.n + p.k) (rw long (few p known)) ∙ made

    -- so c1' may be sent
    pub buffer_placed : Placed p 3 (p.n + p.k) (over x 0 ys)
    buffer_placed =
        let room = second_room p known x size in
        record {
          size = over_length x 0 ys (omega (arith, room, second_size p)) ∙ size;
          inside = omega (arith, few p known, room, second_size p, size);
          residues =
              record {
                each = λ j h. rw (← get_or-take (p.n + p.k) (over x 0 ys) j 0 h, buffer_front)
                    ((recovered_below p known 2 (p.n + p.k) (cipher_first p ct) (few p known)).each j h);
              };
        }

    -- and its correlations with what is stored are those of the definition
    pub first_correlated : (stored new buffer : List ℕ) (count : ℕ) → buffer ≡ over x 0 ys → count ≡ p.n + p.k
        → take p.d new ≡ correlations p.q (take count buffer) (recovered_inverse p 3 (transform_size_of p 3) stored) p.d
        → take p.d new ≡ first_correlations p stored ct
    unfolding first_correlations correlations
    first_correlated stored new buffer count written counted correlated =
        let kept = listed_rules p known in
        let n = p.n + p.k in
        let m = p.n + p.d + p.k - 1 in
        let c1 = first p ct in
        let within : m ≤ transform_size_of p 3 = rw third_size kept.holds3 in
        let c1-length : length c1 ≡ n = unfold recovered in recover_length _ _ _ _ _ n _ in
        (rw (written, counted) at correlated)
        ∙ rw (buffer_front, c1-length)
        (tabulate_cong p.d _ _ (λ j h. ap (λ (y : ℕ). y % p.q)
        (correlation_front n m j (at c1) (recovered_inverse p 3 (transform_size_of p 3) stored) (omega (arith, kept.some_n))
        ∙ ap (λ (zs : List ℕ). correlation n (at c1) (at zs) j) (recovered_inverse_take p 3 m stored within))))
