-- From the bytes back to the numbers: a public key and a ciphertext give what went into them (003, algorithms 1 to 3, lines that pack and unpack).
-- Assumes nothing.
use mathlib.Core.Path.{◌≡◌, sym, ap, ◌∙◌}
use mathlib.Core.List.{List, map}
use Prim.Native.Nat.{ℕ, ◌+◌, ◌-◌, ◌*◌, ◌≤◌, ◌<◌}
use native.Mathlib.Nat.{mod-lt}
use native.Mathlib.Decide.{dec_lt}
use native.Mathlib.Omega.{arith}
use lib.ListN.{length, length-append}
use lib.Seq.{take_at, drop_at}
use Rattle.maths.specs.Vector.{at}
use Rattle.maths.proofs.Vector.{at_past, map_at}
use Rattle.maths.specs.Transform.{send}
use Rattle.maths.proofs.Transform.{send_length, send_at, recover_send, recover_send_inverse}
use Rattle.calls.specs.Region.{vector, joined}
use Rattle.calls.proofs.Region.{joined_length, vector_joined, joined_each}
use Rattle.sets.specs.declared.Parameters.{Parameters}
use Rattle.sets.specs.Derived.{transform_root, packed_bytes_of, public_key_bytes_of, cpa_ciphertext_bytes_of}
use Rattle.packing.specs.Digits.{pack, unpack, Digit}
use Rattle.packing.specs.Dropped.{chop, pack_dropping_of, unpack_dropped_of}
use Rattle.packing.proofs.Laws.{unpack_pack, pack_length, unpack_dropped_pack_dropping, pack_dropping_length}
use Rattle.ntt_products.specs.Stored.{row_count, root_inverse_of, sent, sent_inverse, recovered_inverse, recovered}
use Rattle.byte_source.specs.Source.{initial, output}
use Rattle.byte_source.proofs.Laws.{output_length}
use Rattle.scheme.specs.Encryption.{secret_seed, public_seed, public_polynomial, public_vector, public_key, key_seed, key_numbers, key_polynomial}
use Rattle.scheme.specs.Encryption.{multiplier_vector, first_numbers, encrypted_numbers, first_bytes_of, second_bytes, ciphertext, cipher_first, cipher_second}
use Rattle.scheme.specs.Conditions.{Conditions}
use Rattle.scheme.proofs.Conditions.{positive, root, size1, size2}
use Rattle.scheme.proofs.Places.{public_vector_length, public_vector_at, first_numbers_length, first_numbers_at}
use Rattle.scheme.proofs.Places.{encrypted_numbers_length, encrypted_numbers_at}

-- the bytes of packed numbers hold all their bits
packed_fits : (count bits : ℕ) → bits * count ≤ 8 * packed_bytes_of count bits
unfolding packed_bytes_of
packed_fits count bits = omega arith

-- what is unpacked is what was packed, where count is how many numbers there are
unpack_packed : (width count : ℕ) (xs : List ℕ) → length xs ≡ count → Digit width xs → unpack width count (pack width (packed_bytes_of count width) xs) ≡ xs
unpack_packed width count xs size digit =
    ap (λ (n : ℕ). unpack width n (pack width (packed_bytes_of count width) xs)) (sym size)
    ∙ unpack_pack width (packed_bytes_of count width) xs digit (rw size (packed_fits count width))

-- the same where low bits are dropped
unpack_dropped_lem : (width cmp count : ℕ) (xs : List ℕ) → length xs ≡ count → cmp ≤ width → Digit width xs
    → unpack_dropped_of width cmp count (pack_dropping_of width cmp (packed_bytes_of count (width - cmp)) xs) ≡ map (chop cmp) xs
unpack_dropped_lem width cmp count xs size kept digit =
    ap (λ (n : ℕ). unpack_dropped_of width cmp n (pack_dropping_of width cmp (packed_bytes_of count (width - cmp)) xs)) (sym size)
    ∙ unpack_dropped_pack_dropping width cmp (packed_bytes_of count (width - cmp)) xs kept digit (rw size (packed_fits count (width - cmp)))

-- numbers that are below b at their places are so everywhere
pub below_everywhere : (n b : ℕ) (xs : List ℕ) → 0 < b → length xs ≡ n → ((j : ℕ) → j < n → at xs j < b) → (j : ℕ) → at xs j < b
below_everywhere n b xs some size below j =
    elim (dec_lt j n) [
      | yes inside ↦ below j inside
      | no past ↦ rw (at_past xs j (omega arith)) some
    ]

-- a seed has 32 bytes
pub secret_seed_length : (p : Parameters) (seed : List ℕ) → length (secret_seed p seed) ≡ 32
unfolding secret_seed
secret_seed_length p seed = output_length p (initial seed) 32

pub public_seed_length : (p : Parameters) (seed : List ℕ) → length (public_seed p seed) ≡ 32
unfolding public_seed
public_seed_length p seed = output_length p (output p (initial seed) 32).next 32

module _ {p : Parameters} (c : Conditions p) where
  -- residues have width bits
  residues_digit : (xs : List ℕ) → ((j : ℕ) → at xs j < p.q) → Digit p.width xs
  residues_digit xs below j = omega (arith, below j, c.rules.width_enough)

  -- d residues packed and unpacked as c2 is: each without its low cmp bits
  pub second_at : (xs : List ℕ) → length xs ≡ p.d → ((j : ℕ) → at xs j < p.q) → (j : ℕ) → j < p.d
      → at (unpack_dropped_of p.width p.cmp p.d (pack_dropping_of p.width p.cmp (second_bytes p) xs)) j ≡ chop p.cmp (at xs j)
  unfolding second_bytes
  second_at xs size below j h =
      rw (unpack_dropped_lem p.width p.cmp p.d xs size (omega (arith, c.rules.kept)) (residues_digit xs below)) (map_at (chop p.cmp) xs j (rw size h))

  -- a vector as it is stored holds residues
  send_below : (i w : ℕ) (xs : List ℕ) (j : ℕ) → at (send p.q p.row (row_count p i) w xs) j < p.q
  send_below i w xs =
      below_everywhere (row_count p i * p.row) p.q (send p.q p.row (row_count p i) w xs) (positive c) (send_length p.q p.row (row_count p i) w xs)
      (λ j h. rw (send_at p.q p.row (row_count p i) w xs j h) (mod-lt _ (positive c)))

  -- the sizes of b̂_i and of ĉ1
  sent_inverse_length : (xs : List ℕ) → length (sent_inverse p 1 xs) ≡ p.d1
  unfolding sent_inverse
  sent_inverse_length xs = send_length p.q p.row (row_count p 1) (root_inverse_of p 1) xs ∙ size1 c

  sent_length : (xs : List ℕ) → length (sent p 2 xs) ≡ p.d2
  unfolding sent
  sent_length xs = send_length p.q p.row (row_count p 2) (transform_root p 2) xs ∙ size2 c

  -- they hold residues
  sent_inverse_below : (xs : List ℕ) (j : ℕ) → at (sent_inverse p 1 xs) j < p.q
  unfolding sent_inverse
  sent_inverse_below xs j = send_below 1 (root_inverse_of p 1) xs j

  sent_below : (xs : List ℕ) (j : ℕ) → at (sent p 2 xs) j < p.q
  unfolding sent
  sent_below xs j = send_below 2 (transform_root p 2) xs j

  -- what is stored comes back
  recovered_inverse_sent_inverse : (m : ℕ) (xs : List ℕ) → length xs ≡ m → m ≤ p.d1 → ((j : ℕ) → j < m → at xs j < p.q)
      → recovered_inverse p 1 m (sent_inverse p 1 xs) ≡ xs
  unfolding recovered_inverse sent_inverse
  recovered_inverse_sent_inverse m xs size fits below = recover_send_inverse p.row (row_count p 1) (root c 1) m xs size (rw (size1 c) fits) below

  recovered_sent : (m : ℕ) (xs : List ℕ) → length xs ≡ m → m ≤ p.d2 → ((j : ℕ) → j < m → at xs j < p.q) → recovered p 2 m (sent p 2 xs) ≡ xs
  unfolding recovered sent
  recovered_sent m xs size fits below = recover_send p.row (row_count p 2) (root c 2) m xs size (rw (size2 c) fits) below

  module _ (seed : List ℕ) where
    -- b̂_i as it is stored in a public key
    abbrev stored : ℕ → List ℕ
    stored i = sent_inverse p 1 (public_vector p (secret_seed p seed) (public_seed p seed) i)

    -- how many bytes a public key has
    pub public_key_length : length (public_key p seed) ≡ public_key_bytes_of p
    unfolding public_key public_key_bytes_of
    public_key_length = rw (length-append, public_seed_length p seed, pack_length)

    -- the seed in a public key
    pub key_seed_back : key_seed (public_key p seed) ≡ public_seed p seed
    unfolding key_seed public_key
    key_seed_back = take_at (public_seed p seed) _ 32 (public_seed_length p seed)

    -- the numbers in a public key
    key_numbers_back : key_numbers p (public_key p seed) ≡ joined p.t stored
    unfolding key_numbers public_key
    key_numbers_back =
        ap (unpack p.width (p.d1 * p.t)) (drop_at (public_seed p seed) _ 32 (public_seed_length p seed))
        ∙ unpack_packed p.width (p.d1 * p.t) (joined p.t stored) (joined_length p.d1 p.t stored (λ i h. sent_inverse_length _))
        (residues_digit (joined p.t stored) (joined_each (λ x. x < p.q) 0 (positive c) p.t stored (λ i j h. sent_inverse_below _ j)))

    -- they are residues
    pub key_numbers_below : (j : ℕ) → at (key_numbers p (public_key p seed)) j < p.q
    key_numbers_below j = rw key_numbers_back (joined_each (λ x. x < p.q) 0 (positive c) p.t stored (λ i j h. sent_inverse_below _ j) j)

    -- b̂_i in a public key
    key_vector_back : (i : ℕ) → i < p.t → vector p.d1 (key_numbers p (public_key p seed)) i ≡ stored i
    key_vector_back i h = rw key_numbers_back (vector_joined p.d1 p.t stored (λ i h. sent_inverse_length _) i h)

    -- b_i from a public key
    pub key_polynomial_back : (i : ℕ) → i < p.t → key_polynomial p (public_key p seed) i ≡ public_vector p (secret_seed p seed) (public_seed p seed) i
    unfolding key_polynomial
    key_polynomial_back i h =
        ap (recovered_inverse p 1 (p.d + p.k)) (key_vector_back i h)
        ∙ recovered_inverse_sent_inverse (p.d + p.k) _ (public_vector_length p (secret_seed p seed) (public_seed p seed) i) c.rules.holds1
        (λ j l. rw (public_vector_at p (secret_seed p seed) (public_seed p seed) i j l) (mod-lt _ (positive c)))

  module _ (pk message seedr : List ℕ) where
    -- how many bytes a ciphertext has
    pub ciphertext_length : length (ciphertext p pk message seedr) ≡ cpa_ciphertext_bytes_of p
    unfolding ciphertext first_bytes_of second_bytes cpa_ciphertext_bytes_of
    ciphertext_length = rw (length-append, pack_length, pack_dropping_length)

    -- ĉ1 from a ciphertext
    pub cipher_first_back :
        cipher_first p (ciphertext p pk message seedr)
        ≡ sent p 2 (first_numbers p (multiplier_vector p seedr) (public_polynomial p (key_seed pk)))
    unfolding cipher_first ciphertext first_bytes_of
    cipher_first_back =
        let first : List ℕ = first_numbers p (multiplier_vector p seedr) (public_polynomial p (key_seed pk)) in
        ap (unpack p.width p.d2)
        (take_at (pack p.width (packed_bytes_of p.d2 p.width) (sent p 2 first)) _ (packed_bytes_of p.d2 p.width) (pack_length p.width _ _))
        ∙ unpack_packed p.width p.d2 (sent p 2 first) (sent_length first) (residues_digit (sent p 2 first) (sent_below first))

    -- its numbers are residues
    pub cipher_first_below : (j : ℕ) → at (cipher_first p (ciphertext p pk message seedr)) j < p.q
    cipher_first_below j = rw cipher_first_back (sent_below _ j)

    -- c1' from a ciphertext
    pub first_numbers_back :
        recovered p 2 (p.n + p.k) (cipher_first p (ciphertext p pk message seedr))
        ≡ first_numbers p (multiplier_vector p seedr) (public_polynomial p (key_seed pk))
    first_numbers_back =
        ap (recovered p 2 (p.n + p.k)) cipher_first_back
        ∙ recovered_sent (p.n + p.k) _ (first_numbers_length p _ _) c.rules.holds2 (λ j l. rw (first_numbers_at p _ _ j l) (mod-lt _ (positive c)))

    -- number j of c2' is a residue
    pub encrypted_numbers_below : (j : ℕ) → at (encrypted_numbers p pk message seedr) j < p.q
    encrypted_numbers_below =
        below_everywhere p.d p.q (encrypted_numbers p pk message seedr) (positive c) (encrypted_numbers_length p pk message seedr)
        (λ j h. rw (encrypted_numbers_at p pk message seedr j h) (mod-lt _ (positive c)))

    -- c2 from a ciphertext: c2' packed and unpacked
    pub cipher_second_unpacked : cipher_second p (ciphertext p pk message seedr)
        ≡ unpack_dropped_of p.width p.cmp p.d (pack_dropping_of p.width p.cmp (second_bytes p) (encrypted_numbers p pk message seedr))
    unfolding cipher_second ciphertext first_bytes_of
    cipher_second_unpacked =
        ap (unpack_dropped_of p.width p.cmp p.d)
        (drop_at (pack p.width (packed_bytes_of p.d2 p.width) _) _ (packed_bytes_of p.d2 p.width) (pack_length p.width _ _))

    -- number j of c2
    pub cipher_second_at : (j : ℕ) → j < p.d
        → at (cipher_second p (ciphertext p pk message seedr)) j ≡ chop p.cmp (at (encrypted_numbers p pk message seedr) j)
    cipher_second_at j h =
        rw cipher_second_unpacked
        (second_at (encrypted_numbers p pk message seedr) (encrypted_numbers_length p pk message seedr) encrypted_numbers_below j h)
