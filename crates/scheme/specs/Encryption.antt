-- Titanium-CPA on bytes: key, encryption and decryption (003, section 2.2.3, algorithms 1 to 3), for the numbers p of a set.
-- Names in the comments are 003's. A draw stands for the numbers it took; that a refused draw refuses the call stands in Answers.antt.
-- Assumes nothing.
use Rattle.std.specs.Prelude.{List, ◌++◌, map, ℕ, ◌+◌, ◌-◌, ◌*◌, ◌%◌, ℤ, take, drop}
use Rattle.maths.specs.Vector.{at, tabulate}
use Rattle.maths.specs.Sum.{sum}
use Rattle.maths.specs.Product.{correlation}
use Rattle.maths.specs.Integer.{residue}
use Rattle.maths.specs.Rounding.{centred_bit}
use Rattle.calls.specs.Region.{vector, joined}
use Rattle.sets.specs.declared.Parameters.{Parameters}
use Rattle.sets.specs.Derived.{half_modulus_of, packed_bytes_of}
use Rattle.packing.specs.Digits.{pack, unpack}
use Rattle.packing.specs.Dropped.{pack_dropping_of, unpack_dropped_of}
use Rattle.packing.specs.Message.{message_bits_of, message_bytes}
use Rattle.draws.specs.Uniform.{numbers}
use Rattle.byte_source.specs.Source.{initial, output}
use Rattle.samplers.specs.Seeded.{secret_drawn, secret_state, public_drawn, errors_drawn, multipliers_drawn}
use Rattle.ntt_products.specs.Stored.{sent, sent_inverse, recovered_inverse, recovered, summed_products}

-- algorithm 1, line 2: seedsk, the first output of the byte source of seedkg
unfoldable pub secret_seed : Parameters → List ℕ → List ℕ
secret_seed p seed = (output p (initial seed) 32).bytes

-- line 3: seedpk, the output after it
unfoldable pub public_seed : Parameters → List ℕ → List ℕ
public_seed p seed = (output p (output p (initial seed) 32).next 32).bytes

-- Samps: ŝ, the secret as it is stored, from seedsk
unfoldable pub stored_secret : Parameters → List ℕ → List ℕ
stored_secret p seedsk = numbers (secret_drawn p seedsk)

-- algorithm 1, line 7: s, the first n + d + k − 1 numbers of what ŝ stores
unfoldable pub secret : Parameters → List ℕ → List ℕ
secret p seedsk = recovered_inverse p 3 (p.n + p.d + p.k - 1) (stored_secret p seedsk)

-- Sampa: ā_i, from seedpk
unfoldable pub public_polynomial : Parameters → List ℕ → ℕ → List ℕ
public_polynomial p seedpk i = numbers (public_drawn p seedpk i)

-- Sampe: e_1, .., e_t, one after the other, from the state that Samps left
unfoldable pub errors : Parameters → List ℕ → List ℤ
errors p seedsk = errors_drawn p (secret_state p seedsk)

-- vector i of a family of whole numbers, as residues
unfoldable pub residue_vector : Parameters → ℕ → List ℤ → ℕ → List ℕ
residue_vector p n zs i = vector n (map (residue p.q) zs) i

-- line 10: b_i = Rev(ā_i) ⊙ s + e_i, d + k numbers
unfoldable pub key_vector_of : Parameters → List ℕ → List ℕ → List ℕ → List ℕ
key_vector_of p a s e = tabulate (p.d + p.k) (λ j. (correlation p.n (at a) (at s) j + at e j) % p.q)

-- b_i from the two seeds
unfoldable pub public_vector : Parameters → List ℕ → List ℕ → ℕ → List ℕ
public_vector p seedsk seedpk i =
    key_vector_of p (public_polynomial p seedpk i) (secret p seedsk) (residue_vector p (p.d + p.k) (errors p seedsk) i)

-- lines 11 and 13: the public key, seedpk and then b̂_1, .., b̂_t packed; b̂_i is b_i stored with the inverse of ω1
unfoldable pub public_key : Parameters → List ℕ → List ℕ
public_key p seed =
    let seedsk = secret_seed p seed in
    let seedpk = public_seed p seed in
    seedpk ++ pack p.width (packed_bytes_of (p.d1 * p.t) p.width) (joined p.t (λ i. sent_inverse p 1 (public_vector p seedsk seedpk i)))

-- algorithm 2, line 2: seedpk and b̂_1, .., b̂_t of a public key
unfoldable pub key_seed : List ℕ → List ℕ
key_seed pk = take 32 pk

unfoldable pub key_numbers : Parameters → List ℕ → List ℕ
key_numbers p pk = unpack p.width (p.d1 * p.t) (drop 32 pk)

-- line 8: b_i, the first d + k numbers of what b̂_i stores
unfoldable pub key_polynomial : Parameters → List ℕ → ℕ → List ℕ
key_polynomial p pk i = recovered_inverse p 1 (p.d + p.k) (vector p.d1 (key_numbers p pk) i)

-- Sampr: r_i as residues, k + 1 numbers, from seedr
unfoldable pub multiplier_vector : Parameters → List ℕ → ℕ → List ℕ
multiplier_vector p seedr i = residue_vector p (p.k + 1) (multipliers_drawn p seedr) i

-- line 6: c1' = the sum of r_i · ā_i, n + k numbers
unfoldable pub first_numbers : Parameters → (ℕ → List ℕ) → (ℕ → List ℕ) → List ℕ
first_numbers p r a = summed_products p.q (p.n + p.k) p.t r a

-- line 9: c2' = the sum of Rev(r_i) ⊙ b_i, plus floor(q / 2) times the message, d numbers
unfoldable pub second_numbers_of : Parameters → (ℕ → List ℕ) → (ℕ → List ℕ) → List ℕ → List ℕ
second_numbers_of p r b m = tabulate p.d (λ j. (sum p.t (λ i. correlation (p.k + 1) (at (r i)) (at (b i)) j) + half_modulus_of p * at m j) % p.q)

-- c2' of a public key, a message and a sealing seed
unfoldable pub encrypted_numbers : Parameters → List ℕ → List ℕ → List ℕ → List ℕ
encrypted_numbers p pk message seedr = second_numbers_of p (multiplier_vector p seedr) (key_polynomial p pk) (message_bits_of p.d message)

-- how many bytes the packed ĉ1 takes, and c2
unfoldable pub first_bytes_of : Parameters → ℕ
first_bytes_of p = packed_bytes_of p.d2 p.width

unfoldable pub second_bytes : Parameters → ℕ
second_bytes p = packed_bytes_of p.d (p.width - p.cmp)

-- lines 7, 10 and 11: the ciphertext, ĉ1 packed, which is c1' stored with ω2, and c2' packed without its low cmp bits
unfoldable pub ciphertext : Parameters → List ℕ → List ℕ → List ℕ → List ℕ
ciphertext p pk message seedr =
    pack p.width (first_bytes_of p) (sent p 2 (first_numbers p (multiplier_vector p seedr) (public_polynomial p (key_seed pk))))
    ++ pack_dropping_of p.width p.cmp (second_bytes p) (encrypted_numbers p pk message seedr)

-- algorithm 3, line 5: ĉ1 and c2 of a ciphertext
unfoldable pub cipher_first : Parameters → List ℕ → List ℕ
cipher_first p ct = unpack p.width p.d2 (take (first_bytes_of p) ct)

unfoldable pub cipher_second : Parameters → List ℕ → List ℕ
cipher_second p ct = unpack_dropped_of p.width p.cmp p.d (drop (first_bytes_of p) ct)

-- lines 6 and 7: place j of c' = c2 − Rev(c1') ⊙ s modulo q, where c1' are the first n + k numbers of what ĉ1 stores
unfoldable pub decrypted_number : Parameters → List ℕ → List ℕ → ℕ → ℕ
decrypted_number p seedsk ct j =
    (at (cipher_second p ct) j + (p.q - correlation (p.n + p.k) (at (recovered p 2 (p.n + p.k) (cipher_first p ct))) (at (secret p seedsk)) j % p.q)) % p.q

-- line 8: the bits read (Round)
unfoldable pub decrypted_bits : Parameters → List ℕ → List ℕ → List ℕ
decrypted_bits p seedsk ct = tabulate p.d (λ j. centred_bit (half_modulus_of p) (decrypted_number p seedsk ct j))

-- line 9: the message read
unfoldable pub decrypted_message : Parameters → List ℕ → List ℕ → List ℕ
decrypted_message p seedsk ct = message_bytes 32 (decrypted_bits p seedsk ct)
