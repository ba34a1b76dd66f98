-- Titanium-CCA on bytes: key, encapsulation and decapsulation (003, section 2.3.2, algorithms 29 to 31; G and H, algorithms 32 and 33).
-- Names in the comments are 003's.
-- Assumes nothing.
use Rattle.std.specs.Prelude.{◌≡◌, refl, Bool, true, false, cond, ◌&&◌, List, [], ◌∷◌, ◌++◌, ℕ, eqb, take, drop}
use Rattle.sets.specs.declared.Parameters.{Parameters}
use Rattle.sets.specs.Derived.{cpa_ciphertext_bytes_of}
use Rattle.sponge.specs.Sponge.{shake256}
use Rattle.byte_source.specs.Source.{initial, output}
use Rattle.scheme.specs.Encryption.{secret_seed, public_key, ciphertext, decrypted_message}

-- algorithm 29, line 3: the first output of the byte source of seedkg, of which seedkg.cpa and rdec are the two halves
unfoldable pub expanded_seed : Parameters → List ℕ → List ℕ
expanded_seed p seed = (output p (initial seed) 64).bytes

unfoldable pub inner_seed : Parameters → List ℕ → List ℕ
inner_seed p seed = take 32 (expanded_seed p seed)

unfoldable pub reject_bytes : Parameters → List ℕ → List ℕ
reject_bytes p seed = drop 32 (expanded_seed p seed)

-- lines 4 to 6: the public key, and the secret key, seedkg and then the public key
unfoldable pub exchange_public_key : Parameters → List ℕ → List ℕ
exchange_public_key p seed = public_key p (inner_seed p seed)

unfoldable pub exchange_secret_key : Parameters → List ℕ → List ℕ
exchange_secret_key p seed = seed ++ exchange_public_key p seed

-- G: seedenc.cpa and dcca, the two halves of 64 bytes of SHAKE256
unfoldable pub sealing_seed : List ℕ → List ℕ
sealing_seed message = take 32 (shake256 message 64)

unfoldable pub check_bytes : List ℕ → List ℕ
check_bytes message = drop 32 (shake256 message 64)

-- H: 32 bytes from the message, or the reject bytes, and the whole ciphertext
unfoldable pub shared_hash : List ℕ → List ℕ → List ℕ
shared_hash secret ct = shake256 (secret ++ shake256 ct 64) 32

-- algorithm 30: the ciphertext, ct.cpa and then dcca, and the shared key
unfoldable pub encapsulated : Parameters → List ℕ → List ℕ → List ℕ
encapsulated p pk message = ciphertext p pk message (sealing_seed message) ++ check_bytes message

unfoldable pub shared_key : Parameters → List ℕ → List ℕ → List ℕ
shared_key p pk message = shared_hash message (encapsulated p pk message)

-- whether two lists have the same numbers
unfoldable pub same : List ℕ → List ℕ → Bool
same [] [] = true
same [] (y ∷ ys) = false
same (x ∷ xs) [] = false
same (x ∷ xs) (y ∷ ys) = eqb x y && same xs ys

-- algorithm 31, lines 2 to 8: what is read with a secret key before it is encrypted again
unfoldable pub decapsulated_message : Parameters → List ℕ → List ℕ → List ℕ
decapsulated_message p sk ct = decrypted_message p (secret_seed p (inner_seed p (take 32 sk))) (take (cpa_ciphertext_bytes_of p) ct)

-- lines 9 to 15: what is hashed into the shared key, the message read where encrypting it again gives the ciphertext, else the reject bytes
unfoldable pub hashed_secret : Parameters → List ℕ → List ℕ → List ℕ
hashed_secret p sk ct =
    let message = decapsulated_message p sk ct in
    cond (same (encapsulated p (drop 32 sk) message) ct) message (reject_bytes p (take 32 sk))

-- the shared key of a ciphertext
unfoldable pub decapsulated : Parameters → List ℕ → List ℕ → List ℕ
decapsulated p sk ct = shared_hash (hashed_secret p sk ct) ct

same_example : same (1 ∷ 2 ∷ []) (1 ∷ 2 ∷ []) ≡ true
unfolding same
same_example = refl

same_example₂ : same (1 ∷ 2 ∷ []) (1 ∷ 3 ∷ []) ≡ false
unfolding same
same_example₂ = refl
