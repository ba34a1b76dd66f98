-- The sponge of FIPS 202 section 4 over bytes, at the rate of 136 bytes that a capacity of 512 bits leaves, and SHAKE256 of section 6.2.
-- A byte stands for eight bits, the lowest first (appendix B.1); the lane A[x, y] is lane x + 5y of a block (section 3.1.2).
-- Assumes nothing.
use Rattle.std.specs.Prelude.{List, [], ◌∷◌, ◌++◌, ℕ, zero, suc, ◌+◌, ◌*◌, ◌/◌, ◌%◌, ◌-◌, length, take, drop, replicate}
use Rattle.maths.specs.Bytes.{little_endian, bytes_of}
use Rattle.calls.specs.Region.{region}
use Rattle.keccak.specs.Lane.{◌⊕◌, lane, state}
use Rattle.keccak.specs.Keccak.{keccak_f}

-- lane i of a block of bytes, and 0 past the block's end
unfoldable pub lane_of : List ℕ → ℕ → ℕ
lane_of block i = little_endian (take 8 (drop (8 * i) block))

-- algorithm 8, step 6: S ⊕ (P || 0^c)
unfoldable pub mixed : List (List ℕ) → List ℕ → List (List ℕ)
mixed a block = state (λ x y. lane a x y ⊕ lane_of block (x + 5 * y))

-- algorithm 8, steps 4 to 6: the state S after the first n blocks of p
unfoldable pub absorbed : List ℕ → ℕ → List (List ℕ)
absorbed p zero = state (λ x y. 0)
absorbed p (suc n) = keccak_f (mixed (absorbed p n) (region p (136 * n) 136))

-- the first n lanes of a state as bytes
unfoldable pub lanes : List (List ℕ) → ℕ → List ℕ
lanes s zero = []
lanes s (suc n) = lanes s n ++ bytes_of 8 (lane s (n % 5) (n / 5))

-- algorithm 8, step 10: the state after n more permutations
unfoldable pub permuted : List (List ℕ) → ℕ → List (List ℕ)
permuted s zero = s
permuted s (suc n) = keccak_f (permuted s n)

-- algorithm 8, steps 7 to 10: Z after n turns, each of which appends the 17 lanes of Trunc_r(S)
unfoldable pub squeezed : List (List ℕ) → ℕ → List ℕ
squeezed s zero = []
squeezed s (suc n) = squeezed s n ++ lanes (permuted s n) 17

-- algorithm 9, pad10*1 on whole bytes (appendix B.2, table 6): q bytes, of which the first has the bits of the domain and the first 1, the last the final 1
unfoldable pub padding : ℕ → ℕ → List ℕ
padding suffix zero = []
padding suffix (suc zero) = (suffix + 0x80) ∷ []
padding suffix (suc (suc n)) = suffix ∷ (replicate n 0 ++ (0x80 ∷ []))

-- algorithm 8, step 1: the message with its padding
unfoldable pub padded : ℕ → List ℕ → List ℕ
padded suffix m = m ++ padding suffix (136 - length m % 136)

-- algorithm 8: d bytes from a message m and a domain's suffix
unfoldable pub sponge : ℕ → List ℕ → ℕ → List ℕ
sponge suffix m d = take d (squeezed (absorbed (padded suffix m) (length (padded suffix m) / 136)) (d / 136 + 1))

-- section 6.2: SHAKE256 appends the bits 1111
unfoldable pub shake256 : List ℕ → ℕ → List ℕ
shake256 m d = sponge 0x1f m d
