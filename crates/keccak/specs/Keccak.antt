-- The step mappings of FIPS 202 section 3.2 (algorithms 1 to 4 and 6) lane by lane, the round and its repetition of section 3.3 (algorithm 7),
-- and Keccak-f[1600] of section 3.4.
-- Assumes nothing.
use Rattle.std.specs.Prelude.{List, [], ◌∷◌, ℕ, zero, suc, ◌+◌, ◌*◌, ◌%◌}
use Rattle.maths.specs.Vector.{at}
use Rattle.keccak.specs.Lane.{◌⊕◌, ◌·◌, complement, rotl, five, lane, state, put}

-- algorithm 1, step 1: the parities of the five columns
unfoldable pub C : List (List ℕ) → List ℕ
C a = five (λ x. lane a x 0 ⊕ lane a x 1 ⊕ lane a x 2 ⊕ lane a x 3 ⊕ lane a x 4)

-- algorithm 1, step 2: what a column takes from those at x − 1 and x + 1
unfoldable pub D : List ℕ → List ℕ
D c = five (λ x. at c ((x + 4) % 5) ⊕ rotl 1 (at c ((x + 1) % 5)))

-- algorithm 1, step 3: each lane takes what its column takes
unfoldable pub θ : List (List ℕ) → List (List ℕ)
θ a = let d = D (C a) in state (λ x y. lane a x y ⊕ at d x)

-- the offsets of algorithm 2 modulo 64, A[0, y] .. A[4, y] in row y
unfoldable pub offsets : List (List ℕ)
offsets =
    (0 ∷ 1 ∷ 62 ∷ 28 ∷ 27 ∷ [])
    ∷ (36 ∷ 44 ∷ 6 ∷ 55 ∷ 20 ∷ [])
    ∷ (3 ∷ 10 ∷ 43 ∷ 25 ∷ 39 ∷ [])
    ∷ (41 ∷ 45 ∷ 15 ∷ 21 ∷ 8 ∷ [])
    ∷ (18 ∷ 2 ∷ 61 ∷ 56 ∷ 14 ∷ [])
    ∷ []

-- algorithm 2: each lane is rotated by its offset
unfoldable pub ρ : List (List ℕ) → List (List ℕ)
ρ a = state (λ x y. rotl (lane offsets x y) (lane a x y))

-- algorithm 3: the lanes change places
unfoldable pub π : List (List ℕ) → List (List ℕ)
π a = state (λ x y. lane a ((x + 3 * y) % 5) x)

-- algorithm 4: each lane takes the complement of its neighbour at x + 1 times that at x + 2
unfoldable pub χ : List (List ℕ) → List (List ℕ)
χ a = state (λ x y. lane a x y ⊕ complement (lane a ((x + 1) % 5) y) · lane a ((x + 2) % 5) y)

-- what algorithm 6, steps 2 and 3, makes for the rounds 0 to 23
unfoldable pub round_constants : List ℕ
round_constants =
    0x0000000000000001
    ∷ 0x0000000000008082
    ∷ 0x800000000000808A
    ∷ 0x8000000080008000
    ∷ 0x000000000000808B
    ∷ 0x0000000080000001
    ∷ 0x8000000080008081
    ∷ 0x8000000000008009
    ∷ 0x000000000000008A
    ∷ 0x0000000000000088
    ∷ 0x0000000080008009
    ∷ 0x000000008000000A
    ∷ 0x000000008000808B
    ∷ 0x800000000000008B
    ∷ 0x8000000000008089
    ∷ 0x8000000000008003
    ∷ 0x8000000000008002
    ∷ 0x8000000000000080
    ∷ 0x000000000000800A
    ∷ 0x800000008000000A
    ∷ 0x8000000080008081
    ∷ 0x8000000000008080
    ∷ 0x0000000080000001
    ∷ 0x8000000080008008
    ∷ []

-- the constant RC of a round
unfoldable pub RC : ℕ → ℕ
RC i = at round_constants i

-- algorithm 6, steps 1 and 4: the constant goes into A[0, 0], and the other lanes stay
unfoldable pub ι : List (List ℕ) → ℕ → List (List ℕ)
ι a rc = put 0 0 (lane a 0 0 ⊕ rc) a

-- section 3.3: the round of index i
unfoldable pub Rnd : List (List ℕ) → ℕ → List (List ℕ)
Rnd a i = ι (χ (π (ρ (θ a)))) (RC i)

-- algorithm 7, step 2: the first n rounds
unfoldable pub rounds : ℕ → List (List ℕ) → List (List ℕ)
rounds zero a = a
rounds (suc n) a = Rnd (rounds n a) n

-- section 3.4: Keccak-f[1600] has 24 rounds
unfoldable pub keccak_f : List (List ℕ) → List (List ℕ)
keccak_f a = rounds 24 a
