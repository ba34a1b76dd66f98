-- The rules of FIPS 202 behind the two tables: the walk of algorithm 2 gives the offsets, and algorithms 5 and 6 the round constants.
-- Assumes nothing.
use Rattle.std.specs.Prelude.{◌≡◌, refl, List, [], ◌∷◌, ◌++◌, ℕ, zero, suc, ◌+◌, ◌*◌, ◌/◌, ◌%◌, ◌-◌, ◌^◌, take, set}
use Rattle.maths.specs.Vector.{at}
use Rattle.keccak.specs.Lane.{◌⊕◌, state, put}
use Rattle.keccak.specs.Keccak.{offsets, round_constants}

-- algorithm 2, steps 2 and 3b: the lane (x, y) that the walk is at after t steps
abbrev pub walk : ℕ → ℕ × ℕ
walk zero = (1, 0)
walk (suc t) = ((walk t).1, (2 * (walk t).0 + 3 * (walk t).1) % 5)

-- algorithm 2, steps 1 and 3a: the offsets that the first n steps give, and 0 elsewhere
abbrev pub walked : ℕ → List (List ℕ)
walked zero = state (λ x y. 0)
walked (suc t) = put (walk t).0 (walk t).1 ((t + 1) * (t + 2) / 2 % 64) (walked t)

-- the offsets are those of the walk
pub offsets_walked : offsets ≡ walked 24
unfolding offsets
offsets_walked = refl

-- algorithm 5, steps 3b to 3e: the bit R[8] goes into R[k]
abbrev pub tap : ℕ → List ℕ → List ℕ
tap k R = set R k (at R k ⊕ at R 8)

-- algorithm 5, step 3: one turn of the register
abbrev pub turn : List ℕ → List ℕ
turn R = take 8 (tap 6 (tap 5 (tap 4 (tap 0 (0 ∷ R)))))

-- algorithm 5, step 4: the first bit of the register R after 0, 1, .., n − 1 turns
abbrev pub bits : ℕ → List ℕ → List ℕ
bits zero R = []
bits (suc n) R = at R 0 ∷ bits n (turn R)

-- algorithm 5: rc 0, rc 1, .., rc 254, the register of step 2 having the 1 of step 1 for its first bit
abbrev pub rcs : List ℕ
rcs = bits 255 (1 ∷ 0 ∷ 0 ∷ 0 ∷ 0 ∷ 0 ∷ 0 ∷ 0 ∷ [])

-- algorithm 6, steps 2 and 3: the bit 2 ^ j − 1 of the constant of the round i is rc (j + 7 i), for each j below n; rc is given as rcs
abbrev pub constant : List ℕ → ℕ → ℕ → ℕ
constant rc i zero = 0
constant rc i (suc j) = constant rc i j + at rc ((j + 7 * i) % 255) * 2 ^ (2 ^ j - 1)

-- the constants of the first n rounds, with j from 0 to 6
abbrev pub constants : List ℕ → ℕ → List ℕ
constants rc zero = []
constants rc (suc i) = constants rc i ++ (constant rc i 7 ∷ [])

-- the constants are those of the register
pub constants_registered : round_constants ≡ constants rcs 24
unfolding round_constants
constants_registered = refl
