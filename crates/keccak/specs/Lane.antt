-- Lanes and states, FIPS 202 section 3.1: a lane is a number below 2 ^ 64 whose digit z is the bit z, and a state is five rows of five lanes.
-- Assumes nothing.
use Rattle.std.specs.Prelude.{List, [], ◌∷◌, ℕ, ◌*◌, ◌/◌, ◌%◌, ◌-◌, ◌^◌, get_or, set}
use Rattle.std.specs.Int.Bits.{bit_xor, bit_and, bit_or}
use Rattle.maths.specs.Vector.{at}

infixl 65 ◌⊕◌
infixl 70 ◌·◌
-- the exclusive or of two lanes
abbrev pub ◌⊕◌ : ℕ → ℕ → ℕ
a ⊕ b = bit_xor a b

-- the product of two lanes, bit by bit
abbrev pub ◌·◌ : ℕ → ℕ → ℕ
a · b = bit_and a b

-- a lane with every bit complemented
abbrev pub complement : ℕ → ℕ
complement a = 2 ^ 64 - 1 - a

-- a lane whose bit z is the bit (z − n) mod 64 of a, for n below 64
unfoldable pub rotl : ℕ → ℕ → ℕ
rotl n a = bit_or (a * 2 ^ n % 2 ^ 64) (a / 2 ^ (64 - n))

-- five things by formula
abbrev pub five {ℓ} : {T : Type ℓ} → (ℕ → T) → List T
five f = f 0 ∷ f 1 ∷ f 2 ∷ f 3 ∷ f 4 ∷ []

-- the lane A[x, y] of a state
abbrev pub lane : List (List ℕ) → ℕ → ℕ → ℕ
lane a x y = at (get_or a y []) x

-- the state whose lane A[x, y] is f x y
abbrev pub state : (ℕ → ℕ → ℕ) → List (List ℕ)
state f = five (λ y. five (λ x. f x y))

-- the state with v at A[x, y]
abbrev pub put : ℕ → ℕ → ℕ → List (List ℕ) → List (List ℕ)
put x y v a = set a y (set (get_or a y []) x v)
