-- SP 800-185 over bytes: the encodings of section 2.3, cSHAKE256 of section 3 with a function's name, KMAC256 and KMACXOF256 of section 4.
-- Assumes nothing.
use Rattle.std.specs.Prelude.{cond, List, [], ◌∷◌, ◌++◌, ℕ, zero, suc, ◌*◌, ◌/◌, ◌%◌, ◌-◌, ltb, length, replicate}
use Rattle.sponge.specs.Sponge.{sponge}

-- section 2.3.1, steps 1 and 2: the base-256 digits of x, the highest first, with no zero in front of them; at most n base256
unfoldable pub base256 : ℕ → ℕ → List ℕ
base256 zero x = []
base256 (suc n) x = cond (ltb x 256) (x ∷ []) (base256 n (x / 256) ++ ((x % 256) ∷ []))

-- section 2.3.1: left_encode, for x below 2 ^ 2040
unfoldable pub left_encode : ℕ → List ℕ
left_encode x = length (base256 255 x) ∷ base256 255 x

-- section 2.3.1: right_encode, for x below 2 ^ 2040
unfoldable pub right_encode : ℕ → List ℕ
right_encode x = base256 255 x ++ (length (base256 255 x) ∷ [])

-- section 2.3.2: encode_string, with the string's length in bits
unfoldable pub encode_string : List ℕ → List ℕ
encode_string s = left_encode (8 * length s) ++ s

-- section 2.3.3, step 3: z with zero bytes up to a multiple of w
unfoldable pub fill_up_of : List ℕ → ℕ → List ℕ
fill_up_of z w = z ++ replicate ((w - length z % w) % w) 0

-- section 2.3.3: bytepad
unfoldable pub bytepad : List ℕ → ℕ → List ℕ
bytepad x w = fill_up_of (left_encode w ++ x) w

-- section 3.3: cSHAKE256 of x with a function's name n that is not empty and a customization s, d bytes; it appends the bits 00
unfoldable pub cshake256 : List ℕ → ℕ → List ℕ → List ℕ → List ℕ
cshake256 x d n s = sponge 0x04 (bytepad (encode_string n ++ encode_string s) 136 ++ x) d

-- section 4.2: the function's name, "KMAC"
unfoldable pub name : List ℕ
name = 0x4b ∷ 0x4d ∷ 0x41 ∷ 0x43 ∷ []

-- section 4.3: what the two functions share; bits is what right_encode is given
unfoldable pub kmac_of : List ℕ → List ℕ → List ℕ → ℕ → ℕ → List ℕ
kmac_of key input customization bits d = cshake256 (bytepad (encode_string key) 136 ++ input ++ right_encode bits) d name customization

-- section 4.3: KMAC256, d bytes; the output's length in bits is encoded
unfoldable pub kmac256 : List ℕ → List ℕ → List ℕ → ℕ → List ℕ
kmac256 key input customization d = kmac_of key input customization (8 * d) d

-- section 4.3.1: KMACXOF256, d bytes; 0 is encoded
unfoldable pub kmacxof256 : List ℕ → List ℕ → List ℕ → ℕ → List ℕ
kmacxof256 key input customization d = kmac_of key input customization 0 d
