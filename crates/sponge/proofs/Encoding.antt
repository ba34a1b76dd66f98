-- Laws of the encodings of SP 800-185: numbers of up to three digits, and what is fed up to the end of a block.
-- Assumes nothing.
use mathlib.Core.Path.{◌≡◌, refl, ap, subst, ◌∙◌}
use mathlib.Core.List.{List, [], ◌∷◌, ◌++◌, append_assoc}
use Prim.Native.Nat.{ℕ, suc, ◌+◌, ◌/◌, ◌%◌, ◌-◌, ◌≤◌, ◌<◌}
use native.Mathlib.Omega.{arith}
use borrow.Author.Tests.{lt-ltb, le-ltb}
use lib.ListN.{length, take, drop, replicate, length-append, length-drop, length-replicate}
use lib.Seq.{take_all}
use Rattle.std.specs.Int.{w32, to_be_bytes}
use Rattle.calls.specs.Region.{over}
use Rattle.keccak.specs.Keccak.{keccak_f}
use Rattle.sponge.specs.Sponge.{mixed, sponge}
use Rattle.sponge.specs.Kmac.{base256, left_encode, right_encode, encode_string, fill_up_of, bytepad, cshake256, name, kmac_of}
use Rattle.sponge.specs.Absorbed.{Ready, Fed}
use Rattle.sponge.proofs.Absorbing.{fed_none, fed_then, fed_full}

-- the only digit
digits_last : (n x : ℕ) → x < 256 → base256 (suc n) x ≡ x ∷ []
unfolding base256
digits_last n x h = rw (lt-ltb x 256 h)

-- the digits in front, then the lowest
digits_more : (n x : ℕ) → 256 ≤ x → base256 (suc n) x ≡ base256 n (x / 256) ++ ((x % 256) ∷ [])
unfolding base256
digits_more n x h = rw (le-ltb x 256 h)

-- a number of one digit
pub digits_one : (x : ℕ) → x < 256 → base256 255 x ≡ x ∷ []
digits_one x h = digits_last 254 x h

-- a number of two digits
pub digits_two : (x : ℕ) → 256 ≤ x → x / 256 < 256 → base256 255 x ≡ (x / 256) ∷ (x % 256) ∷ []
digits_two x h l = digits_more 254 x h ∙ ap (λ (d : List ℕ). d ++ ((x % 256) ∷ [])) (digits_last 253 (x / 256) l)

-- a number of three digits
pub digits_three : (x : ℕ) → 256 ≤ x / 256 → x / 256 / 256 < 256 → base256 255 x ≡ (x / 256 / 256) ∷ (x / 256 % 256) ∷ (x % 256) ∷ []
digits_three x h l =
    digits_more 254 x (omega arith)
    ∙ ap (λ (d : List ℕ). d ++ ((x % 256) ∷ []))
    (digits_more 253 (x / 256) h ∙ ap (λ (d : List ℕ). d ++ ((x / 256 % 256) ∷ [])) (digits_last 252 (x / 256 / 256) l))

-- the four bytes of a number, the highest first, of which the digits begin with the given one
module _ (x first : ℕ) {bytes : List ℕ} (e : bytes ≡ to_be_bytes w32 x) (d : drop first (to_be_bytes w32 x) ≡ base256 255 x) where
  digits : drop first bytes ≡ base256 255 x
  digits = ap (drop first) e ∙ d

  digits_length : length (drop first bytes) ≡ 4 - first
  digits_length = length-drop first bytes ∙ ap (λ (n : ℕ). n - first) (ap length e)

  -- the number of digits, then the digits
  pub left_parts : (4 - first) ∷ take (4 - first) (drop first bytes) ≡ left_encode x
  unfolding left_encode
  left_parts = rw (take_all (4 - first) (drop first bytes) (omega (arith, digits_length)), ← digits_length, digits)

  -- the digits, then the number of digits
  pub right_parts : take (4 - first) (drop first bytes) ++ ((4 - first) ∷ []) ≡ right_encode x
  unfolding right_encode
  right_parts = rw (take_all (4 - first) (drop first bytes) (omega (arith, digits_length)), ← digits_length, digits)

module _ {a : List (List ℕ)} {block : List ℕ} {at : ℕ} {a' : List (List ℕ)} {block' : List ℕ} {at' : ℕ} where
  -- the same bytes in another form
  pub fed_as : {xs ys : List ℕ} → xs ≡ ys → Fed a block at xs a' block' at' → Fed a block at ys a' block' at'
  fed_as e f = subst (λ (x : List ℕ). Fed a block at x a' block' at') e f

-- no zeros at the start of a block
pub filled_none : {a : List (List ℕ)} {block : List ℕ} {at : ℕ} → Ready block at → at ≡ 0 → Fed a block at (replicate ((136 - at) % 136) 0) a block at
filled_none {at = at} r e = rw e (fed_none (rw e at r))

-- zeros up to the end of a block, which then goes into the state
pub filled_rest : {a : List (List ℕ)} {block : List ℕ} {at : ℕ} (a' : List (List ℕ)) (block' : List ℕ) → Ready block at → (at ≡ 0 → ⊥)
    → block' ≡ over block at (replicate (136 - at) 0) → a' ≡ keccak_f (mixed a block') → Fed a block at (replicate ((136 - at) % 136) 0) a' block' 0
filled_rest {a} {block} {at} a' block' r n w e =
    let k : (136 - at) % 136 ≡ 136 - at = omega (arith, r.below) in
    let l = length-replicate {A = ℕ} (136 - at) 0 in
    rw (k, e, w) (fed_full a block at (replicate (136 - at) 0) r (omega (arith, r.below)))

-- the zeros after what was fed from the start of a block fill it up
pub fed_up : {a : List (List ℕ)} {block : List ℕ} {at : ℕ} {z : List ℕ} {a' : List (List ℕ)} {block' : List ℕ} {at' : ℕ} {a'' : List (List ℕ)}
    {block'' : List ℕ}
    {at'' : ℕ}
    → at ≡ 0 → Fed a block at z a' block' at' → Fed a' block' at' (replicate ((136 - at') % 136) 0) a'' block'' at'' → Fed a block at (fill_up_of z 136) a''
    block'' at''
unfolding fill_up_of
fed_up {at = at} {z = z} {at' = at'} e f g =
    let p : at' ≡ length z % 136 = f.place ∙ ap (λ (k : ℕ). k % 136) (omega arith) in
    fed_as (ap (λ (k : ℕ). z ++ replicate ((136 - k) % 136) 0) p) (fed_then f g)

-- after what was filled up the next block starts
pub filled_place : (z : List ℕ) → length (fill_up_of z 136) % 136 ≡ 0
unfolding fill_up_of
filled_place z = rw length-append (rw length-replicate (omega arith))

-- after bytepad the next block starts
pub padded_place : (x : List ℕ) (at : ℕ) → at ≡ (0 + length (bytepad x 136)) % 136 → at ≡ 0
unfolding bytepad
padded_place x at e = let z = filled_place (left_encode 136 ++ x) in omega arith

-- encode_string of the function's name
name_encoded : encode_string name ≡ 1 ∷ 32 ∷ 0x4b ∷ 0x4d ∷ 0x41 ∷ 0x43 ∷ []
unfolding encode_string left_encode base256 name
name_encoded = refl

-- the parts one after the other
pub kmac_parts : (key input customization : List ℕ) (bits d : ℕ)
    → sponge 0x04 (bytepad ((1 ∷ 32 ∷ 0x4b ∷ 0x4d ∷ 0x41 ∷ 0x43 ∷ []) ++ encode_string customization) 136 ++ bytepad (encode_string key)
    136 ++ input ++ right_encode bits) d
    ≡ kmac_of key input customization bits d
unfolding kmac_of cshake256
kmac_parts key input customization bits d = rw name_encoded (ap (λ (m : List ℕ). sponge 0x04 m d) (simp append_assoc))
