-- `keccak::rotate_row` meets its contract, lane by lane.
-- Assumes nothing.
use mathlib.Core.Path.{◌≡◌, sym, ap, ap₂, ◌∙◌}
use mathlib.Core.List.{[], ◌∷◌}
use Prim.Native.Nat.{ℕ, zero, suc, ◌-◌, ◌*◌, ◌/◌, ◌%◌, ◌^◌, ◌<◌}
use native.Mathlib.Nat.{mul-one, div-one, div-eq_of_lt, mod-eq_of_lt}
use native.Mathlib.Omega.{arith}
use borrow.Author.Rules.{rules}
use lib.Bits.{bit_or, or_self, or_zero_r}
use Rattle.std.specs.Int.{w64, rotate_left}
use Rattle.maths.specs.Vector.{at}
use Rattle.keccak.specs.Lane.{rotl}
use Rattle.keccak.proofs.rotate_row.Goals as goal

-- the library rotates as FIPS 202 does
rotated : (n a : ℕ) → n < 64 → a < 2 ^ 64 → rotate_left w64 a n ≡ rotl n a
unfolding rotl
rotated zero a h k =
    let same : a * 2 ^ (0 % 64) % 2 ^ 64 ≡ a = ap (λ (x : ℕ). x % 2 ^ 64) (mul-one a) ∙ mod-eq_of_lt k in
    let none : a / 2 ^ (64 - 0) ≡ 0 = div-eq_of_lt k in
    let all : a / 2 ^ ((64 - 0 % 64) % 64) ≡ a = div-one a in
    ap₂ bit_or same all ∙ or_self a ∙ sym (or_zero_r a) ∙ sym (ap₂ bit_or same none)
rotated (suc m) a h k =
    let n = suc m in
    let left : n % 64 ≡ n = mod-eq_of_lt h in
    let right : (64 - n) % 64 ≡ 64 - n = mod-eq_of_lt (omega arith) in
    ap₂ bit_or (ap (λ (x : ℕ). a * 2 ^ x % 2 ^ 64) left) (ap (λ (x : ℕ). a / 2 ^ x) (ap (λ (x : ℕ). (64 - x) % 64) left ∙ right))

pub returns : goal.returns
returns c =
    let q = c.requires in
    let a = c.args.a in
    λ i.
    (c.rotate_left.ensures ∙ rotated _ (at a 0) q.0 (search rules)) i
    ∷ (c.rotate_left-2.ensures ∙ rotated _ (at a 1) q.1 (search rules)) i
    ∷ (c.rotate_left-3.ensures ∙ rotated _ (at a 2) q.2 (search rules)) i
    ∷ (c.rotate_left-4.ensures ∙ rotated _ (at a 3) q.3 (search rules)) i
    ∷ (c.rotate_left-5.ensures ∙ rotated _ (at a 4) q.4 (search rules)) i
    ∷ []
