-- `sponge::kmac::first_digit` meets its contract: a number below 2^24 has one, two or three digits.
-- Assumes nothing.
use mathlib.Core.Path.{◌≡◌, sym, ap, ◌∙◌}
use mathlib.Core.List.{[], ◌∷◌}
use Prim.Native.Nat.{ℕ, ◌/◌, ◌%◌}
use native.Mathlib.Omega.{arith}
use Rattle.sponge.proofs.Encoding.{digits_one, digits_two, digits_three}
use Rattle.sponge.proofs.kmac.first_digit.Goals as goal

pub returns-then-x-lt256 : goal.returns-then-x-lt256
returns-then-x-lt256 c =
    let x = c.args.x in
    let low : x % 256 ≡ x = omega arith in
    (omega arith, ap (λ (d : ℕ). d ∷ []) low ∙ sym (digits_one x c.if-x-lt256.true))

pub returns-then-x-lt65536 : goal.returns-then-x-lt65536
returns-then-x-lt65536 c =
    let x = c.args.x in
    let high : x / 256 % 256 ≡ x / 256 = omega arith in
    (omega arith, ap (λ (d : ℕ). d ∷ (x % 256) ∷ []) high ∙ sym (digits_two x c.if-x-lt256.false (omega arith)))

pub returns-else-x-lt65536 : goal.returns-else-x-lt65536
returns-else-x-lt65536 c =
    let x = c.args.x in
    let high : x / 65536 % 256 ≡ x / 256 / 256 = omega arith in
    (omega arith, ap (λ (d : ℕ). d ∷ (x / 256 % 256) ∷ (x % 256) ∷ []) high ∙ sym (digits_three x (omega arith) (omega arith)))
