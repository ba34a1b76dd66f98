-- `residues::scaled_remainder` meets its contract: the scale gives the exact quotient of a number below 2^24.
-- Assumes nothing.
use mathlib.Core.Path.{◌≡◌, sym, ap, ◌∙◌}
use Prim.Native.Nat.{ℕ, ◌*◌, ◌/◌}
use native.Mathlib.Nat.{div-mul-le_self, mod-eq-sub-div-mul}
use native.Mathlib.Omega.{arith}
use Rattle.residues.proofs.Barrett.{reciprocal, short_quotient}
use Rattle.residues.proofs.scaled_remainder.Goals as goal

-- the quotient
quotient : (c : goal.Start) → c.args.x * c.args.scale / 281474976710656 ≡ c.args.x / c.args.q
quotient c =
    ap (λ (m : ℕ). c.args.x * m / 281474976710656) c.requires.3 ∙ short_quotient (reciprocal (omega arith)) c.requires.0 c.requires.2

pub overflow_sub-result : goal.overflow_sub-result
overflow_sub-result c = rw (quotient c) (div-mul-le_self c.args.x c.args.q)

pub returns : goal.returns
returns c = rw (quotient c) (sym (mod-eq-sub-div-mul c.args.x c.args.q))
