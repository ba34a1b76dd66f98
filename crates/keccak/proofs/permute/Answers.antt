-- `keccak::permute` is Keccak-f. The loop's invariant: after i turns the state is what i rounds make of the first one.
-- Assumes nothing.
use mathlib.Core.Path.{◌≡◌, refl, ap, ◌∙◌}
use mathlib.Core.List.{List}
use Prim.Native.Nat.{ℕ}
use native.Mathlib.Numerals.{add-one}
use native.Mathlib.Omega.{arith}
use borrow.Author.Rules.{rules}
use Rattle.keccak.specs.Keccak.{round_constants, RC, Rnd, rounds, keccak_f}
use Rattle.keccak.proofs.permute.Goals as goal

pub loop-i-init : goal.loop-i-init
unfolding rounds
loop-i-init c = (search rules, refl)

pub loop-i-preserved : goal.loop-i-preserved
unfolding round_constants RC Rnd rounds
loop-i-preserved c =
    (search rules, rw add-one (c.round-t.ensures ∙ ap (λ (a : List (List ℕ)). Rnd a c.loop-i.i) c.loop-i.invariant.1))

pub returns : goal.returns
unfolding keccak_f
returns c =
    let e : c.loop-i.i ≡ 24 = omega arith in
    c.loop-i.invariant.1 ∙ ap (λ (i : ℕ). rounds i c.args.state) e
