-- `keccak::theta` is θ, row by row.
-- Assumes nothing.
use mathlib.Core.Path.{◌≡◌, ap, ◌∙◌}
use mathlib.Core.List.{List, [], ◌∷◌}
use Prim.Native.Nat.{ℕ}
use Rattle.maths.specs.Vector.{at}
use Rattle.keccak.specs.Lane.{◌⊕◌, lane, state}
use Rattle.keccak.specs.Keccak.{C, D, θ}
use Rattle.keccak.proofs.theta.Goals as goal

-- step 3, from what steps 1 and 2 give
taken : (a : List (List ℕ)) (c d : List ℕ) → c ≡ C a → d ≡ D c → state (λ x y. lane a x y ⊕ at d x) ≡ θ a
unfolding θ
taken a c d p q = ap (λ (e : List ℕ). state (λ x y. lane a x y ⊕ at e x)) (q ∙ ap D p)

pub returns : goal.returns
returns c =
    (λ i. c.xor_row.ensures i ∷ c.xor_row-2.ensures i ∷ c.xor_row-3.ensures i ∷ c.xor_row-4.ensures i ∷ c.xor_row-5.ensures i ∷ [])
    ∙ taken _ _ _ c.parity.ensures c.mix_row-d.ensures
