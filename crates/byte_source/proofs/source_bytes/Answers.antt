-- `byte_source::source_bytes` meets its contract: the four bytes of the counter are the input of KMACXOF256, and the counter rises by one.
-- Assumes nothing.
use mathlib.Core.Path.{◌≡◌, refl, ap, ◌∙◌}
use mathlib.Core.List.{List, []}
use Prim.Native.Nat.{ℕ}
use native.Mathlib.Nat.{div-div-eq-div-mul}
use lib.ListN.{length}
use Rattle.std.specs.Int.{w32, to_le_bytes}
use Rattle.maths.specs.Bytes.{bytes_of}
use Rattle.sponge.specs.Kmac.{kmacxof256}
use Rattle.byte_source.specs.Source.{output}
use Rattle.byte_source.proofs.source_bytes.Goals as goal

-- the bytes of a number, as the library gives them
four_bytes : (v : ℕ) → to_le_bytes w32 v ≡ bytes_of 4 v
unfolding bytes_of
four_bytes v = simp div-div-eq-div-mul

pub returns-clause-bytes : goal.returns-clause-bytes
unfolding output
returns-clause-bytes c =
    let a = c.args in
    c.kmacxof256_into.ensures
    ∙ ap (λ (input : List ℕ). kmacxof256 a.seed.now input [] (length a.out.now)) (c.to_le_bytes-input.ensures ∙ four_bytes a.counter)

pub returns-clause-state : goal.returns-clause-state
unfolding output
returns-clause-state c = refl
