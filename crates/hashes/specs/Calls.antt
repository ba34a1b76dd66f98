-- What the open calls on bytes answer and leave (01, How each call answers): 6 when a slice is longer than 65,536.
-- Assumes nothing.
use Rattle.std.specs.Prelude.{Bool, not, List, [], ◌∷◌, map, ℕ, leb, length}
use Rattle.calls.specs.Outcome.{Outcome, accepted, refuse, leaves}
use Rattle.calls.specs.Checks.{all_of}
use Rattle.sponge.specs.Sponge.{shake256}
use Rattle.sponge.specs.Kmac.{kmac256, kmacxof256}

-- no length is above the limit
unfoldable pub within : List ℕ → Bool
within lengths = all_of (map (λ n. leb n 65536) lengths)

-- refused with 6 where a length is above the limit
unfoldable pub sponge_answer : List ℕ → Outcome
sponge_answer lengths = refuse (not (within lengths)) 6 0 accepted

-- the answer of SHAKE256
abbrev pub shake_answer : List ℕ → List ℕ → Outcome
shake_answer input out = sponge_answer (length input ∷ length out ∷ [])

-- what it leaves in the output
abbrev pub shake_left : List ℕ → List ℕ → List ℕ
shake_left input out = leaves (shake_answer input out) (shake256 input (length out)) out

-- the answer of KMAC256 and of KMACXOF256
abbrev pub kmac_answer : List ℕ → List ℕ → List ℕ → List ℕ → Outcome
kmac_answer key input customization out = sponge_answer (length key ∷ length input ∷ length customization ∷ length out ∷ [])

-- what each leaves in the output
abbrev pub kmac_left : List ℕ → List ℕ → List ℕ → List ℕ → List ℕ
kmac_left key input customization out = leaves (kmac_answer key input customization out) (kmac256 key input customization (length out)) out

abbrev pub kmacxof_left : List ℕ → List ℕ → List ℕ → List ℕ → List ℕ
kmacxof_left key input customization out = leaves (kmac_answer key input customization out) (kmacxof256 key input customization (length out)) out
