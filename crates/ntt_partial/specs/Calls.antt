-- The open calls of the partial transform: what they leave (02, No. 2; 003 section 3.2.2, algorithms 36 and 37). A size is worked as D1 rows of
-- D2 numbers; m is the number of rows that are read, going forward, or written, going back.
-- Assumes nothing.
use Rattle.std.specs.Prelude.{List, ◌++◌, ℕ, ◌*◌, length, take, drop}
use Rattle.maths.specs.Transform.{send, recover}
use Rattle.calls.specs.Outcome.{leaves}
use Rattle.sets.specs.declared.Parameters.{Parameters}
use Rattle.sets.specs.Table.{set_of}
use Rattle.sets.specs.Derived.{transform_root}
use Rattle.ntt_partial_checks.specs.Checks.{size_number_of, partial_answer_of}
use Rattle.ntt_products.specs.Stored.{root_inverse_of, size_inverse_of}

-- the transform with the set's root of that size, of the first m rows of the input and zeros after them, in the order of Perm
unfoldable pub partial_sent : Parameters → ℕ → ℕ → ℕ → List ℕ → List ℕ
partial_sent p D1 D2 m input = send p.q D2 D1 (transform_root p (size_number_of p (D1 * D2))) (take (m * D2) input)

-- the first m rows of what the whole inverse gives
unfoldable pub partial_recovered : Parameters → ℕ → ℕ → ℕ → List ℕ → List ℕ
partial_recovered p D1 D2 m input =
    recover p.q D2 D1 (root_inverse_of p (size_number_of p (D1 * D2))) (size_inverse_of p (size_number_of p (D1 * D2))) (m * D2) input

-- what the forward call leaves in the output
unfoldable pub partial_left : ℕ → ℕ → ℕ → ℕ → List ℕ → List ℕ → List ℕ
partial_left set D1 D2 m input out = leaves (partial_answer_of set D1 D2 m input (length out)) (partial_sent (set_of set) D1 D2 m input) out

-- what the inverse leaves: the rows after the first m are as they were
unfoldable pub partial_inverse_left : ℕ → ℕ → ℕ → ℕ → List ℕ → List ℕ → List ℕ
partial_inverse_left set D1 D2 m input out =
    leaves (partial_answer_of set D1 D2 m input (length out)) (partial_recovered (set_of set) D1 D2 m input ++ drop (m * D2) out) out
