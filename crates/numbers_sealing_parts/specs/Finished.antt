-- c2 as the walk over it finishes it (01, Sealing), from the residues of the multipliers.
-- Assumes nothing.
use Rattle.std.specs.Prelude.{List, ℕ, ◌+◌, ◌*◌, ◌%◌}
use Rattle.maths.specs.Vector.{at, tabulate}
use Rattle.sets.specs.declared.Parameters.{Parameters}
use Rattle.sets.specs.Derived.{half_modulus_of}
use Rattle.numbers.specs.Scheme.{sum_of_middles}

-- the sum of the middle products of x_i and b_i, plus h times the message bit, d numbers: the residues of r for x give sealing's second_part
unfoldable pub finished : Parameters → List ℕ → List ℕ → List ℕ → List ℕ
finished p x b m = tabulate p.d (λ j. (sum_of_middles p x b j + half_modulus_of p * at m j) % p.q)
