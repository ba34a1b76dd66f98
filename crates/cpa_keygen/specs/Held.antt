-- What the work slice holds while a key is made, and the vectors of a public key from it (003, algorithm 1, as algorithm 40 works it).
-- The stored secret ŝ stands first, the errors e_1, .., e_t after it, and the stored vectors b̂_1, .., b̂_t from vectors_start_of on.
-- Assumes nothing.
use Rattle.std.specs.Prelude.{◌≡◌, refl, List, [], ◌∷◌, map, ℕ, ◌+◌, ◌-◌, ◌*◌, ◌%◌, length}
use Rattle.maths.specs.Vector as vectors
use Rattle.maths.specs.Vector.{at, tabulate, AllBelow}
use Rattle.maths.specs.Integer.{residue}
use Rattle.calls.specs.Region.{region}
use Rattle.sets.specs.declared.Parameters.{Parameters}
use Rattle.sets.specs.Derived.{error_count_of}
use Rattle.ntt_products.specs.Stored.{sent_inverse, recovered_inverse}
use Rattle.scheme.specs.Encryption.{stored_secret, errors, public_polynomial, key_vector_of}
use Rattle.scheme.specs.Answers.{work_length_of}

-- where the stored vectors begin
unfoldable pub vectors_start_of : Parameters → ℕ
vectors_start_of p = p.d3 + error_count_of p

-- a work slice of the set's length with residues before the stored vectors
pub record Held (p : Parameters) (work : List ℕ) : Type 0 where
  pub size : length work ≡ work_length_of p
  pub residues : AllBelow p.q (vectors_start_of p) work

-- a work slice with the secret and the errors that are drawn from seedsk
pub record SecretHeld (p : Parameters) (seedsk work : List ℕ) : Type 0 where
  pub secret : region work 0 p.d3 ≡ stored_secret p seedsk
  pub errors_held : region work p.d3 (error_count_of p) ≡ map (residue p.q) (errors p seedsk)

-- the sums of the first numbers of x with all numbers of e, modulo q
unfoldable pub sums : ℕ → List ℕ → List ℕ → List ℕ
sums q x e = tabulate (length e) (λ j. (at x j + at e j) % q)

-- b_i from the numbers of a polynomial ā_i, with the secret and the errors that work holds
unfoldable pub held_vector : Parameters → List ℕ → List ℕ → ℕ → List ℕ
held_vector p a work i = key_vector_of p a (recovered_inverse p 3 (p.n + p.d + p.k - 1) (region work 0 p.d3))
    (region work (p.d3 + (p.d + p.k) * i) (p.d + p.k))

-- b̂_i from seedpk, with the secret and the errors that work holds
unfoldable pub stored_vector : Parameters → List ℕ → List ℕ → ℕ → List ℕ
stored_vector p seedpk work i = sent_inverse p 1 (held_vector p (public_polynomial p seedpk i) work i)

sums_example : sums 17 (16 ∷ 3 ∷ []) (2 ∷ []) ≡ 1 ∷ []
unfolding sums vectors.tabulate
sums_example = refl
