-- The places of the work slice: where its parts begin and end, and that they fit.
-- Assumes nothing.
use mathlib.Core.Path.{◌≡◌, refl}
use Prim.Native.Nat.{ℕ, ◌+◌, ◌*◌, ◌≤◌, ◌<◌}
use native.Mathlib.Nat.{mul-le-mul_left}
use native.Mathlib.Omega.{arith}
use Rattle.sets.specs.declared.Parameters.{Parameters}
use Rattle.sets.specs.Table.{Listed}
use Rattle.sets.specs.Derived.{error_draw_bytes_of, public_key_bytes_of, error_count_of}
use Rattle.sets.specs.Rules.{ByteRules}
use Rattle.sets.proofs.Rules.{listed_rules}
use Rattle.scheme.specs.Answers.{work_length_of}
use Rattle.cpa_keygen.specs.Held.{vectors_start_of}

-- there are few errors
pub errors_most : (p : Parameters) → ByteRules p → error_count_of p ≤ 10240
unfolding error_count_of error_draw_bytes_of
errors_most p bytes = omega (arith, bytes.most_error_bytes)

-- a public key begins with a seed
pub seed_room : (p : Parameters) → 32 ≤ public_key_bytes_of p
unfolding public_key_bytes_of
seed_room p = omega arith

module _ (p : Parameters) (bytes : ByteRules p) (known : Listed p) where
  -- a work slice is short
  pub work_most : work_length_of p ≤ 27136
  unfolding work_length_of
  work_most =
      let kept = listed_rules p known in
      omega (arith, errors_most p bytes, kept.most_d3, kept.rising1, kept.rising2, kept.most_public)

  -- the stored vectors lie in it
  pub vectors_room : vectors_start_of p + p.d1 * p.t ≤ work_length_of p
  unfolding work_length_of vectors_start_of error_count_of
  vectors_room = omega arith

  -- the secret and the errors lie before them
  pub secret_room : p.d3 + error_count_of p ≡ vectors_start_of p
  unfolding vectors_start_of
  secret_room = refl

  module _ (i : ℕ) (h : i < p.t) where
    -- so do the errors of polynomial i
    pub errors_room : p.d3 + (p.d + p.k) * i + (p.d + p.k) ≤ vectors_start_of p
    unfolding vectors_start_of error_count_of
    errors_room = omega (arith, mul-le-mul_left (p.d + p.k) h)

    -- stored vector i lies in the work slice
    pub vector_room : vectors_start_of p + p.d1 * i + p.d1 ≤ work_length_of p
    vector_room = omega (arith, vectors_room, mul-le-mul_left p.d1 h)

    -- and their places are small numbers
    pub errors_short : p.d3 + (p.d + p.k) * i + (p.d + p.k) ≤ 27136
    errors_short = omega (arith, errors_room, vectors_room, work_most)

    pub vector_short : vectors_start_of p + p.d1 * i + p.d1 ≤ 27136
    vector_short = omega (arith, vector_room, work_most)
