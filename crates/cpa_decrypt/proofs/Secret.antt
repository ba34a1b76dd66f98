-- The answer of the draw of the secret, and the secret as it is stored.
-- Assumes nothing.
use mathlib.Core.Path.{◌≡◌, refl, sym, ◌∙◌}
use mathlib.Core.List.{List}
use Prim.Native.Nat.{ℕ}
use native.Mathlib.Omega.{arith}
use Rattle.calls.specs.Outcome.{accepted, refused}
use Rattle.sets.specs.declared.Parameters.{Parameters}
use Rattle.sets.specs.Table.{Listed}
use Rattle.sets.specs.Derived.{transform_size_of}
use Rattle.draws.specs.Uniform.{taken, numbers}
use Rattle.byte_source.specs.Source.{initial}
use Rattle.samplers.specs.Seeded.{secret_sampled, secret_drawn}
use Rattle.samplers.specs.Blocks.{uniform}
use Rattle.samplers.proofs.Laws.{uniform_length, uniform_below}
use Rattle.ntt_products.specs.Placed.{Placed}
use Rattle.ntt_products.proofs.Laws.{some_modulus}
use Rattle.scheme.specs.Encryption.{stored_secret}
use Rattle.scheme.specs.Answers.{secret_draw}
use Rattle.scheme.proofs.Taken.{not_taken}
use Rattle.sets.proofs.Transforms.{third_size}

module _ (p : Parameters) (seed : List ℕ) where
  -- a secret that was drawn: the answer, and what is stored
  pub secret_taken : (xs : List ℕ) → (uniform p (initial seed) p.bytpcs p.d3).drawn ≡ taken xs
      → (secret_draw p seed ≡ accepted) × (stored_secret p seed ≡ xs)
  unfolding secret_draw secret_sampled secret_drawn stored_secret numbers
  secret_taken xs e = (rw e refl, rw e refl)

  -- a secret that was not drawn: 5
  pub secret_refused : ((xs : List ℕ) → (uniform p (initial seed) p.bytpcs p.d3).drawn ≡ taken xs → ⊥) → secret_draw p seed ≡ refused 5 0
  unfolding secret_draw secret_sampled secret_drawn
  secret_refused h = rw (not_taken (uniform p (initial seed) p.bytpcs p.d3).drawn h)

-- the numbers drawn have the places of the third transform
pub secret_placed : (p : Parameters) → Listed p → (seed xs : List ℕ) → (uniform p (initial seed) p.bytpcs p.d3).drawn ≡ taken xs
    → Placed p 3 (transform_size_of p 3) xs
unfolding numbers
secret_placed p known seed xs e =
    record {
      size = uniform_length p (initial seed) p.bytpcs p.d3 xs e ∙ sym (third_size p);
      inside = omega arith;
      residues = record { each = λ j h. rw e at (uniform_below p (initial seed) p.bytpcs p.d3 (omega (arith, some_modulus p known 3)) j) };
    }
