-- Laws of the finished c2.
-- Assumes nothing.
use mathlib.Core.Path.{◌≡◌, ◌∙◌}
use mathlib.Core.List.{List}
use Prim.Native.Nat.{ℕ, ◌+◌, ◌*◌, ◌%◌, ◌<◌}
use lib.ListN.{length}
use Rattle.maths.specs.Vector.{at}
use Rattle.maths.proofs.Vector.{tabulate_length, tabulate_at}
use Rattle.maths.proofs.Congruence.{mod_refl, mod_sym, mod_trans, mod_add, mod_remainder}
use Rattle.sets.specs.declared.Parameters.{Parameters}
use Rattle.sets.specs.Derived.{half_modulus_of, multiplier_count_of}
use Rattle.numbers.specs.Scheme.{sum_of_products}
use Rattle.numbers.proofs.SealingLaws.{middles_products}
use Rattle.numbers_sealing_parts.specs.Finished.{finished}

module _ (p : Parameters) (x b m : List ℕ) where
  -- the length
  pub finished_length : length (finished p x b m) ≡ p.d
  unfolding finished
  finished_length = tabulate_length p.d _

  -- the number at a place, as the code works it out
  pub finished_at : (j total half : ℕ) → j < p.d → length x ≡ p.t * (p.k + 1)
      → total ≡ sum_of_products p.t (p.k + 1) x (p.d + p.k) b (p.k + j) % p.q → half ≡ half_modulus_of p
      → at (finished p x b m) j ≡ (total + half * at m j) % p.q
  unfolding finished multiplier_count_of
  finished_at j total half h size sum_is_lem half_is =
      tabulate_at p.d _ j h
      ∙ rw (sum_is_lem, half_is)
      (mod_add (mod_trans (middles_products p x b j size h) (mod_sym (mod_remainder p.q _))) (mod_refl (half_modulus_of p * at m j))).same
