-- How many bytes an output has, and how far it moves the counter.
-- Assumes nothing.
use mathlib.Core.Path.{◌≡◌, refl}
use Prim.Native.Nat.{ℕ, ◌+◌, ◌≤◌}
use native.Mathlib.Omega.{arith}
use lib.ListN.{length}
use Rattle.sets.specs.declared.Parameters.{Parameters}
use Rattle.sponge.specs.Kmac.{cshake256, kmac_of, kmacxof256}
use Rattle.sponge.proofs.Squeezing.{sponge_length}
use Rattle.byte_source.specs.Source.{State, output}

module _ (p : Parameters) (state : State) (n : ℕ) where
  -- an output has as many bytes as are asked for
  pub output_length : length (output p state n).bytes ≡ n
  unfolding output kmacxof256 kmac_of cshake256
  output_length = sponge_length _ _ n

  -- the seed stays
  pub output_seed : (output p state n).next.seed ≡ state.seed
  unfolding output
  output_seed = refl

  -- the counter rises by at most one for each byte and one more
  pub output_most : (output p state n).next.counter ≤ state.counter + n + 1
  unfolding output
  output_most = omega arith
