-- The table passes the test of its rule, computed for every byte.
-- Assumes nothing.
use mathlib.Core.Path.{refl}
use Rattle.maths.specs.Sum.{sum}
use Rattle.aes_tables.proofs.Tests.{for_each}
use Rattle.aes_tables.specs.Field.{x_times_of, times, ◌•◌, squares, inverse}
use Rattle.aes_tables.specs.Substitution.{affine, sbox}
use Rattle.aes_tables.proofs.Substitution.{substitution_rule}
use Rattle.aes_tables.proofs.tables.substitution.Goals as goal

pub returns : goal.returns
unfolding sum x_times_of times ◌•◌ squares inverse affine sbox for_each
returns c = substitution_rule _ refl refl
