-- What the theorem from the seeds to the bits read needs of the numbers p of a set; sets 1 to 12 meet it (003, sections 2.1.2, 2.2.2 and 3.2).
-- Assumes nothing.
use Rattle.std.specs.Prelude.{ℕ}
use Rattle.maths.specs.Root.{RootOfOrder}
use Rattle.sets.specs.declared.Parameters.{Parameters}
use Rattle.sets.specs.Derived.{transform_size_of, transform_root}
use Rattle.sets.specs.Rules.{Rules, ByteRules}

-- the rules of the sets whose keys and ciphertexts are bytes, and roots that have the order of their transform sizes
pub record Conditions (p : Parameters) : Type 0 where
  pub rules : Rules p
  pub bytes : ByteRules p
  pub roots : (i : ℕ) → RootOfOrder p.q (transform_size_of p i) (transform_root p i)
