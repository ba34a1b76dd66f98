-- What packing drops of c2 at a place, and the largest size of it (003, section 2.2.3, algorithms 11, 19 and 22; 02, No. 5).
-- Assumes nothing.
use Rattle.std.specs.Prelude.{◌≡◌, List, ℕ, ◌≤◌, ◌<◌, ℤ, nat_abs, length, replicate}
use Rattle.maths.specs.Vector.{at}
use Rattle.sets.specs.declared.Parameters.{Parameters}
use Rattle.packing.specs.Dropped.{pack_dropping_of, unpack_dropped_of}
use Rattle.scheme.specs.Encryption.{second_bytes}
use Rattle.scheme.specs.Noise.{dropped_noise_of}

-- the part of the noise at place j that comes from packing c2 and unpacking it
unfoldable pub packing_noise : Parameters → List ℕ → ℕ → ℤ
packing_noise p c2 j = dropped_noise_of p (unpack_dropped_of p.width p.cmp p.d (pack_dropping_of p.width p.cmp (second_bytes p) c2)) c2 j

-- most is the largest size that packing can drop at one place: no residues lose more at any place, and d residues that all equal most lose it at every place
pub record LargestDropped (p : Parameters) (most : ℕ) : Type 0 where
  pub at_most : (c2 : List ℕ) → length c2 ≡ p.d → ((j : ℕ) → at c2 j < p.q) → (j : ℕ) → j < p.d → nat_abs (packing_noise p c2 j) ≤ most
  pub is_residue : most < p.q
  pub reached : (j : ℕ) → j < p.d → nat_abs (packing_noise p (replicate p.d most) j) ≡ most
