-- Demand 3 at one place (01, Reading, the gap of bench figures 8 to 11, and What demand 3 speaks of): the bit read beside the bit sent, by the noise there
-- and the half modulus h.
-- Assumes nothing.
use Rattle.std.specs.Prelude.{◌≡◌, ℕ, ◌+◌, ◌-◌, ◌*◌, ◌<◌, ℤ, nat_abs}

-- a bit sent and read under a noise, a whole number whose own size counts and not that of its residue
pub record BitClaim (h : ℕ) (noise : ℤ) (sent read : ℕ) : Type 0 where
  -- the bit is read as it was sent where twice the size of the noise is below h
  pub reads : 2 * nat_abs noise < h → read ≡ sent
  -- it is misread where twice the size of the noise is above h + 2 and below 3 · h
  pub misreads : h + 2 < 2 * nat_abs noise → 2 * nat_abs noise < 3 * h → read ≡ 1 - sent
