-- The number that a byte stands for in two's complement, as the code computes it, and what it takes for the byte at each place to be in range.
-- Assumes nothing.
use mathlib.Core.Path.{◌≡◌, refl, sym, ap, ◌∙◌}
use mathlib.Core.Bool.{Bool, true, false, ◌&&◌, cond}
use Prim.Native.Nat.{ℕ, ◌+◌, ◌-◌, ◌^◌, ◌≤◌, ◌<◌}
use native.Mathlib.Omega.{arith}
use borrow.Author.Tests.{lt-ltb, le-ltb, lt-leb}
use lib.Dec.{leb, ltb}
use lib.IntN.{pos, negsuc, ◌-ℤ◌, nat_abs}
use mir.Syntax.{w32}
use mir.Val.{SFits, of_z, to_z}
use mir.ValLaws.{to_z-of_z, to_z_pos}
use Rattle.sets.specs.Table.{none, table, set_of}
use Rattle.sets.specs.Derived.{multiplier_bits_of, multiplier_bound_of}
use Rattle.sheet_bench.specs.Bench.{bench, signed, bench_fits}

-- a byte below 128 stands for itself, any other for a negative number
signed_low : (byte : ℕ) → byte < 128 → signed byte ≡ pos byte
unfolding signed
signed_low byte h = rw (lt-ltb byte 128 h)

signed_high : (byte : ℕ) → 128 ≤ byte → signed byte ≡ negsuc (255 - byte)
unfolding signed
signed_high byte h = rw (le-ltb byte 128 h)

-- 0 stands for 0
pub signed_zero : signed 0 ≡ pos 0
signed_zero = signed_low 0 (omega arith)

-- the size of the number
pub size_low : (byte : ℕ) → byte < 128 → byte ≡ nat_abs (signed byte)
size_low byte h = rw (signed_low byte h)

pub size_high : (byte : ℕ) → 128 ≤ byte → 255 - byte + 1 ≡ nat_abs (signed byte)
size_high byte h = rw (signed_high byte h) (omega arith)

-- 256 less than the byte
difference : (byte : ℕ) → byte < 256 → pos byte -ℤ pos 256 ≡ negsuc (255 - byte)
difference byte h = rw (lt-ltb byte 256 h) (ap negsuc (omega arith))

-- what a word of 32 bits gives back
pub stored_low : (byte : ℕ) → byte < 128 → to_z w32 byte ≡ signed byte
stored_low byte h = to_z_pos w32 byte (omega arith) ∙ sym (signed_low byte h)

module _ (byte : ℕ) (within : byte < 256) (high : 128 ≤ byte) where
  less : to_z w32 byte -ℤ to_z w32 256 ≡ negsuc (255 - byte)
  less = rw (to_z_pos w32 byte (omega arith)) (difference byte within)

  pub less_fits : SFits w32 (to_z w32 byte -ℤ to_z w32 256)
  less_fits = rw less (record { sfits = omega arith })

  pub stored_high : to_z w32 (of_z w32 (to_z w32 byte -ℤ to_z w32 256)) ≡ signed byte
  stored_high = to_z-of_z w32 _ less_fits ∙ less ∙ sym (signed_high byte high)

-- the bounds of set 0
bench_residue : bench.q ≡ 17
unfolding none table set_of
bench_residue = refl

bench_error : bench.eta ≡ 1
unfolding none table set_of
bench_error = refl

pub bench_multiplier : (position : ℕ) → multiplier_bound_of bench position ≡ 2
unfolding multiplier_bound_of multiplier_bits_of none table set_of
bench_multiplier position = go (ltb position 2)
  where
    go : (first : Bool) → 2 ^ cond first 1 1 ≡ 2
    go true = refl
    go false = refl

-- the test of two for a multiplier, by the first of them
pub multiplier_none : (size : ℕ) → size < 1 → false ≡ leb 1 size && leb size 2
multiplier_none size h = rw (lt-leb 1 size h)

-- the test of the byte at each place
module _ (place byte : ℕ) where
  pub fits_set : place < 1 → true ≡ bench_fits place byte
  unfolding bench_fits
  fits_set h = rw (lt-ltb place 1 h)

  pub fits_residue : 1 ≤ place → place < 7 → ltb byte 17 ≡ bench_fits place byte
  unfolding bench_fits
  fits_residue low h = rw (le-ltb place 1 low, lt-ltb place 7 h, bench_residue)

  pub fits_error : 7 ≤ place → place < 10 → leb (nat_abs (signed byte)) 1 ≡ bench_fits place byte
  unfolding bench_fits
  fits_error low h = rw (le-ltb place 1 (omega arith), le-ltb place 7 low, lt-ltb place 10 h, bench_error)

  pub fits_multiplier : 10 ≤ place → place < 12 → leb 1 (nat_abs (signed byte)) && leb (nat_abs (signed byte)) 2 ≡ bench_fits place byte
  unfolding bench_fits
  fits_multiplier low h = rw (le-ltb place 1 (omega arith), le-ltb place 7 (omega arith), le-ltb place 10 low, lt-ltb place 12 h, bench_multiplier (place - 10))

  pub fits_message : 12 ≤ place → ltb byte 2 ≡ bench_fits place byte
  unfolding bench_fits
  fits_message low = rw (le-ltb place 1 (omega arith), le-ltb place 7 (omega arith), le-ltb place 10 (omega arith), le-ltb place 12 low)
