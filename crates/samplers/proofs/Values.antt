-- Laws of the errors and multipliers drawn from a seed: their count, places and sizes, and the invariant of the loop that writes their residues.
-- Assumes nothing.
use mathlib.Core.Path.{◌≡◌, sym, ap, ◌∙◌}
use mathlib.Core.Bool.{Bool, true, false, cond}
use mathlib.Core.List.{List, map}
use Prim.Native.Nat.{ℕ, ◌+◌, ◌-◌, ◌%◌, ◌^◌, ◌≤◌, ◌<◌}
use native.Mathlib.Nat.{zero-add, mod-lt}
use native.Mathlib.Omega.{arith}
use lib.IntN.{ℤ, pos, nat_abs}
use lib.ListN.{length, get_or, set, length-map, get_or-map}
use lib.Dec.{ltb}
use lib.Pow.{pow_pos, pow_mono}
use Rattle.maths.specs.Integer.{residue}
use Rattle.calls.proofs.Filled.{Filled, filled_none, filled_more}
use Rattle.sets.specs.declared.Parameters.{Parameters}
use Rattle.sets.specs.Rules.{Rules, ByteRules}
use Rattle.sets.specs.Derived.{multiplier_count_of, multiplier_draw_bytes_of, error_draw_bytes_of, error_count_of, multiplier_bits_of}
use Rattle.draws.specs.Small.{error_at, multiplier_at_of}
use Rattle.draws.proofs.Bits.{error_most, multiplier_size}
use Rattle.draws.proofs.Positions.{turn_length, turn_at}
use Rattle.byte_source.specs.Source.{State, initial, output}
use Rattle.samplers.specs.Seeded.{error_byte, errors_of, errors_drawn, multipliers_of, multipliers_drawn}

-- a number of some bits and 1 more
size_most : (bits number : ℕ) → number % 2 ^ bits + 1 ≤ 2 ^ bits
size_most bits number = omega (arith, mod-lt number (pow_pos bits))

module _ (p : Parameters) where
  module _ (place : ℕ) (h : place < error_count_of p) where
    -- each error of the bytes
    pub errors_at : (bytes : List ℕ) → get_or (errors_of p bytes) place (pos 0) ≡ error_at bytes (error_byte p place)
    unfolding errors_of
    errors_at bytes = turn_at _ 0 (error_count_of p) place (pos 0) h ∙ rw zero-add

  -- how many errors
  pub errors_length : (bytes : List ℕ) → length (errors_of p bytes) ≡ error_count_of p
  unfolding errors_of
  errors_length bytes = turn_length _ 0 (error_count_of p)

  -- how many multipliers
  pub multipliers_length : (bytes : List ℕ) → length (multipliers_of p bytes) ≡ multiplier_count_of p
  unfolding multipliers_of
  multipliers_length bytes = turn_length _ 0 (multiplier_count_of p)

  -- each multiplier of the bytes
  pub multipliers_at : (position : ℕ) → position < multiplier_count_of p → (bytes : List ℕ)
      → get_or (multipliers_of p bytes) position (pos 0) ≡ multiplier_at_of p bytes position
  unfolding multipliers_of
  multipliers_at position h bytes = turn_at _ 0 (multiplier_count_of p) position (pos 0) h ∙ rw zero-add

  -- an error is at most 4 in size
  pub error_size : (bytes : List ℕ) (byte : ℕ) → nat_abs (error_at bytes byte) ≤ 4
  unfolding error_at
  error_size bytes byte = error_most (get_or bytes byte 0)

  pub multiplier_most : (bytes : List ℕ) (position : ℕ) → nat_abs (multiplier_at_of p bytes position) ≤ 2 ^ multiplier_bits_of p position
  unfolding multiplier_at_of
  multiplier_most bytes position = rw multiplier_size (size_most (multiplier_bits_of p position) _)

  -- of at most b2 bits
  bits_below : Rules p → (position : ℕ) → multiplier_bits_of p position ≤ p.b2
  unfolding multiplier_bits_of
  bits_below rules position = go (ltb position p.ndec1)
    where
      go : (first : Bool) → cond first p.b1 p.b2 ≤ p.b2
      go true = rules.bounds
      go false = omega arith

  -- so it is below q
  pub multiplier_below : Rules p → (bytes : List ℕ) (position : ℕ) → nat_abs (multiplier_at_of p bytes position) < p.q
  multiplier_below rules bytes position =
      omega (arith, multiplier_most bytes position, pow_mono {i = multiplier_bits_of p position} {j = p.b2} (bits_below rules position), rules.small_b2)

  -- an error is, too
  pub modulus_most : Rules p → ByteRules p → 4 < p.q
  modulus_most rules bytes = omega (arith, pow_mono {i = 7} {j = p.width - 1} (omega (arith, bytes.kept_byte)), rules.width_least)

  module _ (state : State) where
    -- how many errors a key has
    pub errors_drawn_length : length (errors_drawn p state) ≡ error_count_of p
    unfolding errors_drawn
    errors_drawn_length = errors_length _

    -- and their sizes
    pub errors_drawn_most : (place : ℕ) → place < error_count_of p → nat_abs (get_or (errors_drawn p state) place (pos 0)) ≤ 4
    unfolding errors_drawn
    errors_drawn_most place h = rw (errors_at place h (output p state (error_draw_bytes_of p)).bytes) (error_size _ _)

  module _ (seed : List ℕ) where
    -- how many multipliers a sealing has
    pub multipliers_drawn_length : length (multipliers_drawn p seed) ≡ multiplier_count_of p
    unfolding multipliers_drawn
    multipliers_drawn_length = multipliers_length _

    module _ (position : ℕ) (h : position < multiplier_count_of p) where
      -- and their sizes
      pub multipliers_drawn_most : nat_abs (get_or (multipliers_drawn p seed) position (pos 0)) ≤ 2 ^ multiplier_bits_of p position
      unfolding multipliers_drawn
      multipliers_drawn_most = rw (multipliers_at position h (output p (initial seed) (multiplier_draw_bytes_of p)).bytes) (multiplier_most _ _)

-- the invariant of a loop that writes the residues of whole numbers
abbrev pub Reduced : ℕ → List ℤ → List ℕ → ℕ → List ℕ → Type 0
Reduced q zs old i new = Filled old 0 (length old) (map (residue q) zs) i new

-- before the first number
pub reduced_none : (q : ℕ) (zs : List ℤ) (old : List ℕ) → length zs ≡ length old → Reduced q zs old 0 old
reduced_none q zs old e = filled_none (length-map zs (residue q) ∙ e) (omega arith)

-- one number more
pub reduced_more : (q : ℕ) (zs : List ℤ) {old : List ℕ} {i : ℕ} {new : List ℕ} {x : ℕ} (z : ℤ) → Reduced q zs old i new → i < length old
    → get_or zs i (pos 0) ≡ z → x ≡ residue q z → Reduced q zs old (i + 1) (set new i x)
reduced_more q zs {i = i} z t h e v =
    filled_more (residue q (pos 0)) t h (omega arith) (v ∙ ap (residue q) (sym e) ∙ sym (get_or-map (residue q) zs i (pos 0)))
