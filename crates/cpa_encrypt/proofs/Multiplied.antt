-- One multiplier polynomial among all multipliers: its room, and what is sent of it.
-- Assumes nothing.
use mathlib.Core.Path.{◌≡◌, refl}
use mathlib.Core.List.{List}
use Prim.Native.Nat.{ℕ, suc, ◌+◌, ◌-◌, ◌*◌, ◌≤◌, ◌<◌}
use native.Mathlib.Nat.{mul-le-mul_left}
use native.Mathlib.Decide.{dec_lt}
use native.Mathlib.Omega.{arith}
use lib.ListN.{length, take, drop}
use Rattle.maths.specs.Vector.{at, AllBelow}
use Rattle.maths.proofs.Vector.{at_past}
use Rattle.calls.specs.Region.{region, over, vector}
use Rattle.calls.proofs.Region.{region_entry, region_length, region_part}
use Rattle.sets.specs.declared.Parameters.{Parameters}
use Rattle.sets.specs.Table.{Listed}
use Rattle.sets.specs.Derived.{transform_size_of, multiplier_count_of}
use Rattle.sets.specs.Rules.{Rules}
use Rattle.sets.proofs.Rules.{listed_rules}
use Rattle.sets.proofs.Transforms.{by_size}
use Rattle.packing.specs.Digits.{Digit}
use Rattle.ntt_products.specs.Placed.{Placed}
use Rattle.cpa_encrypt.specs.Parts.{Multipliers}
use Rattle.calls.proofs.Parts.{front}
use Rattle.ntt_products.proofs.Laws.{front_placed}

-- a vector lies within all vectors
pub vector_within : (n i t : ℕ) → i < t → n * i + n ≤ n * t
vector_within n i t h = let room : n * suc i ≤ n * t = mul-le-mul_left n h in omega arith

-- residues are digits of a set's width
pub residue_digits : (p : Parameters) (xs : List ℕ) → Rules p → AllBelow p.q (length xs) xs → Digit p.width xs
residue_digits p xs kept below k =
    elim (dec_lt k (length xs)) [
      | yes h ↦ let b : at xs k < p.q = below.each k h in omega (arith, kept.width_enough)
      | no h ↦ let z : at xs k ≡ 0 = at_past xs k (omega arith) in omega (arith, kept.width_enough)
    ]

-- where one multiplier polynomial stands among all multipliers
pub record Room (p : Parameters) (i count : ℕ) : Type 0 where
  pub short : p.k + 1 ≤ 1024
  pub within : (p.k + 1) * i + (p.k + 1) ≤ count
  pub few : count ≤ 8192

module _ (p : Parameters) (known : Listed p) where
  -- a multiplier polynomial lies within all multipliers
  pub vector_room : (i : ℕ) → i < p.t → Room p i (multiplier_count_of p)
  unfolding multiplier_count_of
  vector_room i h =
      let kept = listed_rules p known in
      let room : (p.k + 1) * i + (p.k + 1) ≤ (p.k + 1) * p.t = vector_within (p.k + 1) i p.t h in
      record { short = omega (arith, kept.most_k); within = omega arith; few = kept.most_multipliers }

  -- a multiplier polynomial fits every transform
  pub multiplier_fits : (number : ℕ) → p.k + 1 ≤ transform_size_of p number
  multiplier_fits number =
      let kept = listed_rules p known in
      by_size p number (λ D. p.k + 1 ≤ D) (omega (arith, kept.some_d, kept.holds1)) (omega (arith, kept.some_d, kept.holds1, kept.rising1))
      (omega (arith, kept.some_d, kept.holds1, kept.rising1, kept.rising2))

  module _ (number i : ℕ) (xs ms : List ℕ) (size : length xs ≡ transform_size_of p number) (m : Multipliers p ms) (h : i < p.t) where
    -- it has k + 1 numbers
    part_size : length (region ms ((p.k + 1) * i) (p.k + 1)) ≡ p.k + 1
    part_size = region_length ms ((p.k + 1) * i) (p.k + 1) (omega (arith, m.size, (vector_room i h).within))

    -- copied to the front of a slice, it may be sent
    pub multipliers_placed : Placed p number (p.k + 1) (over xs 0 (take ((p.k + 1) * i + (p.k + 1) - (p.k + 1) * i) (drop ((p.k + 1) * i) ms)))
    multipliers_placed =
        let room = vector_room i h in
        let ys = region ms ((p.k + 1) * i) (p.k + 1) in
        rw (region_part ms ((p.k + 1) * i) (p.k + 1) ((p.k + 1) * i + (p.k + 1)) refl)
        (rw part_size at
        (front_placed p number xs ys size (rw part_size (multiplier_fits number))
        (record {
          each = λ j l. let inside : j < p.k + 1 = rw part_size at l in
              rw (region_entry ms ((p.k + 1) * i) (p.k + 1) j 0 inside) (m.residues.each ((p.k + 1) * i + j) (omega (arith, room.within)));
        })))

    -- what is sent is that polynomial
    pub multipliers_front : take (p.k + 1) (over xs 0 (take ((p.k + 1) * i + (p.k + 1) - (p.k + 1) * i) (drop ((p.k + 1) * i) ms)))
        ≡ vector (p.k + 1) ms i
    multipliers_front =
        let ys = region ms ((p.k + 1) * i) (p.k + 1) in
        rw (region_part ms ((p.k + 1) * i) (p.k + 1) ((p.k + 1) * i + (p.k + 1)) refl)
        (rw part_size at (front xs ys (rw (part_size, size) (multiplier_fits number))))
