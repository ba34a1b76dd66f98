-- Laws of the answers: a slice that is too long refuses the call, and a call with none is accepted.
-- Assumes nothing.
use mathlib.Core.Path.{◌≡◌, refl}
use mathlib.Core.Bool.{true, false}
use mathlib.Core.List.{List, [], ◌∷◌}
use Prim.Native.Nat.{ℕ, ◌≤◌, ◌<◌}
use borrow.Author.Tests.{le-leb, lt-leb, leb-true}
use lib.Dec.{leb}
use lib.ListN.{get_or}
use Rattle.calls.specs.Outcome.{accepted, refused, leaves}
use Rattle.calls.proofs.Checks.{all_of_false, each_all_of, all_of_each}
use Rattle.hashes.specs.Calls.{within, sponge_answer}

module _ (lengths new old : List ℕ) where
  -- the answer and the output of a refused call
  pub too_long : within lengths ≡ false → (refused 6 0 ≡ sponge_answer lengths) × (old ≡ leaves (sponge_answer lengths) new old)
  unfolding sponge_answer
  too_long e = rw e (refl, refl)

  -- the answer and the output of an accepted call
  pub within_limit : {out : List ℕ} → within lengths ≡ true → out ≡ new
      → (accepted ≡ sponge_answer lengths) × (out ≡ leaves (sponge_answer lengths) new old)
  unfolding sponge_answer
  within_limit e w = rw e (refl, w)

-- two lengths, of which the first is too large
pub two_first : (a b : ℕ) → 65536 < a → within (a ∷ b ∷ []) ≡ false
unfolding within
two_first a b h = all_of_false (leb a 65536 ∷ leb b 65536 ∷ []) 0 (lt-leb a 65536 h)

-- two lengths, of which the second is too large
pub two_second : (a b : ℕ) → 65536 < b → within (a ∷ b ∷ []) ≡ false
unfolding within
two_second a b h = all_of_false (leb a 65536 ∷ leb b 65536 ∷ []) 1 (lt-leb b 65536 h)

-- two lengths within the limit
pub two_within : (a b : ℕ) → a ≤ 65536 → b ≤ 65536 → within (a ∷ b ∷ []) ≡ true
unfolding within
two_within a b h l = each_all_of (leb a 65536 ∷ leb b 65536 ∷ []) (le-leb a 65536 h, (le-leb b 65536 l, tt))

module _ (a b c d : ℕ) where
  -- four lengths, of which the one at place i is too large
  pub four_above : (i : ℕ) → get_or (leb a 65536 ∷ leb b 65536 ∷ leb c 65536 ∷ leb d 65536 ∷ []) i true ≡ false → within (a ∷ b ∷ c ∷ d ∷ []) ≡ false
  unfolding within
  four_above i e = all_of_false (leb a 65536 ∷ leb b 65536 ∷ leb c 65536 ∷ leb d 65536 ∷ []) i e

  -- four lengths within the limit
  pub four_within : a ≤ 65536 → b ≤ 65536 → c ≤ 65536 → d ≤ 65536 → within (a ∷ b ∷ c ∷ d ∷ []) ≡ true
  unfolding within
  four_within h i j k =
      each_all_of (leb a 65536 ∷ leb b 65536 ∷ leb c 65536 ∷ leb d 65536 ∷ [])
      (le-leb a 65536 h, (le-leb b 65536 i, (le-leb c 65536 j, (le-leb d 65536 k, tt))))

  -- what four lengths within the limit tell
  pub four_limits : within (a ∷ b ∷ c ∷ d ∷ []) ≡ true → (a ≤ 65536) × (b ≤ 65536) × (c ≤ 65536) × (d ≤ 65536)
  unfolding within
  four_limits e =
      let t = all_of_each (leb a 65536 ∷ leb b 65536 ∷ leb c 65536 ∷ leb d 65536 ∷ []) e in
      (leb-true a 65536 t.0, leb-true b 65536 t.1.0, leb-true c 65536 t.1.1.0, leb-true d 65536 t.1.1.1.0)
