-- Laws of the bytes of the key exchange: the part that is hashed, two lists written one after the other, and the hash.
-- Assumes nothing.
use mathlib.Core.Path.{◌≡◌, sym, ap, ◌∙◌}
use mathlib.Core.Bool.{Bool, true, false, cond}
use mathlib.Core.List.{List, ◌++◌}
use Prim.Native.Nat.{ℕ, ◌+◌}
use native.Mathlib.Omega.{arith}
use lib.ListN.{length, take, drop, length-append, length-drop}
use lib.Seq.{take_all, length-take-le}
use Rattle.calls.specs.Region.{over}
use Rattle.calls.proofs.Region.{over_append, over_whole}
use Rattle.sponge.specs.Sponge.{shake256}
use Rattle.scheme.specs.Exchange.{shared_hash}

module _ (n : ℕ) (b : Bool) (message expanded : List ℕ) where
  -- the message is the part that is hashed
  pub message_part : b ≡ true → length message ≡ n → (take n message ≡ cond b message (drop n expanded)) × (length (take n message) ≡ n)
  message_part e l = (rw e (take_all n message (omega arith)), length-take-le n message (omega arith))

  -- the second half is
  pub reject_part : b ≡ false → length expanded ≡ n + n
      → (take n (drop n expanded) ≡ cond b message (drop n expanded)) × (length (take n (drop n expanded)) ≡ n)
  reject_part e l =
      (rw e (take_all n (drop n expanded) (rw length-drop (omega arith))), length-take-le n (drop n expanded) (rw length-drop (omega arith)))

-- two lists written one after the other
pub both_over : (out first second : List ℕ) (n : ℕ) → n ≡ length first → length out ≡ length first + length second
    → over (over out 0 first) n second ≡ first ++ second
both_over out first second n e l =
    let start : n ≡ 0 + length first = omega arith in
    ap (λ (m : ℕ). over (over out 0 first) m second) start
    ∙ over_append out 0 first (omega arith) second
    ∙ over_whole out (first ++ second) (rw length-append (sym l))

-- H
pub hashed : (secret ciphertext digest out : List ℕ) (n m : ℕ) → n ≡ 32 → m ≡ 64 → digest ≡ shake256 ciphertext m → out ≡ shake256 (secret ++ digest) n
    → out ≡ shared_hash secret ciphertext
unfolding shared_hash
hashed secret ciphertext digest out n m e l d o = o ∙ rw (d, e, l)
