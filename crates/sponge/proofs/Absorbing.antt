-- Laws of absorbing: what is fed in pieces is fed as a whole, a piece that leaves the block open, one that fills it, and the padding.
-- Assumes nothing.
use mathlib.Core.Path.{◌≡◌, refl, sym, ap, ap₂, ◌∙◌}
use mathlib.Core.List.{List, [], ◌∷◌, ◌++◌, append_assoc, append-nil}
use Prim.Native.Nat.{ℕ, zero, suc, ◌+◌, ◌*◌, ◌/◌, ◌%◌, ◌-◌, ◌≤◌, ◌<◌, min}
use native.Mathlib.Omega.{arith}
use lib.ListN.{length, take, drop, replicate, length-append, length-take, length-drop, length-replicate, drop_of_length-le}
use lib.Seq.{take-append-le, drop-append-le, take_all}
use Rattle.calls.specs.Region.{region, over}
use Rattle.calls.proofs.Region.{over_front, over_length, over_lent, over_append}
use Rattle.keccak.specs.Keccak.{keccak_f}
use Rattle.keccak.specs.Lane.{state}
use Rattle.sponge.specs.Sponge.{mixed, absorbed, padding, padded}
use Rattle.sponge.specs.Absorbed.{Ready, Absorbed, Fed}

-- a block of the first of two lists
region_append : (m xs : List ℕ) (at n : ℕ) → at + n ≤ length m → region (m ++ xs) at n ≡ region m at n
unfolding region
region_append m xs at n h =
    let l : n ≤ length (drop at m) = rw length-drop (omega arith) in
    rw (drop-append-le at m xs (omega arith), take-append-le n (drop at m) xs l)

-- the state after some blocks does not depend on what follows them
pub absorbed_prefix : (m xs : List ℕ) (n : ℕ) → 136 * n ≤ length m → absorbed (m ++ xs) n ≡ absorbed m n
unfolding absorbed
absorbed_prefix m xs zero h = refl
absorbed_prefix m xs (suc n) h =
    rw (absorbed_prefix m xs n (omega arith), region_append m xs (136 * n) 136 (omega arith))

-- nothing was taken in
pub absorbed_none : (block : List ℕ) → Absorbed [] (state (λ x y. 0)) block 0
unfolding absorbed
absorbed_none block = record { blocks = 0; size = refl; after = refl; waiting = refl }

-- nothing is fed
pub fed_none : {a : List (List ℕ)} {block : List ℕ} {at : ℕ} → Ready block at → Fed a block at [] a block at
fed_none r = record { ready = r; place = omega (arith, r.below); takes = λ m h. rw append-nil h }

-- the place after two pieces
place_then : (at m n k at' : ℕ) → at' ≡ (at + m) % 136 → k ≡ m + n → (at' + n) % 136 ≡ (at + k) % 136
place_then at m n k at' e l = omega arith

-- two pieces, one after the other
pub fed_then : {a : List (List ℕ)} {block : List ℕ} {at : ℕ} {xs : List ℕ} {a' : List (List ℕ)} {block' : List ℕ} {at' : ℕ} {ys : List ℕ} {a'' : List (List ℕ)}
    {block'' : List ℕ} {at'' : ℕ}
    → Fed a block at xs a' block' at' → Fed a' block' at' ys a'' block'' at'' → Fed a block at (xs ++ ys) a'' block'' at''
fed_then {at = at} {xs = xs} {at' = at'} {ys = ys} f g =
    record {
      ready = g.ready;
      place = g.place ∙ place_then at (length xs) (length ys) (length (xs ++ ys)) at' f.place (length-append xs ys);
      takes = λ m h. rw (← append_assoc m xs ys) (g.takes (m ++ xs) (f.takes m h));
    }

module _ (a : List (List ℕ)) (block : List ℕ) (at : ℕ) (xs : List ℕ) (r : Ready block at) where
  -- what waits, with the new piece
  waits : (m : List ℕ) (h : Absorbed m a block at) → at + length xs ≤ 136 → take (at + length xs) (over block at xs) ≡ drop (136 * h.blocks) (m ++ xs)
  waits m h l = over_front block at xs (omega arith) ∙ rw (h.waiting, drop-append-le (136 * h.blocks) m xs (omega arith))

  -- a piece that leaves room in the block
  pub fed_part : at + length xs < 136 → Fed a block at xs a (over block at xs) (at + length xs)
  fed_part l =
      record {
        ready = record { whole = over_length block at xs (omega arith) ∙ r.whole; below = l };
        place = omega arith;
        takes = λ m h. record {
          blocks = h.blocks;
          size = rw length-append (omega arith);
          after = h.after ∙ sym (absorbed_prefix m xs h.blocks (omega arith));
          waiting = waits m h (omega arith);
        };
      }

  -- the block that the piece fills
  filled : (m : List ℕ) (h : Absorbed m a block at) → at + length xs ≡ 136 → over block at xs ≡ region (m ++ xs) (136 * h.blocks) 136
  unfolding region
  filled m h l =
      let w : length (over block at xs) ≡ 136 = over_length block at xs (omega arith) ∙ r.whole in
      let d : length (drop (136 * h.blocks) (m ++ xs)) ≡ 136 = rw (length-drop, length-append) (omega arith) in
      sym (take_all (at + length xs) (over block at xs) (omega arith)) ∙ waits m h (omega arith)
      ∙ sym (take_all 136 (drop (136 * h.blocks) (m ++ xs)) (omega arith))

  -- a piece that fills the block, which then goes into the state
  pub fed_full : at + length xs ≡ 136 → Fed a block at xs (keccak_f (mixed a (over block at xs))) (over block at xs) 0
  unfolding absorbed
  fed_full l =
      record {
        ready = record { whole = over_length block at xs (omega arith) ∙ r.whole; below = omega arith };
        place = omega arith;
        takes = λ m h. record {
          blocks = suc h.blocks;
          size = rw length-append (omega arith);
          after = ap keccak_f (ap₂ mixed (h.after ∙ sym (absorbed_prefix m xs h.blocks (omega arith))) (filled m h l));
          waiting =
              let l : length (m ++ xs) ≤ 136 * suc h.blocks = rw length-append (omega arith) in
              sym (drop_of_length-le (m ++ xs) l);
        };
      }

-- a list of no entries
length-zero : (xs : List ℕ) → length xs ≡ 0 → xs ≡ []
length-zero [] e = refl
length-zero (x ∷ xs) e = absurd (omega arith)

-- what of the bytes is taken in by pieces of at most a block, and what is left of them, which begins with a block
pub record Pieces (a₀ : List (List ℕ)) (block₀ : List ℕ) (at₀ : ℕ) (bytes left : List ℕ) (a : List (List ℕ)) (block : List ℕ) (at : ℕ) : Type 0 where
  pub taken : List ℕ
  pub all : bytes ≡ taken ++ left
  pub fed : Fed a₀ block₀ at₀ taken a block at
  pub aligned : 0 < length left → at ≡ 0

module _ {a₀ : List (List ℕ)} {block₀ : List ℕ} {at₀ : ℕ} {bytes left : List ℕ} {a : List (List ℕ)} {block : List ℕ} {at : ℕ} where
  -- after the first piece, for which the block had room
  pub pieces_begun : {head : List ℕ} → Fed a₀ block₀ at₀ head a block at → bytes ≡ head ++ left → length head ≡ min (length bytes) (136 - at₀) → at₀ < 136
      → Pieces a₀ block₀ at₀ bytes left a block at
  pieces_begun {head} f e h l =
      let sizes : length bytes ≡ length head + length left = ap length e ∙ length-append head left in
      record { taken = head; all = e; fed = f; aligned = λ m. omega (arith, f.place) }

  module _ (p : Pieces a₀ block₀ at₀ bytes left a block at) where
    -- a piece more
    pub pieces_more : {piece left' : List ℕ} {a' : List (List ℕ)} {block' : List ℕ} {at' : ℕ} → left ≡ piece ++ left' → length piece ≡ min 136 (length left)
        → 0 < length left → Fed a block at piece a' block' at' → Pieces a₀ block₀ at₀ bytes left' a' block' at'
    pieces_more {piece} {left'} e h m f =
        let sizes : length left ≡ length piece + length left' = ap length e ∙ length-append piece left' in
        record {
          taken = p.taken ++ piece;
          all = p.all ∙ ap (λ (l : List ℕ). p.taken ++ l) e ∙ sym (append_assoc p.taken piece left');
          fed = fed_then p.fed f;
          aligned = λ k. omega (arith, f.place, p.aligned m);
        }

    -- after the last piece
    pub pieces_all : length left ≡ 0 → Fed a₀ block₀ at₀ bytes a block at
    pieces_all e = rw (p.all, length-zero left e, append-nil) p.fed

-- a part of a list that was lent for writing and came back filled with n zeros
pub zeros_lent : (xs : List ℕ) (start end n : ℕ) {ys : List ℕ} → start + n ≡ end → end ≤ length xs
    → ys ≡ replicate (length (take (end - start) (drop start xs))) 0
    → take start xs ++ (ys ++ drop (end - start) (drop start xs)) ≡ over xs start (replicate n 0)
zeros_lent xs start end n {ys} e h z =
    let room : length (take (end - start) (drop start xs)) ≡ n = simp (length-take, length-drop) (omega arith) in
    let filled : ys ≡ replicate n 0 = z ∙ ap (λ (k : ℕ). replicate k 0) room in
    over_lent xs start ys end (rw (filled, length-replicate) (sym e)) ∙ ap (over xs start) filled

-- the number of bytes of a padding
pub padding_length : (suffix q : ℕ) → length (padding suffix q) ≡ q
unfolding padding
padding_length suffix zero = refl
padding_length suffix (suc zero) = refl
padding_length suffix (suc (suc n)) = ap suc (rw (length-append, length-replicate) (omega arith))

-- the padded last block goes into the state
pub closed : (suffix : ℕ) (m : List ℕ) (a : List (List ℕ)) (block : List ℕ) (at : ℕ) → Ready block at → Absorbed m a block at
    → keccak_f (mixed a (over block at (padding suffix (136 - at)))) ≡ absorbed (padded suffix m) (length (padded suffix m) / 136)
unfolding padded
closed suffix m a block at r h =
    let l = padding_length suffix (136 - at) in
    let p : length m % 136 ≡ at = omega arith in
    let f = (fed_full a block at (padding suffix (136 - at)) r (omega arith)).takes m h in
    let n : length (m ++ padding suffix (136 - at)) / 136 ≡ f.blocks = omega (arith, f.size) in
    rw (p, n) f.after

-- the padding in the last byte
pub padding_last : (suffix at : ℕ) → at ≡ 135 → (suffix + 0x80) ∷ [] ≡ padding suffix (136 - at)
unfolding padding
padding_last suffix at e = rw e

-- the padding in three parts
pub padding_parts : (block : List ℕ) (at suffix : ℕ) → length block ≡ 136 → at < 135
    → over (over (over block at (suffix ∷ [])) (at + 1) (replicate (134 - at) 0)) 135 (0x80 ∷ []) ≡ over block at (padding suffix (136 - at))
unfolding padding
padding_parts block at suffix w h =
    let n : 136 - at ≡ suc (suc (134 - at)) = omega arith in
    let l = length-replicate {A = ℕ} (134 - at) 0 in
    let front = suffix ∷ replicate (134 - at) 0 in
    let e : 135 ≡ at + length front = omega arith in
    rw n
    (ap (λ (x : List ℕ). over x 135 (0x80 ∷ [])) (over_append block at (suffix ∷ []) (omega arith) (replicate (134 - at) 0))
    ∙ ap (λ (k : ℕ). over (over block at front) k (0x80 ∷ [])) e
    ∙ over_append block at front (omega arith) (0x80 ∷ []))
