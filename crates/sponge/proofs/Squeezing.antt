-- Laws of squeezing: the length of what was given out, that more turns only append, and the loop that writes it.
-- Assumes nothing.
use mathlib.Core.Path.{◌≡◌, refl, sym, ap, ◌∙◌}
use mathlib.Core.List.{List, ◌++◌}
use Prim.Native.Nat.{ℕ, zero, suc, ◌+◌, ◌*◌, ◌/◌, ◌-◌, ◌≤◌, ◌<◌, min}
use native.Mathlib.Nat.{add_comm, add-zero, add-suc}
use native.Mathlib.Omega.{arith}
use lib.ListN.{length, take, length-append}
use lib.Seq.{take-append-le, take-append-add, take_all, length-take-le}
use Rattle.calls.specs.Region.{over}
use Rattle.calls.proofs.Region.{over_append, over_length, over_whole}
use Rattle.keccak.specs.Keccak.{keccak_f}
use Rattle.sponge.specs.Sponge.{lanes, permuted, squeezed, sponge, shake256}
use Rattle.sponge.proofs.Bytes.{lanes_length}

-- a turn gives 136 bytes
pub squeezed_length : (s : List (List ℕ)) (n : ℕ) → length (squeezed s n) ≡ 136 * n
unfolding squeezed
squeezed_length s zero = refl
squeezed_length s (suc n) = rw (length-append, squeezed_length s n, lanes_length) (omega arith)

-- a sponge gives as many bytes as are asked for
pub sponge_length : (suffix : ℕ) (m : List ℕ) (d : ℕ) → length (sponge suffix m d) ≡ d
unfolding sponge
sponge_length suffix m d = length-take-le d _ (rw squeezed_length (omega arith))

-- so does SHAKE256
pub shake256_length : (m : List ℕ) (d : ℕ) → length (shake256 m d) ≡ d
unfolding shake256
shake256_length m d = sponge_length _ m d

-- more turns only append
squeezed_more : (s : List (List ℕ)) (d n k : ℕ) → d ≤ 136 * n → take d (squeezed s (n + k)) ≡ take d (squeezed s n)
unfolding squeezed
squeezed_more s d n zero h = rw add-zero
squeezed_more s d n (suc k) h =
    rw (add-suc, take-append-le d (squeezed s (n + k)) (lanes (permuted s (n + k)) 17) (rw squeezed_length (omega arith))) (squeezed_more s d n k h)

-- any two numbers of turns that suffice give the same bytes
pub squeezed_enough : (s : List (List ℕ)) (d n k : ℕ) → d ≤ 136 * n → d ≤ 136 * k → take d (squeezed s n) ≡ take d (squeezed s k)
squeezed_enough s d n k h l =
    sym (squeezed_more s d n k h) ∙ ap (λ (t : ℕ). take d (squeezed s t)) (add_comm n k) ∙ squeezed_more s d k n l

-- the first of the permutations, done before the others
pub permuted_first : (s : List (List ℕ)) (n : ℕ) → permuted (keccak_f s) n ≡ keccak_f (permuted s n)
unfolding permuted
permuted_first s zero = refl
permuted_first s (suc n) = ap keccak_f (permuted_first s n)

-- the invariant: out is old with its first i bytes given out by some turns, which began at a state that is still to be permuted
pub record Squeezing (s : List (List ℕ)) (old : List ℕ) (a : List (List ℕ)) (out : List ℕ) (i : ℕ) : Type 0 where
  pub turns : ℕ
  pub reached : a ≡ permuted s turns
  pub kept : length out ≡ length old
  pub within : i ≤ length old
  pub enough : i ≤ 136 * turns
  pub whole : i < length old → i ≡ 136 * turns
  pub written : out ≡ over old 0 (take i (squeezed (keccak_f s) turns))

-- before the first turn
pub squeezing_none : (s : List (List ℕ)) (old : List ℕ) → Squeezing s old s old 0
unfolding permuted squeezed over
squeezing_none s old =
    record { turns = 0; reached = refl; kept = refl; within = omega arith; enough = omega arith; whole = λ h. refl; written = refl }

module _ {s : List (List ℕ)} {old : List ℕ} {a : List (List ℕ)} {out : List ℕ} {i : ℕ} (q : Squeezing s old a out i) where
  -- a turn: the state is permuted, and of its lanes as many bytes as there is room for are written
  pub squeezing_more : (a' : List (List ℕ)) (block : List ℕ) (n : ℕ) → i < length old → a' ≡ keccak_f a → block ≡ lanes a' 17 → n ≡ min (length out - i) 136
      → Squeezing s old a' (over out i (take n block)) (i + n)
  unfolding permuted squeezed
  squeezing_more a' block n h p b e =
      let t = q.turns in
      let k : i ≡ 136 * t = q.whole h in
      let ys = squeezed (keccak_f s) t in
      let l : length ys ≡ 136 * t = squeezed_length (keccak_f s) t in
      let all : take i ys ≡ ys = take_all i ys (omega arith) in
      let next : a' ≡ keccak_f (permuted s t) = p ∙ ap keccak_f q.reached in
      let same : block ≡ lanes (permuted (keccak_f s) t) 17 = b ∙ ap (λ (x : List (List ℕ)). lanes x 17) (next ∙ sym (permuted_first s t)) in
      let lb : length block ≡ 136 = ap length same ∙ lanes_length _ 17 in
      let lt : length (take n block) ≡ n = length-take-le n block (omega arith) in
      let was : out ≡ over old 0 ys = q.written ∙ ap (over old 0) all in
      record {
        turns = suc t;
        reached = next;
        kept = over_length out i (take n block) (omega (arith, q.kept)) ∙ q.kept;
        within = omega (arith, q.kept);
        enough = omega (arith, q.kept);
        whole = λ g. omega (arith, q.kept);
        written = written' was l k same;
      }
    where
      written' : out ≡ over old 0 (squeezed (keccak_f s) q.turns) → length (squeezed (keccak_f s) q.turns) ≡ 136 * q.turns → i ≡ 136 * q.turns
          → block ≡ lanes (permuted (keccak_f s) q.turns) 17
          → over out i (take n block) ≡ over old 0 (take (i + n) (squeezed (keccak_f s) q.turns ++ lanes (permuted (keccak_f s) q.turns) 17))
      written' was l k same =
          let ys = squeezed (keccak_f s) q.turns in
          let zs = lanes (permuted (keccak_f s) q.turns) 17 in
          let len : i ≡ length ys = omega arith in
          ap (λ (x : List ℕ). over x i (take n block)) was
          ∙ ap (λ (x : ℕ). over (over old 0 ys) x (take n block)) (omega arith)
          ∙ over_append old 0 ys (omega arith) (take n block)
          ∙ ap (λ (x : List ℕ). over old 0 (ys ++ take n x)) same
          ∙ ap (over old 0) (sym (take-append-add ys zs n))
          ∙ ap (λ (x : ℕ). over old 0 (take (x + n) (ys ++ zs))) (sym len)

  -- after the last turn all is written
  pub squeezing_all : length old ≤ i → out ≡ take (length old) (squeezed (keccak_f s) (length old / 136 + 1))
  squeezing_all h =
      let e : i ≡ length old = omega arith in
      let l : length (take i (squeezed (keccak_f s) q.turns)) ≡ length old = length-take-le i _ (rw squeezed_length q.enough) ∙ e in
      q.written ∙ over_whole old (take i (squeezed (keccak_f s) q.turns)) l
      ∙ ap (λ (x : ℕ). take x (squeezed (keccak_f s) q.turns)) e
      ∙ squeezed_enough (keccak_f s) (length old) q.turns (length old / 136 + 1) (omega arith) (omega arith)
