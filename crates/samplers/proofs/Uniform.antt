-- Laws of uniform draws from a state of the byte source: how many blocks suffice, how far the counter rises, and the numbers taken.
-- Assumes nothing.
use mathlib.Core.Path.{◌≡◌, refl, sym, ap, ◌∙◌}
use mathlib.Core.List.{List, [], ◌++◌}
use Prim.Native.Nat.{ℕ, zero, suc, ◌+◌, ◌-◌, ◌*◌, ◌/◌, ◌≤◌, ◌<◌}
use native.Mathlib.Nat.{add-zero, add-suc, mul-le-mul_left}
use native.Mathlib.Omega.{arith}
use lib.ListN.{length, get_or, length-append}
use Rattle.sets.specs.declared.Parameters.{Parameters}
use Rattle.draws.specs.Uniform.{candidates, Drawn, taken, ended, exhausted, numbers, accept, resume}
use Rattle.draws.proofs.Candidates.{candidates_length}
use Rattle.draws.proofs.Accept.{Short, Within, accept_end, accept_append, accept_within, accept_below}
use Rattle.byte_source.specs.Source.{State, output}
use Rattle.byte_source.proofs.Laws.{output_length, output_most}
use Rattle.samplers.specs.Blocks.{Sampled, sampled, one_block, uniform_after, uniform}

-- a draw that ended after some blocks: each of them gave a result
pub record Unfinished (wanted blocks : ℕ) (xs : List ℕ) (run : ℕ) : Type 0 where
  pub few : blocks ≤ length xs
  pub short : length xs < wanted
  pub less : run < 128

-- the numbers of a draw are at most as many as wanted
within_short : (wanted used : ℕ) (drawn : Drawn) → Within wanted used drawn → length (numbers drawn) ≤ wanted
unfolding numbers
within_short wanted used (taken xs) w = omega arith
within_short wanted used (ended xs run) w = omega (arith, w.finished)
within_short wanted used (exhausted i) w = omega arith

module _ (p : Parameters) (state : State) (size wanted : ℕ) where
  -- one block more
  pub after_next : (m : ℕ) (drawn : Drawn) (next : State) → uniform_after p state size wanted m ≡ sampled drawn next
      → uniform_after p state size wanted (suc m) ≡ one_block p size wanted drawn next
  unfolding uniform_after
  after_next m drawn next e = ap (λ (s : Sampled). one_block p size wanted s.drawn s.next) e

  -- from no block
  pub after_none : 0 < wanted → uniform_after p state size wanted 0 ≡ sampled (ended [] 0) state
  unfolding uniform_after
  after_none h =
      let some : wanted ≡ suc (wanted - 1) = omega arith in
      ap (λ (n : ℕ). sampled (accept p.q p.zqrej n 0 []) state) some ∙ ap (λ (d : Drawn). sampled d state) (accept_end p.q p.zqrej (wanted - 1) 0)

  -- a draw that one block more does not change is the whole draw
  module _ (m : ℕ) (drawn : Drawn) (next : State) (e : uniform_after p state size wanted m ≡ sampled drawn next)
      (still : one_block p size wanted drawn next ≡ sampled drawn next)
    where
      settled : (k : ℕ) → uniform_after p state size wanted (m + k) ≡ sampled drawn next
      settled zero = rw add-zero e
      settled (suc k) = rw add-suc (after_next (m + k) drawn next (settled k) ∙ still)

      pub uniform_settled : m ≤ wanted → uniform p state size wanted ≡ sampled drawn next
      unfolding uniform
      uniform_settled few =
          let k : wanted ≡ m + (wanted - m) = omega arith in
          ap (uniform_after p state size wanted) k ∙ settled (wanted - m)

  -- the candidates of m blocks, one after the other
  unfoldable read : ℕ → List ℕ
  read zero = []
  read (suc m) = read m ++ candidates (output p (uniform_after p state size wanted m).next size).bytes

  -- their count
  read_length : (m : ℕ) → length (read m) ≡ m * (size / 3)
  unfolding read
  read_length zero = omega arith
  read_length (suc m) = rw (length-append, read_length m, candidates_length, output_length) (omega arith)

  -- what one block more draws
  block_drawn : (drawn : Drawn) (next : State)
      → (one_block p size wanted drawn next).drawn ≡ resume p.q p.zqrej wanted drawn (candidates (output p next size).bytes)
  unfolding one_block resume
  block_drawn (taken xs) next = refl
  block_drawn (ended xs run) next = refl
  block_drawn (exhausted i) next = refl

  -- a draw is that of all candidates read
  drawn_read : (m : ℕ) → (uniform_after p state size wanted m).drawn ≡ accept p.q p.zqrej wanted 0 (read m)
  unfolding uniform_after read
  drawn_read zero = refl
  drawn_read (suc m) =
      block_drawn (uniform_after p state size wanted m).drawn (uniform_after p state size wanted m).next
      ∙ ap (λ (d : Drawn). resume p.q p.zqrej wanted d (candidates (output p (uniform_after p state size wanted m).next size).bytes)) (drawn_read m)
      ∙ sym (accept_append p.q p.zqrej wanted 0 (read m) (candidates (output p (uniform_after p state size wanted m).next size).bytes))

  -- so it keeps within bounds
  drawn_within : (m : ℕ) → Within wanted (length (read m) + 0) (uniform_after p state size wanted m).drawn
  drawn_within m = rw (drawn_read m) (accept_within p.q p.zqrej wanted 0 (read m) (omega arith))

  -- a draw that ended has a result from each block
  pub drawn_ended : (m : ℕ) (xs : List ℕ) (run : ℕ) → 384 ≤ size → (uniform_after p state size wanted m).drawn ≡ ended xs run → Unfinished wanted m xs run
  drawn_ended m xs run large e =
      let s : Short wanted (length (read m) + 0) xs run = rw e at (drawn_within m) in
      let many : m * 128 ≤ m * (size / 3) = mul-le-mul_left m (omega arith) in
      record { few = omega (arith, s.most, s.less, read_length m); short = s.finished; less = s.less }

  -- a draw that has its numbers has as many as are wanted
  pub drawn_length : (m : ℕ) (xs : List ℕ) → (uniform_after p state size wanted m).drawn ≡ taken xs → length xs ≡ wanted
  drawn_length m xs e = rw e at (drawn_within m)

  -- how far one block raises the counter
  block_most : (drawn : Drawn) (next : State) → (one_block p size wanted drawn next).next.counter ≤ next.counter + size + 1
  unfolding one_block
  block_most (taken xs) next = omega arith
  block_most (ended xs run) next = output_most p next size
  block_most (exhausted i) next = omega arith

  -- and how far some blocks do
  pub after_most : (m : ℕ) → size ≤ 10158 → (uniform_after p state size wanted m).next.counter ≤ state.counter + 10159 * m
  unfolding uniform_after
  after_most zero few = omega arith
  after_most (suc m) few =
      omega (arith, after_most m few, block_most (uniform_after p state size wanted m).drawn (uniform_after p state size wanted m).next)

  -- the whole draw: it never ends where a block holds 128 candidates or more
  pub uniform_never_ends : (xs : List ℕ) (run : ℕ) → 384 ≤ size → (uniform p state size wanted).drawn ≡ ended xs run → ⊥
  unfolding uniform
  uniform_never_ends xs run large e = let s = drawn_ended wanted xs run large e in omega (arith, s.few, s.short)

  -- the numbers of a draw are as many as wanted
  pub uniform_length : (xs : List ℕ) → (uniform p state size wanted).drawn ≡ taken xs → length xs ≡ wanted
  unfolding uniform
  uniform_length xs e = drawn_length wanted xs e

  -- or fewer where it is refused
  pub uniform_short : length (numbers (uniform p state size wanted).drawn) ≤ wanted
  unfolding uniform
  uniform_short = within_short wanted _ (uniform_after p state size wanted wanted).drawn (drawn_within wanted)

  -- and are residues
  pub uniform_below : 0 < p.q → (i : ℕ) → get_or (numbers (uniform p state size wanted).drawn) i 0 < p.q
  unfolding uniform
  uniform_below h i = rw (drawn_read wanted) (accept_below p.q p.zqrej wanted 0 (read wanted) i h)

  -- how far a draw raises the counter
  pub uniform_most : size ≤ 10158 → (uniform p state size wanted).next.counter ≤ state.counter + 10159 * wanted
  unfolding uniform
  uniform_most few = after_most wanted few
