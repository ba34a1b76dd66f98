-- The invariant of the loop over the blocks of a uniform draw from a seed.
-- Assumes nothing.
use mathlib.Core.Path.{◌≡◌, refl, sym, ap, ◌∙◌}
use mathlib.Core.List.{List, [], ◌++◌}
use Prim.Native.Nat.{ℕ, suc, ◌+◌, ◌-◌, ◌*◌, ◌^◌, ◌≤◌, ◌<◌}
use native.Mathlib.Nat.{zero-add}
use native.Mathlib.Omega.{arith}
use lib.ListN.{length, length-append}
use Rattle.calls.specs.Region.{over}
use Rattle.calls.proofs.Region.{over_append, over_whole}
use Rattle.sets.specs.declared.Parameters.{Parameters}
use Rattle.draws.specs.Uniform.{candidates, Drawn, taken, ended, exhausted, accept, after, resume}
use Rattle.draws.proofs.Accept.{Within, accept_within}
use Rattle.draws.proofs.Candidates.{candidates_length}
use Rattle.byte_source.specs.Source.{state_at, output}
use Rattle.byte_source.proofs.Laws.{output_length}
use Rattle.samplers.specs.Blocks.{Sampled, sampled, one_block, uniform_after, uniform, onto, refusal, uniform_answer}
use Rattle.samplers.specs.Blocks.{reached, stopped, standing_after, Written}
use Rattle.samplers.proofs.Continuing.{after_taken, after_ended, after_exhausted, over_none}
use Rattle.samplers.proofs.Uniform.{after_none, after_next, after_most, drawn_ended, drawn_length, uniform_settled}

-- a block that did not suffice
record Partly (used done : ℕ) (drawn : Drawn) (reached run : ℕ) (old new : List ℕ) : Type 0 where
  xs : List ℕ
  is : drawn ≡ ended xs run
  count : reached ≡ done + length xs
  some : used < 128 * length xs + 128
  written : new ≡ over old done xs

partly : (wanted used done count aside : ℕ) (drawn : Drawn) (old new : List ℕ) → Within wanted used drawn → (count ≡ done + wanted → ⊥) →
    reached count aside ≡ standing_after done drawn → Written done drawn old new → Partly used done drawn count aside old new
partly wanted used done count aside (taken xs) old new all n e w = let z : count ≡ done + length xs = cc in absurd (n (omega arith))
partly wanted used done count aside (ended xs more) old new short n e w =
    record { xs = xs; is = cc; count = cc; some = omega (arith, short.most, short.less); written = w }
partly wanted used done count aside (exhausted i) old new all n e w = let z : ◌≡◌ {A = ℕ} 0 1 = cc in absurd (omega arith)

-- a block that gave all results
record Wholly (done : ℕ) (drawn : Drawn) (old new : List ℕ) : Type 0 where
  xs : List ℕ
  is : drawn ≡ taken xs
  written : new ≡ over old done xs

wholly : (wanted used done count aside : ℕ) (drawn : Drawn) (old new : List ℕ) → Within wanted used drawn → count ≡ done + wanted →
    reached count aside ≡ standing_after done drawn → Written done drawn old new → Wholly done drawn old new
wholly wanted used done count aside (taken xs) old new all n e w = record { xs = xs; is = refl; written = w }
wholly wanted used done count aside (ended xs more) old new short n e w = let z : count ≡ done + length xs = cc in absurd (omega (arith, short.finished))
wholly wanted used done count aside (exhausted i) old new all n e w = let z : ◌≡◌ {A = ℕ} 0 1 = cc in absurd (omega arith)

-- a block in which a draw was refused
record Refused (drawn : Drawn) (number : ℕ) : Type 0 where
  place : ℕ
  is : drawn ≡ exhausted place
  five : number ≡ 5

refused : (done number : ℕ) (drawn : Drawn) → stopped number ≡ standing_after done drawn → Refused drawn number
refused done number (taken xs) e = let z : ◌≡◌ {A = ℕ} 0 1 = cc in absurd (omega arith)
refused done number (ended xs more) e = let z : ◌≡◌ {A = ℕ} 0 1 = cc in absurd (omega arith)
refused done number (exhausted i) e = record { place = i; is = refl; five = cc }

-- after some blocks, none of which sufficed: the numbers taken stand in the output, and the source has a next counter
pub record Drawing (p : Parameters) (seed : List ℕ) (size first : ℕ) (old : List ℕ) (counter done run : ℕ) (new : List ℕ) : Type 0 where
  pub blocks : ℕ
  pub numbers : List ℕ
  pub drawn : uniform_after p (state_at seed first) size (length old) blocks ≡ sampled (ended numbers run) (state_at seed counter)
  pub count : done ≡ length numbers
  pub few : blocks ≤ done
  pub unfinished : done < length old
  pub less : run < 128
  pub kept : length new ≡ length old
  pub written : new ≡ over old 0 numbers

-- before the first block
pub drawing_none : (p : Parameters) (seed : List ℕ) (size first : ℕ) (old : List ℕ) → 0 < length old → Drawing p seed size first old first 0 0 old
drawing_none p seed size first old h =
    record {
      blocks = 0;
      numbers = [];
      drawn = after_none p (state_at seed first) size (length old) h;
      count = refl;
      few = omega arith;
      unfinished = h;
      less = omega arith;
      kept = refl;
      written = sym (over_none old 0);
    }

module _ {p : Parameters} {seed : List ℕ} {size first : ℕ} {old : List ℕ} {counter done run : ℕ} {new : List ℕ}
    (s : Drawing p seed size first old counter done run new)
  where
    -- the counter of the output after the next one fits
    pub drawing_fits : size ≤ 10158 → first + 10159 * length old < 2 ^ 32 → counter + size + 1 < 2 ^ 32
    drawing_fits small low =
        let risen = after_most p (state_at seed first) size (length old) s.blocks small in
        let now : counter ≤ first + 10159 * s.blocks = rw s.drawn at risen in
        omega (arith, s.few, s.unfinished)

    module _ (bytes : List ℕ) (next : ℕ) (filled : bytes ≡ (output p (state_at seed counter) size).bytes)
        (moved : state_at seed next ≡ (output p (state_at seed counter) size).next)
      where
        -- the draw that goes on over the next block
        abbrev over_block : Drawn
        over_block = accept p.q p.zqrej (length new - done) run (candidates bytes)

        -- how many results it gives
        sized : Within (length new - done) (length (candidates bytes) + run) over_block
        sized = accept_within p.q p.zqrej (length new - done) run (candidates bytes) s.less

        -- with it, one block more
        onwards : uniform_after p (state_at seed first) size (length old) (suc s.blocks) ≡ sampled (after s.numbers over_block) (state_at seed next)
        unfolding one_block resume
        onwards =
            after_next p (state_at seed first) size (length old) s.blocks (ended s.numbers run) (state_at seed counter) s.drawn
            ∙ rw (s.kept, s.count, filled, moved)

        -- the numbers of the next block stand behind those before it
        behind : (xs : List ℕ) → over new done xs ≡ over old 0 (s.numbers ++ xs)
        behind xs =
            rw (s.written, s.count)
            (ap (λ (k : ℕ). over (over old 0 s.numbers) k xs) (sym (zero-add (length s.numbers)))
            ∙ over_append old 0 s.numbers (omega (arith, s.count, s.unfinished)) xs)

        module _ (after_block : List ℕ) where
          -- the next block does not suffice either
          module _ (reach aside : ℕ) (large : 384 ≤ size) (kept : length after_block ≡ length new) (n : reach ≡ length after_block → ⊥)
              (e : reached reach aside ≡ standing_after done over_block) (w : Written done over_block new after_block)
            where
              some_missing : reach ≡ done + (length new - done) → ⊥
              some_missing all = n (omega (arith, s.kept, s.unfinished))

              -- it gives a result
              pub drawing_rises : done < reach
              drawing_rises =
                  let block = partly _ _ done reach aside over_block new after_block sized some_missing e w in
                  let many : length bytes ≡ size = ap length filled ∙ output_length p (state_at seed counter) size in
                  omega (arith, block.count, block.some, candidates_length bytes)

              pub drawing_more : Drawing p seed size first old next reach aside after_block
              drawing_more =
                  let block = partly _ _ done reach aside over_block new after_block sized some_missing e w in
                  let zs = s.numbers ++ block.xs in
                  let drawn : uniform_after p (state_at seed first) size (length old) (suc s.blocks) ≡ sampled (ended zs aside) (state_at seed next) =
                  onwards
                  ∙ ap (λ (d : Drawn). sampled (after s.numbers d) (state_at seed next)) block.is
                  ∙ ap (λ (d : Drawn). sampled d (state_at seed next)) (after_ended s.numbers block.xs aside) in
                  let bounds = drawn_ended p (state_at seed first) size (length old) (suc s.blocks) zs aside large (ap (λ (x : Sampled). x.drawn) drawn) in
                  let count : reach ≡ length zs = rw length-append (omega (arith, block.count, s.count)) in
                  record {
                    blocks = suc s.blocks;
                    numbers = zs;
                    drawn = drawn;
                    count = count;
                    few = omega (arith, bounds.few);
                    unfinished = omega (arith, bounds.short);
                    less = bounds.less;
                    kept = kept ∙ s.kept;
                    written = block.written ∙ behind block.xs;
                  }

          -- the next block gives all results
          pub drawing_all : (count aside : ℕ) → length after_block ≡ length new → count ≡ length after_block →
              reached count aside ≡ standing_after done over_block → Written done over_block new after_block
              → (onto (state_at seed next) ≡ uniform_answer p (state_at seed first) size (length old))
              × ((xs : List ℕ) → (uniform p (state_at seed first) size (length old)).drawn ≡ taken xs → after_block ≡ xs)
          unfolding uniform_answer one_block
          drawing_all reach aside kept n e w =
              let block = wholly _ _ done reach aside over_block new after_block sized (omega (arith, s.kept, s.unfinished)) e w in
              let zs = s.numbers ++ block.xs in
              let drawn : uniform_after p (state_at seed first) size (length old) (suc s.blocks) ≡ sampled (taken zs) (state_at seed next) =
              onwards
              ∙ ap (λ (d : Drawn). sampled (after s.numbers d) (state_at seed next)) block.is
              ∙ ap (λ (d : Drawn). sampled d (state_at seed next)) (after_taken s.numbers block.xs) in
              let whole =
              uniform_settled p (state_at seed first) size (length old) (suc s.blocks) (taken zs) (state_at seed next) drawn refl
              (omega (arith, s.few, s.unfinished)) in
              let size_is = drawn_length p (state_at seed first) size (length old) (suc s.blocks) zs (ap (λ (x : Sampled). x.drawn) drawn) in
              let out : after_block ≡ zs = block.written ∙ behind block.xs ∙ over_whole old zs size_is in
              (rw whole, λ xs t. let same : taken xs ≡ taken zs = sym t ∙ ap (λ (x : Sampled). x.drawn) whole in cc)

          -- a result is refused in the next block
          pub drawing_refused : (number : ℕ) → stopped number ≡ standing_after done over_block
              → (refusal number ≡ uniform_answer p (state_at seed first) size (length old))
              × ((xs : List ℕ) → (uniform p (state_at seed first) size (length old)).drawn ≡ taken xs → after_block ≡ xs)
          unfolding uniform_answer one_block
          drawing_refused number e =
              let block = refused done number over_block e in
              let place = length s.numbers + block.place in
              let drawn : uniform_after p (state_at seed first) size (length old) (suc s.blocks) ≡ sampled (exhausted place) (state_at seed next) =
              onwards
              ∙ ap (λ (d : Drawn). sampled (after s.numbers d) (state_at seed next)) block.is
              ∙ ap (λ (d : Drawn). sampled d (state_at seed next)) (after_exhausted s.numbers block.place) in
              let whole =
              uniform_settled p (state_at seed first) size (length old) (suc s.blocks) (exhausted place) (state_at seed next) drawn refl
              (omega (arith, s.few, s.unfinished)) in (
                rw (whole, block.five),
                λ xs t.
                    let both : exhausted place ≡ taken xs = rw whole at t in
                    let z : ◌≡◌ {A = ℕ} 0 1 = cc in
                    absurd (omega arith),
              )
