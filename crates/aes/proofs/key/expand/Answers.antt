-- `aes::key::expand` meets its contract: after i turns the first i words stand there.
-- Assumes nothing.
use mathlib.Core.Path.{◌≡◌, refl, sym, ap, ◌∙◌}
use mathlib.Core.List.{List}
use Prim.Native.Nat.{ℕ}
use native.Mathlib.Omega.{arith}
use lib.ListN.{length-set}
use lib.Seq.{take_all}
use Rattle.aes.specs.Key.{words, key_expansion}
use Rattle.aes_tables.specs.Words.{schedule}
use Rattle.aes.proofs.Schedule.{words_more}
use Rattle.aes.proofs.key.expand.Goals as goal

pub loop-i-init : goal.loop-i-init
unfolding words
loop-i-init c = (omega arith, refl, refl)

pub slice_bounds-next_word-end : goal.slice_bounds-next_word-end
slice_bounds-next_word-end c = sym c.loop-i.invariant.1

pub loop-i-preserved : goal.loop-i-preserved
loop-i-preserved c =
    let turn = c.loop-i in (
      omega arith,
      length-set turn.w turn.i c.next_word.result ∙ turn.invariant.1,
      words_more c.args.key.now turn.w turn.i c.next_word.result (omega arith) turn.invariant.2 c.next_word.ensures,
    )

pub returns : goal.returns
unfolding key_expansion
returns c =
    let last = c.loop-i in
    let key = c.args.key.now in
    let e : last.i ≡ 60 = omega arith in
    ap (λ (w : List ℕ). schedule w) (sym (take_all last.i last.w (omega arith))) ∙ last.invariant.2 ∙ ap (words key) e
