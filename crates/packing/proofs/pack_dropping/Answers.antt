-- `packing::pack_dropping` (003, algorithm 19) meets its contract: after the words, byte j begins at the given bit of number i, and the bytes before it are
-- written.
-- Assumes nothing.
use mathlib.Core.Path.{refl, sym, ap, ◌∙◌}
use Prim.Native.Nat.{ℕ, ◌-◌, ◌<◌}
use native.Mathlib.Omega.{arith}
use lib.ListN.{length}
use Rattle.calls.proofs.Filled.{filled_more, filled_whole}
use Rattle.packing.specs.Dropped.{pack_dropping_of}
use Rattle.packing.proofs.Dropped.{pack_dropping_at, pack_dropping_length}
use Rattle.packing.proofs.Position.{position_given, position_next, numbers_passed}
use Rattle.packing.proofs.Words.{begun_length, begun_filled}
use Rattle.packing.proofs.pack_dropping.Goals.{then-bit-kept, else-bit-kept}
use Rattle.packing.proofs.pack_dropping.Goals as goal

pub loop-j-init : goal.loop-j-init
loop-j-init c =
    let a = c.args in (
      position_given (a.width - a.cmp) 8 c.pack_words-written.result (omega arith) c.number_with-i.ensures c.bit_of-bit.ensures,
      begun_filled (λ n. pack_dropping_of a.width a.cmp n a.numbers.now) (λ n. pack_dropping_length _ _ n _) a.out.now
          c.pack_words-written.ensures.0 c.pack_words-written.ensures.1,
    )

pub byte_of-requires : goal.byte_of-requires
byte_of-requires c = omega (arith, numbers_passed c.loop-j.invariant.0 (omega arith))

pub overflow_add-i : goal.overflow_add-i
overflow_add-i c = omega (arith, numbers_passed c.loop-j.invariant.0 (omega arith))

pub loop-j-preserved : goal.loop-j-preserved
loop-j-preserved c =
    let a = c.args in
    let now = c.loop-j in
    let p = now.invariant.0 in
    let more : now.j < length c.pack_words-written.new.out = omega arith in (
      elim c.if-bit-kept.branch [
        | then-bit-kept w ↦ position_next 1 p (omega arith) (omega arith) (omega arith)
        | else-bit-kept w ↦ position_next 0 p (omega arith) (omega arith) (omega arith)
      ],
      filled_more 0 now.invariant.1 more (omega arith)
          (c.byte_of.ensures
          ∙ sym (pack_dropping_at a.width a.cmp _ now.i now.bit now.j a.numbers.now c.requires.widths c.requires.digit p more)),
    )

pub returns : goal.returns
returns c =
    let a = c.args in
    filled_whole c.loop-j.invariant.1 refl (omega arith)
    ∙ ap (λ (n : ℕ). pack_dropping_of a.width a.cmp n a.numbers.now)
    (begun_length (λ n. pack_dropping_of a.width a.cmp n a.numbers.now) (λ n. pack_dropping_length _ _ n _) a.out.now
    c.pack_words-written.ensures.0 c.pack_words-written.ensures.1)
