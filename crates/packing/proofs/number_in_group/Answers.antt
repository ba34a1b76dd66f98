-- `packing::number_in_group` (003, algorithms 20 and 22) meets its contract: at most 168 bits stand before a number of a group.
-- Assumes nothing.
use mathlib.Core.Path.{ap, ◌∙◌}
use Prim.Native.Nat.{ℕ, ◌*◌, ◌/◌, ◌%◌, ◌^◌}
use native.Mathlib.Omega.{arith}
use Rattle.packing.proofs.Groups.{group_bits}
use Rattle.packing.proofs.number_in_group.Goals as goal

pub overflow_mul-bits : goal.overflow_mul-bits
overflow_mul-bits c = omega (arith, group_bits c.args.k c.args.kept c.requires.1 (omega arith))

pub overflow_add-j : goal.overflow_add-j
overflow_add-j c = omega (arith, group_bits c.args.k c.args.kept c.requires.1 (omega arith))

pub word_at-requires : goal.word_at-requires
word_at-requires c = omega (arith, group_bits c.args.k c.args.kept c.requires.1 (omega arith))

pub returns : goal.returns
returns c =
    let a = c.args in
    c.number_in.ensures ∙ ap (λ (x : ℕ). x / 2 ^ (a.k * a.kept % 8) % 2 ^ a.kept * 2 ^ a.cmp) c.word_at.ensures
