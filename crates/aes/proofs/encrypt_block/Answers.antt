-- `aes::encrypt_block` meets its contract: the cipher under the key schedule of the key.
-- Assumes nothing.
use borrow.Author.Rules.{rules}
use mathlib.Core.Path.{ap, ◌∙◌}
use mathlib.Core.List.{List}
use Prim.Native.Nat.{ℕ}
use Rattle.aes_tables.specs.State.{block_of}
use Rattle.aes.specs.Cipher.{cipher, encrypted}
use Rattle.aes.specs.Key.{aes256}
use Rattle.aes.proofs.encrypt_block.Goals as goal

pub substitution-sub-requires : goal.substitution-sub-requires
substitution-sub-requires c = search rules

pub slice_bounds-round_table-end : goal.slice_bounds-round_table-end
slice_bounds-round_table-end c = search rules

pub round_table-table-requires : goal.round_table-table-requires
round_table-table-requires c = search rules

pub slice_bounds-expand-end : goal.slice_bounds-expand-end
slice_bounds-expand-end c = search rules

pub expand-keys-requires : goal.expand-keys-requires
expand-keys-requires c = search rules

pub slice_bounds-encrypt-end : goal.slice_bounds-encrypt-end
slice_bounds-encrypt-end c = search rules

pub slice_bounds-encrypt-end-2 : goal.slice_bounds-encrypt-end-2
slice_bounds-encrypt-end-2 c = search rules

pub slice_bounds-encrypt-end-3 : goal.slice_bounds-encrypt-end-3
slice_bounds-encrypt-end-3 c = search rules

pub columns_of-requires : goal.columns_of-requires
columns_of-requires c = search rules

pub encrypt-state-requires : goal.encrypt-state-requires
encrypt-state-requires c = search rules

pub block_of-requires : goal.block_of-requires
block_of-requires c = search rules

pub returns : goal.returns
unfolding encrypted aes256
returns c =
    let expanded = c.expand-keys.ensures in
    c.block_of.ensures ∙ ap (λ (s : List (List ℕ)). block_of s) (c.encrypt-state.ensures ∙ (λ i. cipher (expanded i) (c.columns_of.ensures i)))
