-- `ntt_plain::forward_with_buffer` meets its contract: columns, twist, rows, and the settling.
-- Assumes nothing.
use mathlib.Core.Path.{◌≡◌, sym, ◌∙◌}
use native.Mathlib.Nat.{le_of_eq}
use lib.ListN.{length}
use Rattle.ntt_plain.proofs.Steps.{columns_length, twisted_length, plain_of, RootPowers}
use Rattle.ntt_plain.proofs.Lazily.{sent_settled}
use Rattle.ntt_plain.proofs.forward_with_buffer.Goals.{After-fill_columns, After-twist}
use Rattle.ntt_plain.proofs.forward_with_buffer.Goals as goal

-- all places are filled
columns_size : (c : After-fill_columns) → length c.fill_columns.new.to ≡ length c.args.powers.now
columns_size c = c.fill_columns.ensures.kept ∙ columns_length _ _ _ _ _ _ ∙ c.requires.5

twist_size : (c : After-twist) → length c.twist.new.x ≡ length c.args.powers.now
twist_size c = c.twist.ensures.kept ∙ twisted_length _ _ _ _ ∙ columns_size (goal.at.After-twist c).After-fill_columns

pub twist-requires : goal.twist-requires
twist-requires c =
    rw c.new-reducer.ensures
    (plain_of c.requires.0 (le_of_eq (columns_size (goal.at.twist-requires c).After-fill_columns)) (rw c.new-reducer.ensures at c.fill_columns.ensures.below))

pub fill_rows-requires : goal.fill_rows-requires
fill_rows-requires c =
    let pre = c.requires in
    let size = twist_size (goal.at.fill_rows-requires c).After-twist in rw c.new-reducer.ensures (
      plain_of pre.0 (le_of_eq size) (rw c.new-reducer.ensures at c.twist.ensures.below),
      size ∙ pre.3,
      sym size,
      pre.4 ∙ sym size,
      c.scaled_scale-s.ensures,
    )

pub returns : goal.returns
returns c w table whole =
    let root : RootPowers c.args.q c.args.row c.args.count w c.args.powers.now =
    record { some_columns = c.requires.0.some_columns; size = c.requires.3; table = table; whole = whole } in
    sent_settled c.requires.0.modulus root c.args.m (length c.args.between.now) c.args.x.now c.requires.2 c.requires.1
    (c.requires.5 ∙ c.requires.3) (rw c.new-reducer.ensures at c.settling_factor-by.ensures.1) (rw c.new-reducer.ensures at c.fill_columns.ensures)
    (rw c.new-reducer.ensures at c.twist.ensures) (rw c.new-reducer.ensures at c.fill_rows.ensures) (rw c.new-reducer.ensures at c.settle.ensures)
