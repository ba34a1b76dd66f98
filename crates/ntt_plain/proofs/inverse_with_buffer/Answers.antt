-- `ntt_plain::inverse_with_buffer` meets its contract: rows, twist, columns, and the settling.
-- Assumes nothing.
use mathlib.Core.Path.{◌≡◌, sym, ◌∙◌}
use native.Mathlib.Nat.{le_of_eq, le_trans}
use lib.ListN.{length}
use Rattle.ntt_plain.proofs.Steps.{rows_length, twisted_length, plain_of, RootPowers}
use Rattle.ntt_plain.proofs.Lazily.{recovered_settled}
use Rattle.ntt_plain.proofs.inverse_with_buffer.Goals.{After-fill_rows, After-twist}
use Rattle.ntt_plain.proofs.inverse_with_buffer.Goals as goal

-- all places are filled
rows_size : (c : After-fill_rows) → length c.fill_rows.new.to ≡ length c.args.x.now
rows_size c = c.fill_rows.ensures.kept ∙ rows_length _ _ _ _ _

twist_size : (c : After-twist) → length c.twist.new.x ≡ length c.args.x.now
twist_size c = c.twist.ensures.kept ∙ twisted_length _ _ _ _ ∙ rows_size (goal.at.After-twist c).After-fill_rows

pub twist-requires : goal.twist-requires
twist-requires c =
    let pre = c.requires in
    rw c.new-reducer.ensures
    (plain_of pre.0 (le_of_eq (rows_size (goal.at.twist-requires c).After-fill_rows ∙ sym pre.2)) (rw c.new-reducer.ensures at c.fill_rows.ensures.below))

pub fill_columns-requires : goal.fill_columns-requires
fill_columns-requires c =
    let pre = c.requires in
    let size = twist_size (goal.at.fill_columns-requires c).After-twist in rw c.new-reducer.ensures (
      plain_of pre.0 (le_of_eq (size ∙ sym pre.2)) (rw c.new-reducer.ensures at c.twist.ensures.below),
      size ∙ pre.1,
      le_trans pre.4 (le_of_eq (sym pre.2)),
      c.scaled_scale-s.ensures,
    )

pub returns : goal.returns
returns c w m table whole size fits =
    let root : RootPowers c.args.q c.args.row c.args.count w c.args.powers.now =
    record { some_columns = c.requires.0.some_columns; size = c.requires.2 ∙ c.requires.1; table = table; whole = whole } in
    recovered_settled c.requires.0.modulus root m (length c.args.out.now) c.args.x.now fits c.args.e c.requires.1
    size (rw c.new-reducer.ensures at c.settling_factor-by.ensures.1) (rw c.new-reducer.ensures at c.fill_rows.ensures)
    (rw c.new-reducer.ensures at c.twist.ensures) (rw c.new-reducer.ensures at c.fill_columns.ensures) (rw c.new-reducer.ensures at c.settle.ensures)
