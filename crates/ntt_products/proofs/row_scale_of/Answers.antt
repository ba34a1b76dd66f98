-- `ntt_products::row_scale_of` meets its contract: the inverse of the size, with the factor of the rows.
-- Assumes nothing.
use mathlib.Core.Path.{ap, ◌∙◌}
use Prim.Native.Nat.{ℕ, ◌*◌, ◌%◌, ◌^◌}
use Rattle.ntt_products.specs.Stored.{row_scale}
use Rattle.ntt_products.proofs.Sizes.{inverse_below, rules_odd}
use Rattle.ntt_products.proofs.row_scale_of.Goals as goal

pub scaled_twice-requires : goal.scaled_twice-requires
scaled_twice-requires c =
    let p = c.args.p in
    (rules_odd p c.requires, rw c.size_inverse_of.ensures (inverse_below p c.requires c.args.i))

pub returns : goal.returns
unfolding row_scale
returns c =
    let q = c.args.p.q in
    c.scaled_twice.ensures ∙ ap (λ (e : ℕ). e * (2 ^ 64 % q) % q) c.size_inverse_of.ensures
