-- `calls::clear_at` meets its contract: a part of the slice was lent and came back as zeros.
-- Assumes nothing.
use mathlib.Core.Path.{◌≡◌, refl, sym, ap, ◌∙◌}
use Prim.Native.Nat.{ℕ, ◌+◌}
use lib.ListN.{replicate, length-replicate}
use Rattle.calls.proofs.Region.{over_lent, region_part, region_length}
use Rattle.calls.proofs.clear_at.Goals as goal

pub returns : goal.returns
returns c =
    let whole = region_part c.args.work.now c.args.at c.args.n (c.args.at + c.args.n) refl in
    let zeros : c.fill.new.self ≡ replicate {A = ℕ} c.args.n 0 =
    c.fill.ensures.after (λ y e. e) ∙ rw (whole, region_length c.args.work.now c.args.at c.args.n c.requires) refl in
    rw zeros (over_lent c.args.work.now c.args.at (replicate c.args.n 0) (c.args.at + c.args.n)
    (ap (λ (n : ℕ). c.args.at + n) (sym (length-replicate {A = ℕ} c.args.n 0))))
