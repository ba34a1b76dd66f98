-- The numbers of a are copied to the front, and turned round there.
-- Assumes nothing.
use mathlib.Core.Path.{◌≡◌, ap, sym, ◌∙◌}
use mathlib.Core.List.{reverse}
use Prim.Native.Nat.{◌-◌}
use native.Mathlib.Nat.{zero-add}
use native.Mathlib.Omega.{arith}
use lib.ListN.{length, take, drop}
use Rattle.std.proofs.lemmas.List.{length-reverse, get_or-reverse}
use Rattle.maths.specs.Vector.{at, tabulate}
use Rattle.maths.proofs.Vector.{tabulate_unique, tabulate_length}
use Rattle.calls.proofs.Parts.{part_long}
use Rattle.calls.proofs.Region.{over_lent, over_whole}
use Rattle.ntt_middle_checks.proofs.load_reversed.Goals.{Start}
use Rattle.ntt_middle_checks.proofs.load_reversed.Goals as goal

-- the front has a place for each number
as_many : (c : Start) → length (take (length c.args.a.now - 0) (drop 0 c.args.x.now)) ≡ length c.args.a.now
as_many c = part_long c.args.x.now 0 (length c.args.a.now) c.requires ∙ omega arith

pub copy_in-requires : goal.copy_in-requires
copy_in-requires c = omega (arith, as_many (goal.at.copy_in-requires c).Start)

pub returns : goal.returns
returns c =
    let a = c.args.a.now in
    let copied : c.copy_in.new.dst ≡ a = c.copy_in.ensures ∙ over_whole _ _ (sym (as_many (goal.at.returns c).Start)) in
    let back : c.reverse.new.self ≡ tabulate (length a) (λ j. at a (length a - 1 - j)) =
    c.reverse.ensures.after ∙ ap reverse copied
    ∙ tabulate_unique (length a) _ (reverse a) (length-reverse a) (λ i h. get_or-reverse a i 0 h) in
    rw back (over_lent c.args.x.now 0 _ (length a) (sym (zero-add _ ∙ tabulate_length (length a) _)))
