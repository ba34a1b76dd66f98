-- `sheet_text::append::Text::write` meets its contract: the bytes are copied to the front.
-- Assumes nothing.
use mathlib.Core.Path.{◌≡◌, ap, ◌∙◌}
use native.Mathlib.Omega.{arith}
use lib.ListN.{length, take, length-take}
use Rattle.calls.proofs.Region.{over_parts}
use Rattle.sheet_text.proofs.append.Text.write.Goals as goal

pub returns-clause-out_after : goal.returns-clause-out_after
returns-clause-out_after c =
    let seen : take c.self.inside.len c.self.inside.bytes ≡ c.args.self.now = c.self.view_is in
    let copied : c.copy_from_slice.new.self ≡ c.args.self.now = c.copy_from_slice.ensures.after ∙ seen in
    rw copied
    (over_parts c.args.out.now 0 c.args.self.now c.self.inside.len
    (omega (arith, ap length seen, length-take c.self.inside.len c.self.inside.bytes, c.self.told, c.self.invariant)))
