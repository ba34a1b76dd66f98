-- The products are added up from zero; where no draw is refused, the total is packed.
-- Assumes nothing.
use mathlib.Core.Path.{refl, sym, ap, ◌∙◌}
use Prim.Native.Nat.{ℕ}
use native.Mathlib.Omega.{arith}
use borrow.Author.Tests.{not-false}
use lib.ListN.{replicate}
use Rattle.calls.specs.Outcome.{accepted}
use Rattle.calls.proofs.Outcome.{refuse_accepted, handed_call, accepted_call}
use Rattle.sets.proofs.Rules.{listed_rules}
use Rattle.cpa_encrypt.proofs.Adding.{total_digits, first_packed}
use Rattle.cpa_encrypt.proofs.first.first_with_buffers.Goals as goal

pub sum_products-requires : goal.sum_products-requires
sum_products-requires c =
    let pre = c.requires in
    (pre.0, pre.1, pre.2, c.load_tables.ensures, c.clear.ensures ∙ ap (λ (n : ℕ). replicate n 0) pre.5, pre.6, pre.7)

pub returns-in_err-sum_products : goal.returns-in_err-sum_products
returns-in_err-sum_products c =
    let whole = handed_call _ _ _ c.from_residual.result c.from_residual.ensures.1 (sym c.in_err-sum_products.ensures.answer) in
    record { answer = whole.0; left = whole.1 }

pub pack_into-requires : goal.pack_into-requires
pack_into-requires c =
    let added = c.sum_products in
    let p = c.args.p in
    record {
      widths = record { least = omega (arith, c.requires.0.kept_byte); most = omega (arith, (listed_rules p c.requires.1).width_most) };
      digit = total_digits p c.requires.1 c.args.seed.now c.args.multipliers.now added.new.total (c.in_ok-sum_products.ensures.result refl);
    }

pub returns : goal.returns
returns c =
    let pre = c.requires in
    let added = c.in_ok-sum_products.ensures in
    let decided = sym added.answer in
    let taken = not-false _ (refuse_accepted _ 5 0 accepted decided).0 in let whole = accepted_call _ _ decided
    (c.pack_into.ensures
    ∙ first_packed c.args.p pre.1 c.args.seed.now c.args.multipliers.now _ _ pre.2 taken pre.3 (added.result refl)) in record {
      answer = whole.0;
      left = whole.1;
    }
