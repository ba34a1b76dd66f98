-- `ntt_products::correlate` meets its contract: the first n numbers are sent, multiplied by the stored vector and recovered.
-- Assumes nothing.
use mathlib.Core.Path.{◌≡◌, ap, ◌∙◌}
use mathlib.Core.List.{List}
use Prim.Native.Nat.{ℕ}
use native.Mathlib.Omega.{arith}
use lib.ListN.{take}
use Rattle.sets.proofs.Rules.{listed_rules}
use Rattle.ntt_products.specs.Stored.{sent, products}
use Rattle.ntt_products.proofs.Vectors.{sent_placed, factors}
use Rattle.ntt_products.proofs.Correlations.{products_recoverable, products_recovered}
use Rattle.ntt_products.proofs.correlate.Goals.{After-multiply, After-send_front}
use Rattle.ntt_products.proofs.correlate.Goals as goal

-- the vector that is sent
sent_is : (c : After-send_front)
    → c.send_front.new.x ≡ sent c.args.p c.args.i (take c.args.n c.args.x.now)
unfolding sent
sent_is c = c.send_front.ensures _ c.requires.1.root

-- the products
products_are : (c : After-multiply) → let p = c.args.p in
    c.multiply.new.x ≡ products p.q (sent p c.args.i (take c.args.n c.args.x.now)) c.args.stored.now
products_are c =
    rw c.new.ensures at c.multiply.ensures
    ∙ ap (λ (xs : List ℕ). products c.args.p.q xs c.args.stored.now) (sent_is (goal.at.After-multiply c).After-send_front)

pub send_front-requires : goal.send_front-requires
send_front-requires c =
    (listed_rules c.args.p c.requires.0, c.requires.1.lent, c.requires.2)

pub multiply-requires : goal.multiply-requires
multiply-requires c =
    let sent = sent_placed c.args.p c.requires.0 c.args.i (take c.args.n c.args.x.now) in
    let both = factors c.args.p c.requires.0 c.args.i (sent_is (goal.at.multiply-requires c).After-send_front) sent c.requires.4 in
    rw c.new.ensures both

pub scaled_inverse_of-requires : goal.scaled_inverse_of-requires
scaled_inverse_of-requires c =
    listed_rules c.args.p c.requires.0

pub recover_front-requires : goal.recover_front-requires
recover_front-requires c =
    products_recoverable c.args.p c.requires.0 c.args.i c.args.n c.args.x.now c.args.stored.now
    c.scaled_inverse_of.ensures (products_are (goal.at.recover_front-requires c).After-multiply) c.requires.1.lent (omega (arith, c.requires.3, c.requires.5))

pub returns : goal.returns
returns c =
    products_recovered c.args.p c.requires.0 c.args.i c.args.n c.args.x.now c.args.stored.now
    c.scaled_inverse_of.ensures (products_are (goal.at.returns c).After-multiply) c.args.m _ c.requires.1.root
    c.recover_front.ensures c.requires.3 c.requires.2 c.requires.5
