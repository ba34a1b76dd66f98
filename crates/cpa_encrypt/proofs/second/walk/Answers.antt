-- The walk is given the numbers of the set.
-- Assumes nothing.
use mathlib.Core.Path.{◌∙◌}
use Rattle.sets.proofs.Rules.{listed_rules}
use Rattle.ntt_products.proofs.Laws.{rules_odd}
use Rattle.cpa_encrypt.proofs.Walk.{walk_ready, walk_added}
use Rattle.cpa_encrypt.proofs.second.walk.Goals as goal

pub row_scale_of-by-requires : goal.row_scale_of-by-requires
row_scale_of-by-requires c = listed_rules c.args.p c.requires.1

pub half_modulus-half-requires : goal.half_modulus-half-requires
half_modulus-half-requires c = listed_rules c.args.p c.requires.1

pub rows_of-count-requires : goal.rows_of-count-requires
rows_of-count-requires c = listed_rules c.args.p c.requires.1

pub new-reducer-requires : goal.new-reducer-requires
new-reducer-requires c = rules_odd _ (listed_rules c.args.p c.requires.1)

pub fill-requires : goal.fill-requires
fill-requires c =
    let pre = c.requires in
    rw c.new-reducer.ensures
    (walk_ready c.args.p pre.0 pre.1 _ _ _ _ c.row_scale_of-by.ensures c.half_modulus-half.ensures c.rows_of-count.ensures pre.4
    c.args.rows.now pre.2 pre.3)

pub returns : goal.returns
returns c sums recovered =
    let pre = c.requires in
    rw c.new-reducer.ensures at c.fill.ensures
    ∙ walk_added c.args.p pre.0 pre.1 _ _ _ _ c.row_scale_of-by.ensures c.half_modulus-half.ensures c.rows_of-count.ensures pre.4
    c.args.rows.now sums c.args.message.now recovered
