-- `cpa_encrypt::key_below` meets its contract: the numbers checked are those of the key.
-- Assumes nothing.
use mathlib.Core.Path.{sym}
use Prim.Native.Nat.{◌*◌, ◌≤◌}
use native.Mathlib.Omega.{arith}
use lib.ListN.{length}
use Rattle.calls.proofs.Parts.{front_length}
use Rattle.sets.proofs.Rules.{listed_rules}
use Rattle.cpa_encrypt.proofs.Sealed.{ends, key_answer_lem}
use Rattle.cpa_encrypt.proofs.key_below.Goals.{Start}
use Rattle.cpa_encrypt.proofs.key_below.Goals as goal

-- the numbers of the key fit
fits : (c : Start) → c.args.p.d1 * c.args.p.t ≤ length c.args.work.now
fits c = omega (arith, (ends c.args.p c.requires.1).numbers_fit, c.requires.3)

-- so does the seed
seed_fits : (c : Start) → 32 ≤ length c.args.key.now
seed_fits c = omega (arith, (ends c.args.p c.requires.1).seed_fits, c.requires.2)

pub overflow_mul-keys : goal.overflow_mul-keys
overflow_mul-keys c = omega (arith, (ends c.args.p c.requires.1).few_numbers)

pub slice_bounds-read_key-count : goal.slice_bounds-read_key-count
slice_bounds-read_key-count c = omega (arith, seed_fits (goal.at.slice_bounds-read_key-count c).Start)

pub slice_bounds-read_key-start : goal.slice_bounds-read_key-start
slice_bounds-read_key-start c = omega (arith, seed_fits (goal.at.slice_bounds-read_key-start c).Start)

pub slice_bounds-read_key-end-2 : goal.slice_bounds-read_key-end-2
slice_bounds-read_key-end-2 c = omega (arith, fits (goal.at.slice_bounds-read_key-end-2 c).Start)

pub read_key-requires : goal.read_key-requires
read_key-requires c = (listed_rules c.args.p c.requires.1, c.requires.0)

pub returns : goal.returns
returns c =
    let p = c.args.p in
    sym
    (key_answer_lem p c.args.key.now _ _ (front_length c.args.work.now (p.d1 * p.t) (omega (arith, fits (goal.at.returns c).Start))) c.read_key.ensures.answer)
