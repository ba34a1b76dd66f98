-- The numbers of the key and the multipliers stand side by side in the work slice.
-- Assumes nothing.
use mathlib.Core.Path.{◌≡◌, sym, ◌∙◌}
use mathlib.Core.List.{List, ◌++◌}
use Prim.Native.Nat.{ℕ, ◌+◌, ◌-◌, ◌*◌, ◌≤◌}
use native.Mathlib.Omega.{arith}
use lib.ListN.{length, take, drop}
use Rattle.scheme.specs.Answers.{only_residues}
use Rattle.scheme.specs.Encryption.{key_numbers}
use Rattle.calls.proofs.Parts.{front_length, back_length, part_long}
use Rattle.sets.proofs.Rules.{listed_rules}
use Rattle.cpa_encrypt.proofs.Sealed.{ends, key_numbers_lem, key_answer_lem, loaded}
use Rattle.cpa_encrypt.proofs.load.Goals.{After-multiplier_count, After-multipliers_from, After-read_key-below, Start}
use Rattle.cpa_encrypt.proofs.load.Goals as goal

-- how many numbers the key has
abbrev keys : Start → ℕ
keys c = c.args.p.d1 * c.args.p.t

-- the numbers of the key and the multipliers fit
fits : (c : After-multiplier_count) → keys (goal.at.After-multiplier_count c).Start + c.multiplier_count.result ≤ length c.args.work.now
fits c = omega (arith, (ends c.args.p c.requires.1).numbers_fit, c.multiplier_count.ensures, c.requires.3)

-- so do the seed and what follows it
seed_fits : (c : Start) → 32 ≤ length c.args.key.now
seed_fits c = omega (arith, (ends c.args.p c.requires.1).seed_fits, c.requires.2)

-- few numbers
few : (c : After-multiplier_count) → keys (goal.at.After-multiplier_count c).Start + c.multiplier_count.result ≤ 18432
few c =
    let ending = ends c.args.p c.requires.1 in
    omega (arith, ending.few_numbers, ending.few_multipliers, c.multiplier_count.ensures)

pub overflow_mul-keys : goal.overflow_mul-keys
overflow_mul-keys c = omega (arith, (ends c.args.p c.requires.1).few_numbers)

pub multiplier_count-requires : goal.multiplier_count-requires
multiplier_count-requires c = listed_rules c.args.p c.requires.1

pub overflow_add-end : goal.overflow_add-end
overflow_add-end c = omega (arith, few c)

pub slice_bounds-read_key-count : goal.slice_bounds-read_key-count
slice_bounds-read_key-count c = omega (arith, seed_fits (goal.at.slice_bounds-read_key-count c).Start)

pub slice_bounds-read_key-start : goal.slice_bounds-read_key-start
slice_bounds-read_key-start c = omega (arith, seed_fits (goal.at.slice_bounds-read_key-start c).Start)

pub slice_bounds-read_key-end-2 : goal.slice_bounds-read_key-end-2
slice_bounds-read_key-end-2 c = omega (arith, fits (goal.at.slice_bounds-read_key-end-2 c).After-multiplier_count)

pub read_key-below-requires : goal.read_key-below-requires
read_key-below-requires c = (listed_rules c.args.p c.requires.1, c.requires.0)

-- the numbers of the key fill the first part of the work slice
part_size : (c : After-read_key-below)
    → length (take (keys (goal.at.After-read_key-below c).Start - 0) (drop 0 c.args.work.now)) ≡ keys (goal.at.After-read_key-below c).Start
part_size c =
    front_length c.args.work.now (keys (goal.at.After-read_key-below c).Start) (omega (arith, fits (goal.at.After-read_key-below c).After-multiplier_count))

numbers_size : (c : After-read_key-below) → length c.read_key-below.new.numbers ≡ keys (goal.at.After-read_key-below c).Start
numbers_size c = c.read_key-below.auto.numbers ∙ part_size c

-- the answer of the check, and the numbers
checked : (c : After-read_key-below) → only_residues c.args.p.q (key_numbers c.args.p c.args.key.now) ≡ c.read_key-below.result
checked c = key_answer_lem c.args.p c.args.key.now _ _ (part_size c) c.read_key-below.ensures.answer

numbers_are : (c : After-read_key-below) → c.read_key-below.new.numbers ≡ key_numbers c.args.p c.args.key.now
numbers_are c = c.read_key-below.ensures.result ∙ key_numbers_lem c.args.p c.args.key.now _ (part_size c)

pub offset_bounds-work-keys : goal.offset_bounds-work-keys
offset_bounds-work-keys c = omega (arith, few (goal.at.offset_bounds-work-keys c).After-multiplier_count)

-- the work slice with the numbers written
abbrev written : After-read_key-below → List ℕ
written c = let work = c.args.work.now in take 0 work ++ (c.read_key-below.new.numbers ++ drop (keys (goal.at.After-read_key-below c).Start - 0) (drop 0 work))

-- it keeps its length
read_size : (c : After-read_key-below) → length (written c) ≡ length c.args.work.now
read_size c =
    back_length c.args.work.now c.read_key-below.new.numbers (keys (goal.at.After-read_key-below c).Start) (numbers_size c)
    (omega (arith, fits (goal.at.After-read_key-below c).After-multiplier_count))

pub slice_bounds-multipliers_from-end-2 : goal.slice_bounds-multipliers_from-end-2
slice_bounds-multipliers_from-end-2 c =
    omega (
      arith,
      read_size (goal.at.slice_bounds-multipliers_from-end-2 c).After-read_key-below,
      fits (goal.at.slice_bounds-multipliers_from-end-2 c).After-multiplier_count,
    )

-- the part of the multipliers
multipliers_size : (c : After-read_key-below) → let from = keys (goal.at.After-read_key-below c).Start in
    let end = from + c.multiplier_count.result in
    length (take (end - from) (drop from (written c))) ≡ end - from
multipliers_size c =
    part_long (written c) (keys (goal.at.After-read_key-below c).Start) (keys (goal.at.After-read_key-below c).Start + c.multiplier_count.result)
    (omega (arith, read_size c, fits (goal.at.After-read_key-below c).After-multiplier_count))

pub multipliers_from-requires : goal.multipliers_from-requires
multipliers_from-requires c =
    let count = c.multiplier_count.result in
    let left : keys (goal.at.multipliers_from-requires c).Start + count - keys (goal.at.multipliers_from-requires c).Start ≡ count = omega arith in (
      listed_rules c.args.p c.requires.1,
      c.requires.0,
      omega (arith, c.told-seed),
      multipliers_size (goal.at.multipliers_from-requires c).After-read_key-below ∙ left ∙ c.multiplier_count.ensures,
    )

-- the multipliers fill their part
drawn_size : (c : After-multipliers_from) → let from = keys (goal.at.After-multipliers_from c).Start in
    length c.multipliers_from.new.out ≡ from + c.multiplier_count.result - from
drawn_size c = c.multipliers_from.auto.out ∙ multipliers_size (goal.at.After-multipliers_from c).After-read_key-below

pub returns : goal.returns
returns c =
    record {
      answer = sym (checked (goal.at.returns c).After-read_key-below);
      held = loaded c.args.p c.args.key.now c.args.seed.now c.args.work.now _ _ _ c.multiplier_count.ensures
          (numbers_size (goal.at.returns c).After-read_key-below) (drawn_size (goal.at.returns c).After-multipliers_from)
          (numbers_are (goal.at.returns c).After-read_key-below) c.multipliers_from.ensures;
    }
