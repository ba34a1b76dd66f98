-- Every slice has the set's length, and every number of the key is below q, when the numbers are worked out.
-- Assumes nothing.
use mathlib.Core.Path.{sym, ◌∙◌}
use Prim.Native.Nat.{ℕ}
use native.Mathlib.Omega.{arith}
use Rattle.sets.specs.Table.{IsSet, Listed}
use Rattle.sets.specs.Rules.{Rules, ByteRules}
use Rattle.sets.proofs.Rules.{listed_of, rules_of, byte_rules_of}
use Rattle.run_scheme.proofs.inner.write_unpacked.Goals.{After-parameters_of-p}
use Rattle.run_scheme.proofs.inner.write_unpacked.Goals as goal

-- the record is that of a set from 1 on, and keeps the rules
abbrev set : After-parameters_of-p → ℕ
set c = c.args.set

low : (c : After-parameters_of-p) → IsSet (set c)
low c = omega (arith, c.if-set-gt-LAST.false)

listed : (c : After-parameters_of-p) → Listed c.parameters_of-p.result
listed c = listed_of (set c) (low c) _ c.parameters_of-p.ensures

kept : (c : After-parameters_of-p) → Rules c.parameters_of-p.result
kept c = rules_of (set c) (low c) _ c.parameters_of-p.ensures

bytes : (c : After-parameters_of-p) → ByteRules c.parameters_of-p.result
bytes c = byte_rules_of (set c) (low c) _ c.parameters_of-p.ensures c.if-set-lt1.false

pub public_key_bytes-requires : goal.public_key_bytes-requires
public_key_bytes-requires c = kept c

pub work_length-requires : goal.work_length-requires
work_length-requires c = kept (goal.at.work_length-requires c).After-parameters_of-p

pub key_below-requires : goal.key_below-requires
key_below-requires c =
    let public = c.if-public-public_key_bytes.false ∙ c.public_key_bytes.ensures in
    let work = c.if-work-work_length.false ∙ c.work_length.ensures in
    (bytes (goal.at.key_below-requires c).After-parameters_of-p, listed (goal.at.key_below-requires c).After-parameters_of-p, public, work)

pub numbers_before_packing-requires : goal.numbers_before_packing-requires
numbers_before_packing-requires c =
    let public = c.if-public-public_key_bytes.false ∙ c.public_key_bytes.ensures in
    let count = c.if-out-p.false in
    let below = sym c.key_below.ensures ∙ c.if-not-key_below.false in
    let work = c.key_below.auto.work ∙ c.if-work-work_length.false ∙ c.work_length.ensures in (
      bytes (goal.at.numbers_before_packing-requires c).After-parameters_of-p,
      listed (goal.at.numbers_before_packing-requires c).After-parameters_of-p,
      public,
      below,
      count,
      work,
    )
