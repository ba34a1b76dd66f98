-- Every slice has the set's length when the ciphertext is read.
-- Assumes nothing.
use mathlib.Core.Path.{◌∙◌}
use Prim.Native.Nat.{ℕ}
use native.Mathlib.Omega.{arith}
use Rattle.sets.specs.Table.{IsSet, Listed}
use Rattle.sets.specs.Rules.{Rules, ByteRules}
use Rattle.sets.proofs.Rules.{listed_of, rules_of, byte_rules_of}
use Rattle.run_scheme.proofs.inner.read.Goals.{After-parameters_of-p}
use Rattle.run_scheme.proofs.inner.read.Goals as goal

-- the record is that of a set from 1 on, and keeps the rules
abbrev set : After-parameters_of-p → ℕ
set c = c.args.set

low : (c : After-parameters_of-p) → IsSet (set c)
low c = omega (arith, c.if-set-gt-LAST.false)

listed : (c : After-parameters_of-p) → Listed c.parameters_of-p.result
listed c = listed_of (set c) (low c) _ c.parameters_of-p.ensures

kept : (c : After-parameters_of-p) → Rules c.parameters_of-p.result
kept c = rules_of (set c) (low c) _ c.parameters_of-p.ensures

bytes : (c : After-parameters_of-p) → ByteRules c.parameters_of-p.result
bytes c = byte_rules_of (set c) (low c) _ c.parameters_of-p.ensures c.if-set-lt1.false

pub cpa_ciphertext_bytes-requires : goal.cpa_ciphertext_bytes-requires
cpa_ciphertext_bytes-requires c = kept (goal.at.cpa_ciphertext_bytes-requires c).After-parameters_of-p

pub work_length-requires : goal.work_length-requires
work_length-requires c = kept (goal.at.work_length-requires c).After-parameters_of-p

pub decrypt-requires : goal.decrypt-requires
decrypt-requires c =
    let sealed = c.if-sealed-cpa_ciphertext_bytes.false ∙ c.cpa_ciphertext_bytes.ensures in
    let work = c.if-work-work_length.false ∙ c.work_length.ensures in (
      bytes (goal.at.decrypt-requires c).After-parameters_of-p,
      listed (goal.at.decrypt-requires c).After-parameters_of-p,
      sealed,
      work,
    )
