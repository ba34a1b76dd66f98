-- `cca_steps::encapsulation::encapsulate_digest` meets its contract: the check bytes follow what was encrypted, and nothing is written where that is refused.
-- Assumes nothing.
use mathlib.Core.Path.{◌≡◌, sym, ◌∙◌}
use Prim.Native.Nat.{◌+◌, ◌-◌}
use native.Mathlib.Omega.{arith}
use borrow.Author.Rules.{rules}
use lib.ListN.{length}
use Rattle.calls.proofs.Outcome.{handed_on}
use Rattle.calls.proofs.Parts.{front_length, front_refused}
use Rattle.cca_steps.proofs.Steps.{ciphertext_made}
use Rattle.cca_steps.proofs.encapsulation.encapsulate_digest.Goals.{After-encrypt}
use Rattle.cca_steps.proofs.encapsulation.encapsulate_digest.Goals as goal

-- the first half of the digest is a seed
pub unwrap-requires : goal.unwrap-requires
unwrap-requires c = c.first_chunk.ensures.variant.1 (omega (arith, c.told-digest))

pub encrypt-requires : goal.encrypt-requires
encrypt-requires c =
    (c.requires.0, c.requires.1, search rules, search rules, search rules)

pub returns-in_err-encrypt : goal.returns-in_err-encrypt
returns-in_err-encrypt c =
    let old = c.args.ciphertext.now in
    let told = handed_on _ c.from_residual.result c.from_residual.ensures.1 in
    let left = front_refused old _ _ _ (length old - 32) (sym c.in_err-encrypt.ensures.answer) c.in_err-encrypt.ensures.sealed in
    record { answer = told ∙ left.0; given = left.1 }

-- what encrypt wrote has the length of the part lent
front_size : (c : After-encrypt) → length c.encrypt.new.ciphertext ≡ length c.args.ciphertext.now - 32
front_size c =
    let old = c.args.ciphertext.now in
    c.encrypt.auto.ciphertext ∙ front_length old (length old - 32) (omega arith)

pub returns : goal.returns
returns c =
    let args = c.args in
    let decided = sym c.in_ok-encrypt.ensures.answer in
    let old = args.ciphertext.now in
    let seed = (rw c.unwrap.ensures at c.first_chunk.ensures.cases).same in
    let size : length old ≡ length old - 32 + 32 = omega (arith, c.requires.4) in
    let whole = ciphertext_made args.p args.public.now args.message.now args.digest.now old _ _ (length old - 32) decided
    c.requires.3 c.told-digest size (front_size (goal.at.returns c).After-encrypt) (rw seed at c.in_ok-encrypt.ensures.sealed) c.copy_in.ensures in
    record { answer = sym decided; given = whole }
