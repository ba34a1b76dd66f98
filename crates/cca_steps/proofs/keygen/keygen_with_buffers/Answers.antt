-- `cca_steps::keygen::keygen_with_buffers` meets its contract: the public key is that of the inner seed, and the secret key is written only where it was made.
-- Assumes nothing.
use mathlib.Core.Path.{◌≡◌, sym, ap, ◌∙◌}
use native.Mathlib.Omega.{arith}
use lib.ListN.{take}
use Rattle.calls.proofs.Outcome.{leaves_refused, handed_on}
use Rattle.scheme.specs.Exchange.{inner_seed}
use Rattle.scheme.specs.Answers.{key_draws}
use Rattle.cca_steps.proofs.Steps.{inner_made, public_made, secret_made}
use Rattle.cca_steps.proofs.keygen.keygen_with_buffers.Goals.{After-source_bytes}
use Rattle.cca_steps.proofs.keygen.keygen_with_buffers.Goals as goal

-- the inner seed is the first half of what the seed expands to
inner : (c : After-source_bytes) → take 32 c.source_bytes.new.out ≡ inner_seed c.args.p c.args.seed.now
inner c = inner_made c.args.p c.args.seed.now _ _ c.told-expanded c.source_bytes.ensures.bytes

pub unwrap-requires : goal.unwrap-requires
unwrap-requires c = c.first_chunk.ensures.variant.1 (omega (arith, c.source_bytes.auto.out, c.told-expanded))

pub returns-in_err-keygen : goal.returns-in_err-keygen
returns-in_err-keygen c =
    let p = c.args.p in
    let part = (rw c.unwrap.ensures at c.first_chunk.ensures.cases).same in
    let seed = part ∙ inner (goal.at.returns-in_err-keygen c).After-source_bytes in
    let decided = sym (c.in_err-keygen.ensures.answer ∙ ap (key_draws p) seed) in
    let public = public_made p c.args.seed.now _ _ c.args.public.now seed c.keygen.ensures.public in
    record { answer = handed_on _ c.from_residual.result c.from_residual.ensures.1 ∙ sym decided; given = public; kept = sym (leaves_refused _ _ decided) }

pub returns : goal.returns
returns c =
    let p = c.args.p in
    let part = (rw c.unwrap.ensures at c.first_chunk.ensures.cases).same in
    let seed = part ∙ inner (goal.at.returns c).After-source_bytes in
    let decided = sym (c.in_ok-keygen.ensures.answer ∙ ap (key_draws p) seed) in
    let public = public_made p c.args.seed.now _ _ c.args.public.now seed c.keygen.ensures.public in
    let written = c.write_both.ensures in
    let secret = secret_made p c.args.seed.now _ c.args.public.now _ c.args.secret.now decided public written in
    record { answer = sym decided; given = public; kept = secret }
