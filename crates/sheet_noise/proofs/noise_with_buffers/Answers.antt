-- c2 before packing is that of the public key lent, and the secret seed that of the key seed.
-- Assumes nothing.
use mathlib.Core.Path.{◌≡◌, ap, ◌∙◌}
use mathlib.Core.List.{List}
use Prim.Native.Nat.{ℕ}
use native.Mathlib.Omega.{arith}
use lib.ListN.{length}
use Rattle.byte_source.specs.Source.{initial, output}
use Rattle.samplers.specs.Seeded.{secret_drawn}
use Rattle.scheme.specs.Answers.{is_taken}
use Rattle.scheme.specs.Encryption.{secret_seed}
use Rattle.scheme.proofs.Bytes.{public_key_length}
use Rattle.scheme.proofs.Conditions.{listed_conditions}
use Rattle.sheet_noise.proofs.Drawn.{key_below, before_residues, noise_places}
use Rattle.sheet_noise.proofs.noise_with_buffers.Goals.{After-source_bytes}
use Rattle.sheet_noise.proofs.noise_with_buffers.Goals as goal

pub source_bytes-requires : goal.source_bytes-requires
source_bytes-requires c = (omega (arith, c.told-seed), omega (arith, c.told-secret))

pub numbers_before_packing-requires : goal.numbers_before_packing-requires
numbers_before_packing-requires c =
    let p = c.args.p in
    let pre = c.requires in (
      pre.0,
      pre.1,
      ap length pre.2 ∙ public_key_length (listed_conditions p pre.0 pre.1) c.args.seed.now,
      key_below p pre.0 pre.1 c.args.seed.now c.args.message.now c.args.sealing.now c.args.public.now pre.2,
      pre.6,
      pre.5,
    )

-- the secret seed
secret_is : (c : After-source_bytes)
    → c.source_bytes.new.out ≡ secret_seed c.args.p c.args.seed.now
unfolding secret_seed
secret_is c =
    c.source_bytes.ensures.bytes
    ∙ ap (λ (n : ℕ). (output c.args.p (initial c.args.seed.now) n).bytes) c.told-secret

pub noise_from-requires : goal.noise_from-requires
noise_from-requires c =
    let p = c.args.p in
    let pre = c.requires in
    let made = c.numbers_before_packing in (
      pre.0,
      pre.1,
      ap (λ (xs : List ℕ). is_taken (secret_drawn p xs)) (secret_is (goal.at.noise_from-requires c).After-source_bytes) ∙ pre.3,
      before_residues p pre.0 pre.1 c.args.seed.now c.args.message.now c.args.sealing.now c.args.public.now _
          made.ensures,
      made.auto.out ∙ pre.6,
      pre.4,
      made.auto.work ∙ pre.5,
    )

pub returns : goal.returns
returns c =
    let pre = c.requires in
    c.noise_from.ensures
    ∙ noise_places c.args.p pre.0 pre.1 c.args.seed.now c.args.message.now c.args.sealing.now _ _
    c.args.public.now (secret_is (goal.at.returns c).After-source_bytes) pre.2 c.numbers_before_packing.ensures
