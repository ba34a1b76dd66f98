-- The two seeds are those of the definition, the draws from them decide, and only then are the outputs written.
-- Assumes nothing.
use mathlib.Core.Path.{◌≡◌, refl, sym, ap, ◌∙◌}
use native.Mathlib.Omega.{arith}
use lib.ListN.{length}
use Rattle.calls.proofs.Outcome.{leaves_accepted, leaves_refused, handed_on}
use Rattle.calls.proofs.Region.{over_whole}
use Rattle.byte_source.specs.Source.{State, initial}
use Rattle.byte_source.proofs.Laws.{output_most}
use Rattle.scheme.specs.Encryption.{secret_seed, public_seed}
use Rattle.cpa_keygen.proofs.WholeKey.{secret_made, public_made, draws_decide, stored_digits, key_made}
use Rattle.cpa_keygen.proofs.keygen_with_buffers.Goals.{After-source_bytes, After-source_bytes-next}
use Rattle.cpa_keygen.proofs.keygen_with_buffers.Goals as goal

-- the lengths of the seeds
secret_size : (c : After-source_bytes-next) → length c.source_bytes-next.new.out ≡ 32
secret_size c = c.source_bytes-next.auto.out ∙ c.told-seedsk

public_size : (c : After-source_bytes) → length c.source_bytes.new.out ≡ 32
public_size c = c.source_bytes.auto.out ∙ c.told-seedpk

-- seedpk is read with the counter that the output of seedsk left
pub source_bytes-requires : goal.source_bytes-requires
source_bytes-requires c =
    let moved = ap (λ (s : State). s.counter) c.source_bytes-next.ensures.state in
    let most = output_most c.args.p (initial c.args.seed.now) (length c.args.seedsk.now) in
    (omega (arith, c.told-seed), omega (arith, moved, most, c.told-seedsk, c.told-seedpk))

-- the seeds are those of the definition
module _ (c : After-source_bytes) where
  first_is : c.source_bytes-next.new.out ≡ secret_seed c.args.p c.args.seed.now
  first_is =
      secret_made c.args.p c.args.seed.now c.told-seedsk c.source_bytes-next.ensures.bytes

  second_is : c.source_bytes.new.out ≡ public_seed c.args.p c.args.seed.now
  second_is =
      public_made c.args.p c.args.seed.now c.told-seedsk _ c.told-seedpk c.source_bytes-next.ensures.state
      c.source_bytes.ensures.bytes

pub store_key-requires : goal.store_key-requires
store_key-requires c =
    let pre = c.requires in (
      pre.0,
      pre.1,
      pre.3,
    )

pub write_public_key-requires : goal.write_public_key-requires
write_public_key-requires c =
    let pre = c.requires in
    let vectors = c.store_key in
    record {
      byte_rules = (pre.0, pre.1, vectors.auto.work ∙ pre.3, pre.2);
      digit = stored_digits c.args.p pre.1 _ _ (c.in_ok-store_key.ensures.result refl);
    }

pub copy_in-requires : goal.copy_in-requires
copy_in-requires c =
    omega (arith, secret_size (goal.at.copy_in-requires c).After-source_bytes-next, c.told-secret_seed)

pub returns-in_err-store_key : goal.returns-in_err-store_key
returns-in_err-store_key c =
    let told = handed_on _ c.from_residual.result c.from_residual.ensures.1 in
    let decided = draws_decide c.args.p c.args.seed.now _ _ (first_is (goal.at.returns-in_err-store_key c).After-source_bytes)
    (second_is (goal.at.returns-in_err-store_key c).After-source_bytes) c.in_err-store_key.ensures.answer in
    record { answer = told ∙ sym decided; public = sym (leaves_refused _ _ decided); secret = sym (leaves_refused _ _ decided) }

pub returns : goal.returns
returns c =
    let p = c.args.p in
    let seed = c.args.seed.now in
    let decided = draws_decide p seed _ _ (first_is (goal.at.returns c).After-source_bytes) (second_is (goal.at.returns c).After-source_bytes)
    c.in_ok-store_key.ensures.answer in record {
      answer = sym decided;
      public = c.write_public_key.ensures
          ∙ key_made p seed _ _ (first_is (goal.at.returns c).After-source_bytes) (second_is (goal.at.returns c).After-source_bytes) _
          (c.in_ok-store_key.ensures.result refl)
          ∙ sym (leaves_accepted _ _ decided);
      secret = c.copy_in.ensures
          ∙ over_whole _ _ (secret_size (goal.at.returns c).After-source_bytes-next ∙ sym c.told-secret_seed)
          ∙ first_is (goal.at.returns c).After-source_bytes
          ∙ sym (leaves_accepted _ _ decided);
    }
