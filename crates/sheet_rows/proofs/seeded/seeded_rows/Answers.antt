-- The arrays have room for the keys, the ciphertext and the message of every set.
-- Assumes nothing.
use mathlib.Core.Path.{◌∙◌}
use Prim.Native.Nat.{◌≤◌}
use native.Mathlib.Omega.{arith}
use Rattle.sets.specs.Rules.{Rules}
use Rattle.sets.proofs.Rules.{listed_rules}
use Rattle.calls.proofs.Parts.{array_front}
use Rattle.sheet_rows.proofs.seeded.seeded_rows.Goals.{After-cpa_ciphertext_bytes-ciphertext_size, After-slice_known-3-1}
use Rattle.sheet_rows.proofs.seeded.seeded_rows.Goals as goal

-- the set's numbers keep the rules
kept : (c : After-slice_known-3-1) → Rules c.args.p
kept c = listed_rules c.args.p c.requires.1

pub public_key_bytes-key_size-requires : goal.public_key_bytes-key_size-requires
public_key_bytes-key_size-requires c = kept c

pub cpa_ciphertext_bytes-ciphertext_size-requires : goal.cpa_ciphertext_bytes-ciphertext_size-requires
cpa_ciphertext_bytes-ciphertext_size-requires c = kept (goal.at.cpa_ciphertext_bytes-ciphertext_size-requires c).After-slice_known-3-1

-- the public key and the ciphertext fit
public_fits : (c : After-cpa_ciphertext_bytes-ciphertext_size) → c.public_key_bytes-key_size.result ≤ 26912
public_fits c =
    omega (arith, c.public_key_bytes-key_size.ensures, (kept (goal.at.After-cpa_ciphertext_bytes-ciphertext_size c).After-slice_known-3-1).most_public_key)

ciphertext_fits : (c : After-cpa_ciphertext_bytes-ciphertext_size) → c.cpa_ciphertext_bytes-ciphertext_size.result ≤ 8320
ciphertext_fits c =
    omega (
      arith,
      c.cpa_ciphertext_bytes-ciphertext_size.ensures,
      (kept (goal.at.After-cpa_ciphertext_bytes-ciphertext_size c).After-slice_known-3-1).most_sealed,
    )

pub slice_bounds-public-end : goal.slice_bounds-public-end
slice_bounds-public-end c = omega (arith, public_fits c)

pub slice_bounds-ciphertext-end : goal.slice_bounds-ciphertext-end
slice_bounds-ciphertext-end c = omega (arith, ciphertext_fits (goal.at.slice_bounds-ciphertext-end c).After-cpa_ciphertext_bytes-ciphertext_size)

pub rows_with_buffers-requires : goal.rows_with_buffers-requires
rows_with_buffers-requires c =
    let pre = c.requires in
    let key = c.public_key_bytes-key_size in
    let public = array_front 26912 key.result (public_fits (goal.at.rows_with_buffers-requires c).After-cpa_ciphertext_bytes-ciphertext_size) ∙ key.ensures in
    let sent = c.cpa_ciphertext_bytes-ciphertext_size in
    let ciphertext = array_front 8320 sent.result (ciphertext_fits (goal.at.rows_with_buffers-requires c).After-cpa_ciphertext_bytes-ciphertext_size)
    ∙ sent.ensures in
    (pre.0, pre.1, public, ciphertext, pre.2, pre.3, pre.4, pre.5)
