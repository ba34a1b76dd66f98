-- ĉ1 is unpacked to the front of the work slice, where the first number of q or more is looked for.
-- Assumes nothing.
use mathlib.Core.Path.{◌≡◌, ap, ◌∙◌}
use Prim.Native.Nat.{◌≤◌}
use native.Mathlib.Omega.{arith}
use lib.ListN.{length}
use Rattle.calls.specs.Checks.{passing, below}
use Rattle.sets.proofs.Rules.{listed_rules}
use Rattle.scheme.specs.Encryption.{cipher_first}
use Rattle.cpa_decrypt.proofs.First.{first_unpacked, cipher_first_length, below_test}
use Rattle.calls.proofs.Parts.{front_length, part_front, front_room}
use Rattle.cpa_decrypt.proofs.Room.{secret_room, first_widths}
use Rattle.cpa_decrypt.proofs.first_below.Goals.{After-first_bytes-end, After-unpack_into}
use Rattle.cpa_decrypt.proofs.first_below.Goals as goal

-- ĉ1 has room in the work slice
room : (c : After-first_bytes-end) → c.args.p.d2 ≤ length c.args.work.now
room c = let p = c.args.p in omega (arith, c.requires.3, secret_room p, (listed_rules p c.requires.1).rising2)

pub slice_bounds-unpack_into-end-2 : goal.slice_bounds-unpack_into-end-2
slice_bounds-unpack_into-end-2 c = room (goal.at.slice_bounds-unpack_into-end-2 c).After-first_bytes-end

pub unpack_into-requires : goal.unpack_into-requires
unpack_into-requires c =
    let p = c.args.p in
    first_widths p (listed_rules p c.requires.1) c.requires.0

-- what is unpacked
unpacked : (c : After-unpack_into) → c.unpack_into.new.out ≡ cipher_first c.args.p c.args.ciphertext.now
unpacked c =
    let p = c.args.p in
    c.unpack_into.ensures
    ∙ first_unpacked p c.args.ciphertext.now (front_length c.args.work.now p.d2 (room (goal.at.After-unpack_into c).After-first_bytes-end))
    c.first_bytes-end.ensures.0

-- and how many numbers
unpacked_length : (c : After-unpack_into) → length c.unpack_into.new.out ≡ c.args.p.d2
unpacked_length c = rw (unpacked c) (cipher_first_length c.args.p c.args.ciphertext.now)

pub slice_bounds-first_at_least-end : goal.slice_bounds-first_at_least-end
slice_bounds-first_at_least-end c =
    front_room c.unpack_into.new.out _ c.args.p.d2 (unpacked_length (goal.at.slice_bounds-first_at_least-end c).After-unpack_into)

pub returns : goal.returns
returns c =
    let p = c.args.p in
    let ct = c.args.ciphertext.now in
    below_test p.q p.d2 c.first_at_least.result (cipher_first p ct) (cipher_first_length p ct)
    (c.first_at_least.ensures
    ∙ ap (passing (below p.q) 0) (part_front c.unpack_into.new.out _ p.d2 (unpacked_length (goal.at.returns c).After-unpack_into) ∙ unpacked
    (goal.at.returns c).After-unpack_into))
