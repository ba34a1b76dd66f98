-- The seed takes the first 32 bytes, the packed vectors take the others.
-- Assumes nothing.
use mathlib.Core.Path.{◌≡◌, sym, ap, ◌∙◌}
use Prim.Native.Nat.{ℕ, ◌+◌, ◌-◌, ◌*◌}
use native.Mathlib.Omega.{arith}
use lib.ListN.{length, take, drop}
use Rattle.calls.specs.Region.{region}
use Rattle.calls.proofs.Region.{region_part}
use Rattle.sets.specs.Derived.{packed_bytes_of, public_key_bytes_of}
use Rattle.sets.proofs.Rules.{listed_rules}
use Rattle.packing.specs.Digits.{pack}
use Rattle.packing.proofs.Laws.{pack_length}
use Rattle.cpa_keygen.specs.Held.{vectors_start_of}
use Rattle.cpa_keygen.proofs.Room.{seed_room, vectors_room, work_most}
use Rattle.calls.proofs.Parts.{part_length, two_parts}
use Rattle.cpa_keygen.proofs.bytes.write_public_key.Goals.{After-vectors_end-end}
use Rattle.cpa_keygen.proofs.bytes.write_public_key.Goals as goal

-- the stored vectors as they are lent
vectors_part : (c : After-vectors_end-end) → let from = c.vectors_start-start.result in take (c.vectors_end-end.result - from) (drop from c.args.work.now)
    ≡ region c.args.work.now (vectors_start_of c.args.p) (c.args.p.d1 * c.args.p.t)
vectors_part c =
    let from = c.vectors_start-start in
    let count = c.args.p.d1 * c.args.p.t in
    region_part c.args.work.now from.result count c.vectors_end-end.result (omega (arith, c.vectors_end-end.ensures, from.ensures))
    ∙ ap (λ (at : ℕ). region c.args.work.now at count) from.ensures

pub copy_in-requires : goal.copy_in-requires
copy_in-requires c =
    omega (arith, c.told-seed, c.requires.byte_rules.3, seed_room c.args.p)

pub offset_bounds-work-start : goal.offset_bounds-work-start
offset_bounds-work-start c =
    let pre = c.requires.byte_rules in
    omega (arith, c.vectors_start-start.ensures, vectors_room c.args.p pre.0 pre.1, work_most c.args.p pre.0 pre.1)

pub slice_bounds-pack_into-end : goal.slice_bounds-pack_into-end
slice_bounds-pack_into-end c =
    let pre = c.requires.byte_rules in
    omega (arith, c.vectors_end-end.ensures, pre.2, vectors_room c.args.p pre.0 pre.1)

pub slice_bounds-pack_into-count-2 : goal.slice_bounds-pack_into-count-2
slice_bounds-pack_into-count-2 c =
    omega (arith, c.copy_in.auto.dst, c.requires.byte_rules.3, seed_room c.args.p)

pub slice_bounds-pack_into-start-2 : goal.slice_bounds-pack_into-start-2
slice_bounds-pack_into-start-2 c =
    omega (arith, c.copy_in.auto.dst, c.requires.byte_rules.3, seed_room c.args.p)

pub pack_into-requires : goal.pack_into-requires
pack_into-requires c =
    let pre = c.requires.byte_rules in
    rw (vectors_part (goal.at.pack_into-requires c).After-vectors_end-end)
    (record {
      widths = record { least = omega (arith, pre.0.kept_byte); most = omega (arith, (listed_rules c.args.p pre.1).width_most) };
      digit = c.requires.digit;
    })

pub returns : goal.returns
unfolding public_key_bytes_of
returns c =
    let p = c.args.p in
    let pre = c.requires.byte_rules in
    let copied = c.copy_in in
    let packed = c.pack_into in
    let bytes = packed_bytes_of (p.d1 * p.t) p.width in
    let room : length copied.new.dst ≡ 32 + bytes = copied.auto.dst ∙ pre.3 in
    let rest : length (take (length copied.new.dst - 32) (drop 32 copied.new.dst)) ≡ bytes =
    part_length copied.new.dst 32 (length copied.new.dst) bytes room (omega arith) in
    let made : packed.new.out ≡ pack p.width bytes (region c.args.work.now (vectors_start_of p) (p.d1 * p.t)) =
    rw (vectors_part (goal.at.returns c).After-vectors_end-end, rest) at packed.ensures in
    two_parts c.args.out.now copied.new.dst c.args.seed.now packed.new.out 32 copied.ensures c.told-seed
    (pre.3 ∙ ap (λ (n : ℕ). 32 + n) (sym (ap length made ∙ pack_length p.width _ _)))
    ∙ rw made
