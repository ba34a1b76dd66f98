-- `aes::cipher::encrypt` meets its contract: before round n the state is that of n − 1 rounds.
-- Assumes nothing.
use mathlib.Core.Path.{◌≡◌, ap, ◌∙◌}
use mathlib.Core.List.{List}
use Prim.Native.Nat.{ℕ, zero, suc, ◌-◌, ◌+◌, ◌≤◌}
use native.Mathlib.Omega.{arith}
use Rattle.aes.specs.Cipher.{sub_bytes, shift_rows, mix_columns, add_round_key, round_key_of, rounds, cipher}
use Rattle.aes_tables.specs.Words.{columns, schedule}
use Rattle.aes.proofs.Schedule.{round_key_columns}
use Rattle.aes.proofs.cipher.encrypt.Goals as goal

-- round n makes the state of n − 1 rounds that of n rounds
round_more : (w : List (List ℕ)) (n : ℕ) (s : List (List ℕ)) → 1 ≤ n
    → add_round_key (mix_columns (shift_rows (sub_bytes (rounds w (n - 1) s)))) (round_key_of w n) ≡ rounds w (n + 1 - 1) s
unfolding rounds
round_more w zero s h = absurd (omega arith)
round_more w (suc m) s h =
    let before : suc m - 1 ≡ m = omega arith in
    let after : suc m + 1 - 1 ≡ suc m = omega arith in
    rw (before, after)

pub loop-n-init : goal.loop-n-init
loop-n-init c = (omega arith, omega arith, λ first e. e)

pub loop-n-preserved : goal.loop-n-preserved
loop-n-preserved c =
    let now = c.loop-n in
    let keys = c.args.keys.now in
    let key = round_key_columns keys _ now.n c.requires.2 (omega arith) c.round_key-in-loop-n.ensures in (
      omega arith,
      omega arith,
      λ first e.
          c.round-t.ensures
          ∙ ap (add_round_key (mix_columns (shift_rows (sub_bytes (columns now.s))))) key
          ∙ ap (λ (s : List (List ℕ)). add_round_key (mix_columns (shift_rows (sub_bytes s))) (round_key_of (schedule keys) now.n))
          (now.invariant.2 first e)
          ∙ round_more (schedule keys) now.n first (omega arith),
    )

pub returns : goal.returns
unfolding rounds cipher
returns c =
    let last = c.loop-n in
    let keys = c.args.keys.now in
    let block = columns c.args.block in
    let first = round_key_columns keys _ 0 c.requires.2 (omega arith) c.round_key.ensures in
    let key = round_key_columns keys _ 14 c.requires.2 (omega arith) c.round_key-2.ensures in
    let e : last.n - 1 ≡ 13 = omega arith in
    c.last_round.ensures
    ∙ ap (add_round_key (shift_rows (sub_bytes (columns last.s)))) key
    ∙ ap (λ (s : List (List ℕ)). add_round_key (shift_rows (sub_bytes s)) (round_key_of (schedule keys) 14))
    (last.invariant.2 block (c.add_key-s.ensures ∙ ap (add_round_key block) first) ∙ ap (λ (n : ℕ). rounds (schedule keys) n block) e)
