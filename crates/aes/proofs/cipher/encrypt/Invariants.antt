-- `aes::cipher::encrypt` meets its contract: before round n the state is that of n − 1 rounds.
-- Assumes nothing.
use mathlib.Core.Path.{◌≡◌}
use mathlib.Core.List.{List}
use Prim.Native.Nat.{ℕ, ◌-◌, ◌≤◌}
use Rattle.aes.specs.Cipher.{rounds}
use Rattle.aes_tables.specs.Words.{columns, schedule}
use Rattle.aes.proofs.cipher.encrypt.Given as goal

abbrev pub invariant-loop-n : goal.invariant-loop-n
invariant-loop-n l =
    (1 ≤ l.n) × (l.n ≤ 14)
    × ((first : List (List ℕ)) → columns l.initial.s ≡ rounds (schedule l.keys) 0 first → columns l.s ≡ rounds (schedule l.keys) (l.n - 1) first)
