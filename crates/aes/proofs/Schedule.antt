-- A key schedule that the code holds as numbers: its words, and the words of a round.
-- Assumes nothing.
use mathlib.Core.Path.{◌≡◌, refl, sym, ap, ◌∙◌}
use mathlib.Core.List.{List, [], ◌∷◌, ◌++◌, map-append}
use Prim.Native.Nat.{ℕ, zero, suc, ◌+◌, ◌*◌, ◌≤◌, ◌<◌}
use native.Mathlib.Nat.{le_of_suc-le-suc, not-suc-le-zero}
use native.Mathlib.Numerals.{add-one}
use native.Mathlib.Omega.{arith}
use lib.ListN.{length, get_or, set, take}
use lib.Seq.{length-take-le, get_or-take, take-suc-set}
use Rattle.maths.specs.Vector.{at}
use Rattle.aes_tables.specs.Field.{x_times_of}
use Rattle.aes_tables.specs.State.{four}
use Rattle.aes.specs.Cipher.{round_key_of}
use Rattle.aes.specs.Key.{x_power, rcon, next_word_of, words}
use Rattle.aes_tables.specs.Words.{byte_of, word, columns, schedule}

-- word i of a schedule
pub schedule_at : (keys : List ℕ) (i : ℕ) → i < length keys → get_or (schedule keys) i [] ≡ word (at keys i)
schedule_at [] i h = absurd (not-suc-le-zero h)
schedule_at (k ∷ keys) zero h = refl
schedule_at (k ∷ keys) (suc i) h = schedule_at keys i (le_of_suc-le-suc h)

-- the words of round n
pub round_key_columns : (keys k : List ℕ) (n : ℕ) → length keys ≡ 60 → n < 15 → k ≡ four (λ c. at keys (4 * n + c)) → columns k ≡ round_key_of (schedule keys) n
unfolding round_key_of
round_key_columns keys k n size low e =
    ap (λ (u : List ℕ). columns u) e
    ∙ sym
    (λ i.
    schedule_at keys (4 * n + 0) (omega arith) i
    ∷ schedule_at keys (4 * n + 1) (omega arith) i
    ∷ schedule_at keys (4 * n + 2) (omega arith) i
    ∷ schedule_at keys (4 * n + 3) (omega arith) i
    ∷ [])

module _ (key w : List ℕ) (i : ℕ) where
  -- the words before word i, from the numbers before it
  pub word_before : (j : ℕ) → j < i → i ≤ length w → word (at w j) ≡ get_or (schedule (take i w)) j []
  word_before j h room =
      sym
      (schedule_at (take i w) j (omega (arith, length-take-le i w room))
      ∙ ap (λ (v : ℕ). word v) (get_or-take i w j 0 h))

  -- one word more
  pub words_more : (v : ℕ) → i < length w → schedule (take i w) ≡ words key i → word v ≡ next_word_of key (schedule (take i w)) i
      → schedule (take (i + 1) (set w i v)) ≡ words key (i + 1)
  unfolding words
  words_more v room so_far e =
      rw (add-one i, take-suc-set w i v room, map-append)
      (ap (λ (u : List ℕ). schedule (take i w) ++ (u ∷ [])) e ∙ ap (λ (u : List (List ℕ)). u ++ (next_word_of key u i ∷ [])) so_far)

-- the round constants are the powers of x
pub rcon_rule : (j : ℕ) → 1 ≤ j → j < 8 → word (at (0 ∷ 1 ∷ 2 ∷ 4 ∷ 8 ∷ 16 ∷ 32 ∷ 64 ∷ []) j) ≡ rcon j
unfolding byte_of x_times_of x_power rcon
rcon_rule zero some low = absurd (not-suc-le-zero some)
rcon_rule (suc zero) some low = refl
rcon_rule (suc (suc zero)) some low = refl
rcon_rule (suc (suc (suc zero))) some low = refl
rcon_rule (suc (suc (suc (suc zero)))) some low = refl
rcon_rule (suc (suc (suc (suc (suc zero))))) some low = refl
rcon_rule (suc (suc (suc (suc (suc (suc zero)))))) some low = refl
rcon_rule (suc (suc (suc (suc (suc (suc (suc zero))))))) some low = refl
rcon_rule (suc (suc (suc (suc (suc (suc (suc (suc j)))))))) some low = absurd (omega arith)
