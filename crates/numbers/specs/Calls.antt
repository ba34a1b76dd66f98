-- Key, sealing and reading on numbers: what each open call answers and leaves (01, How each call answers).
-- Assumes nothing.
use Rattle.std.specs.Prelude.{Bool, not, ◌&&◌, List, [], ◌∷◌, ◌++◌, ℕ, ◌+◌, ◌-◌, ◌*◌, leb, eqb, ℤ, nat_abs, length}
use Rattle.calls.specs.Outcome.{Outcome, accepted, refuse, leaves}
use Rattle.calls.specs.Checks.{all_of, refuse_first, below}
use Rattle.sets.specs.declared.Parameters.{Parameters}
use Rattle.sets.specs.Table.{set_of, no_set}
use Rattle.sets.specs.Derived.{multiplier_count_of, multiplier_bound_of, error_count_of}
use Rattle.numbers.specs.Scheme.{key, first_part_of, second_part, reading}

-- an error of size at most η, at any position
abbrev pub is_error : ℕ → ℕ → ℤ → Bool
is_error eta position z = leb (nat_abs z) eta

-- a multiplier: not 0, and of size at most B/2 at its position
abbrev pub is_multiplier_of : Parameters → ℕ → ℤ → Bool
is_multiplier_of p position z = leb 1 (nat_abs z) && leb (nat_abs z) (multiplier_bound_of p position)

-- key: a (t · n), s (n + d + k − 1), e (t · (d + k)), and b as long as e
abbrev pub key_shape : Parameters → ℕ → ℕ → ℕ → ℕ → List Bool
key_shape p a s e b =
    eqb a (p.t * p.n) ∷ eqb s (p.n + p.d + p.k - 1) ∷ eqb e (error_count_of p) ∷ eqb b (error_count_of p) ∷ []

-- 3 at the first number out of range, its place counted through a, s, e
abbrev pub key_range : ℕ → ℕ → List ℕ → List ℕ → List ℤ → Outcome
key_range q eta a s e = refuse_first (below q) 0 0 (a ++ s) (refuse_first (is_error eta) 0 (length a + length s) e accepted)

unfoldable pub key_answer : ℕ → List ℕ → List ℕ → List ℤ → ℕ → Outcome
key_answer set a s e b =
    refuse (no_set set) 1 0
    (refuse (not (all_of (key_shape (set_of set) (length a) (length s) (length e) b))) 2 0 (key_range (set_of set).q (set_of set).eta a s e))

unfoldable pub key_left : ℕ → List ℕ → List ℕ → List ℤ → List ℕ → List ℕ
key_left set a s e b = leaves (key_answer set a s e (length b)) (key (set_of set) a s e) b

-- sealing: a, b, r (t · (k + 1)), message (d), c1 (n + k), c2 (d)
abbrev pub sealing_shape : Parameters → ℕ → ℕ → ℕ → ℕ → ℕ → ℕ → List Bool
sealing_shape p a b r m c1 c2 =
    eqb a (p.t * p.n) ∷ eqb b (error_count_of p) ∷ eqb r (multiplier_count_of p) ∷ eqb m p.d ∷ eqb c1 (p.n + p.k) ∷ eqb c2 p.d ∷ []

-- 3 at the first number out of range, its place counted through a, b, r, message; the last two from offset on
abbrev pub multipliers_and_message : Parameters → ℕ → List ℤ → List ℕ → Outcome
multipliers_and_message p offset r m = refuse_first (is_multiplier_of p) 0 offset r (refuse_first (below 2) 0 (offset + length r) m accepted)

abbrev pub sealing_range : Parameters → List ℕ → List ℕ → List ℤ → List ℕ → Outcome
sealing_range p a b r m = refuse_first (below p.q) 0 0 (a ++ b) (multipliers_and_message p (length a + length b) r m)

unfoldable pub sealing_answer : ℕ → List ℕ → List ℕ → List ℤ → List ℕ → ℕ → ℕ → Outcome
sealing_answer set a b r m c1 c2 =
    refuse (no_set set) 1 0
    (refuse (not (all_of (sealing_shape (set_of set) (length a) (length b) (length r) (length m) c1 c2))) 2 0 (sealing_range (set_of set) a b r m))

unfoldable pub first_part_left : ℕ → List ℕ → List ℕ → List ℤ → List ℕ → List ℕ → ℕ → List ℕ
first_part_left set a b r m c1 c2 = leaves (sealing_answer set a b r m (length c1) c2) (first_part_of (set_of set) a r) c1

unfoldable pub second_part_left : ℕ → List ℕ → List ℕ → List ℤ → List ℕ → ℕ → List ℕ → List ℕ
second_part_left set a b r m c1 c2 = leaves (sealing_answer set a b r m c1 (length c2)) (second_part (set_of set) b r m) c2

-- reading: c1, c2, s, and as many bits as c2 has numbers
abbrev pub reading_shape : Parameters → ℕ → ℕ → ℕ → ℕ → List Bool
reading_shape p c1 c2 s bits = eqb c1 (p.n + p.k) ∷ eqb c2 p.d ∷ eqb s (p.n + p.d + p.k - 1) ∷ eqb bits p.d ∷ []

-- 3 at the first number out of range, its place counted through c1, c2, s
abbrev pub reading_range : ℕ → List ℕ → List ℕ → List ℕ → Outcome
reading_range q c1 c2 s = refuse_first (below q) 0 0 (c1 ++ c2 ++ s) accepted

unfoldable pub reading_answer : ℕ → List ℕ → List ℕ → List ℕ → ℕ → Outcome
reading_answer set c1 c2 s bits =
    refuse (no_set set) 1 0
    (refuse (not (all_of (reading_shape (set_of set) (length c1) (length c2) (length s) bits))) 2 0 (reading_range (set_of set).q c1 c2 s))

unfoldable pub reading_left : ℕ → List ℕ → List ℕ → List ℕ → List ℕ → List ℕ
reading_left set c1 c2 s bits = leaves (reading_answer set c1 c2 s (length bits)) (reading set (set_of set) c1 c2 s) bits
