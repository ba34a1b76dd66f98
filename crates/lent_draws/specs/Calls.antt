-- What the three open draws answer, and what they leave in the output (01, How each call answers: Draws over lent bytes).
-- Assumes nothing.
use Rattle.std.specs.Prelude.{◌≡◌, refl, Bool, ◌&&◌, List, [], ◌∷◌, map, ℕ, ◌+◌, ltb, ℤ, pos, negsuc, length, replicate}
use Rattle.calls.specs.Outcome.{Outcome, accepted, refused, refuse, leaves}
use Rattle.calls.specs.Region.{region}
use Rattle.sets.specs.declared.Parameters.{Parameters}
use Rattle.sets.specs.Table.{table, set_of, no_set}
use Rattle.sets.specs.Derived.{multiplier_count_of, multiplier_bytes_of, multiplier_bits_of}
use Rattle.maths.specs.Bytes.{little_endian}
use Rattle.draws.specs.Uniform.{candidates, verdict, later, find, put, continued, Drawn, accept, numbers}
use Rattle.draws.specs.Small.{ones, error_of_value, error_at, multiplier_of_value, sign_bit, multiplier_at_of, signs_at_of}
use Rattle.draws.specs.Calls.{drawn_answer, in_turn, lent, lent_results_of}

-- the first checks of each draw: 1 when the set is not 1 to 12, 2 when more than 4,096 results are wanted. The place of 2 is 0: it is
-- found before a result is begun, so no result is at fault
unfoldable pub refuse_shape : ℕ → ℕ → Outcome → Outcome
refuse_shape set wanted rest = refuse (ltb set 1) 1 0 (refuse (no_set set) 1 0 (refuse (ltb 4096 wanted) 2 0 rest))

-- residues of a set from lent bytes
unfoldable pub residues_drawn : ℕ → List ℕ → ℕ → Drawn
residues_drawn set bytes wanted = accept (set_of set).q (set_of set).zqrej wanted 0 (candidates bytes)

-- the answer of a draw of residues
unfoldable pub residues_answer : ℕ → List ℕ → ℕ → Outcome
residues_answer set bytes wanted = refuse_shape set wanted (drawn_answer 0 (residues_drawn set bytes wanted))

-- what it leaves in the output
unfoldable pub residues_left : ℕ → List ℕ → List ℕ → List ℕ
residues_left set bytes out = leaves (residues_answer set bytes (length out)) (numbers (residues_drawn set bytes (length out))) out

-- an error takes one byte: 4 for the first result whose byte lies past the end
unfoldable pub errors_answer : ℕ → List ℕ → ℕ → Outcome
errors_answer set bytes wanted = refuse_shape set wanted (refuse (ltb (length bytes) wanted) 4 (length bytes) accepted)

-- the errors in turn
unfoldable pub errors_left : ℕ → List ℕ → List ℤ → List ℤ
errors_left set bytes out = leaves (errors_answer set bytes (length out)) (in_turn (error_at bytes) 0 (length out)) out

-- some of the multipliers wanted lie past a sealing's last position; of none wanted, none does, whatever the first position
unfoldable pub past_last : Parameters → ℕ → ℕ → Bool
past_last p first wanted = ltb 0 wanted && ltb (multiplier_count_of p) (first + wanted)

-- multipliers: 2 also when one lies past a sealing's last position; 4 for the first result whose bytes are not all lent
unfoldable pub multipliers_answer : ℕ → List ℕ → ℕ → ℕ → Outcome
multipliers_answer set bytes first wanted =
    refuse_shape set wanted
    (refuse (past_last (set_of set) first wanted) 2 0
    (refuse (ltb (lent_results_of (set_of set) bytes first wanted) wanted) 4 (lent_results_of (set_of set) bytes first wanted) accepted))

-- the multipliers in turn
unfoldable pub multipliers_left : ℕ → List ℕ → ℕ → List ℤ → List ℤ
multipliers_left set bytes first out =
    leaves (multipliers_answer set bytes first (length out)) (in_turn (multiplier_at_of (set_of set) bytes) first (length out)) out

residues_answer_example : map (λ set. residues_answer set [] 0) (0 ∷ 1 ∷ 12 ∷ 13 ∷ []) ≡ refused 1 0 ∷ accepted ∷ accepted ∷ refused 1 0 ∷ []
unfolding refuse_shape residues_answer drawn_answer residues_drawn accept
residues_answer_example = refl

residues_answer_example₂ : residues_answer 1 [] 4097 ≡ refused 2 0
unfolding refuse_shape residues_answer
residues_answer_example₂ = refl

-- the second result's candidate is not whole
residues_answer_example₃ : residues_answer 1 (1 ∷ 0 ∷ 0 ∷ 2 ∷ 0 ∷ []) 2 ≡ refused 4 1
unfolding table set_of refuse_shape residues_answer drawn_answer residues_drawn accept continued find later put verdict candidates little_endian
residues_answer_example₃ = refl

-- the second result sets 128 candidates aside
residues_answer_example₄ : residues_answer 1 (1 ∷ 0 ∷ 0 ∷ replicate 384 255) 2 ≡ refused 5 1
unfolding table set_of refuse_shape residues_answer drawn_answer residues_drawn accept continued find later put verdict candidates little_endian
residues_answer_example₄ = refl

-- 2 + 4 · 65536 is 21505 modulo 240641
residues_left_example : residues_left 1 (2 ∷ 0 ∷ 4 ∷ []) (7 ∷ []) ≡ 21505 ∷ []
unfolding table set_of refuse_shape residues_left residues_answer drawn_answer residues_drawn accept continued find later put verdict candidates little_endian
    numbers
residues_left_example = refl

-- a refused call writes nothing
residues_left_example₂ : residues_left 1 (2 ∷ 0 ∷ 4 ∷ []) (7 ∷ 8 ∷ []) ≡ 7 ∷ 8 ∷ []
unfolding table set_of refuse_shape residues_left residues_answer drawn_answer residues_drawn accept continued find later put verdict candidates little_endian
    numbers
residues_left_example₂ = refl

errors_answer_example : errors_answer 1 (15 ∷ 240 ∷ []) 3 ≡ refused 4 2
unfolding refuse_shape errors_answer
errors_answer_example = refl

errors_left_example : errors_left 1 (15 ∷ 240 ∷ []) (pos 1 ∷ pos 1 ∷ []) ≡ pos 4 ∷ negsuc 3 ∷ []
unfolding refuse_shape errors_answer errors_left in_turn error_at error_of_value ones
errors_left_example = refl

-- set 1 has 2,560 positions, and one sign byte after their sizes serves positions 0 to 7
multipliers_answer_example : multipliers_answer 1 [] 2559 2 ≡ refused 2 0
unfolding table set_of multiplier_count_of refuse_shape past_last multipliers_answer
multipliers_answer_example = refl

multipliers_answer_example₂ : multipliers_answer 1 (replicate 2561 200) 6 3 ≡ refused 4 2
unfolding table set_of multiplier_count_of multiplier_bytes_of refuse_shape past_last signs_at_of lent lent_results_of multipliers_answer
multipliers_answer_example₂ = refl

-- nothing wanted is accepted at any first position, and one result there is not
multipliers_answer_example₃ : map (multipliers_answer 1 [] 2561) (0 ∷ 1 ∷ []) ≡ accepted ∷ refused 2 0 ∷ []
unfolding table set_of multiplier_count_of refuse_shape past_last lent_results_of multipliers_answer
multipliers_answer_example₃ = refl

-- 200 modulo 128 is 72; of the bits of 200 number 2 is 0 and number 3 is 1
multipliers_left_example : multipliers_left 1 (replicate 2561 200) 2 (pos 0 ∷ pos 0 ∷ []) ≡ pos 73 ∷ negsuc 72 ∷ []
unfolding table set_of multiplier_count_of multiplier_bytes_of refuse_shape past_last signs_at_of lent lent_results_of multipliers_answer
    multipliers_left in_turn multiplier_at_of multiplier_of_value multiplier_bits_of sign_bit region little_endian
multipliers_left_example = refl
