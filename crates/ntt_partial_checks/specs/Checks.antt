-- What the open calls of the partial transform answer (02, No. 2). A size is worked as D1 rows of D2 numbers; m is the number of rows that are read, going
-- forward, or written, going back.
-- Assumes nothing.
use Rattle.std.specs.Prelude.{◌≡◌, refl, not, cond, List, [], ◌∷◌, map, ℕ, ◌*◌, ltb, eqb, length, Result, Err, MatchResult}
use Rattle.calls.specs.declared.Refusal.{Refusal}
use Rattle.calls.specs.Outcome.{Outcome, accepted, refused, refuse, outcome}
use Rattle.calls.specs.Checks.{refuse_first, below}
use Rattle.sets.specs.declared.Parameters.{Parameters}
use Rattle.sets.specs.Table.{table, set_of, no_set}

-- the number of a set's transform of a size, or 0 where it has none of that size
unfoldable pub size_number_of : Parameters → ℕ → ℕ
size_number_of p size = cond (eqb size p.d1) 1 (cond (eqb size p.d2) 2 (cond (eqb size p.d3) 3 0))

-- the checks in their order: 1, 11, 12, 2, 3; the product of D1 and D2 is that of whole numbers
unfoldable pub partial_answer_of : ℕ → ℕ → ℕ → ℕ → List ℕ → ℕ → Outcome
partial_answer_of set D1 D2 m input places =
    refuse (ltb set 1) 1 0
    (refuse (no_set set) 1 0
    (refuse (ltb m 1) 11 0
    (refuse (ltb D1 m) 11 0
    (refuse (eqb (size_number_of (set_of set) (D1 * D2)) 0) 12 0
    (refuse (not (eqb (length input) (D1 * D2))) 2 0
    (refuse (not (eqb places (D1 * D2))) 2 0
    (refuse_first (below (set_of set).q) 0 0 input accepted)))))))

-- what the checks give: the number of the set's transform of that size where they accept, else their refusal
abbrev pub PartialChecked : ℕ → ℕ → ℕ → ℕ → List ℕ → ℕ → Result ℕ Refusal → Type 0
PartialChecked set D1 D2 m input places result =
    MatchResult result (λ i. (i ≡ size_number_of (set_of set) (D1 * D2)) × (accepted ≡ partial_answer_of set D1 D2 m input places))
    (λ refusal. outcome (Err refusal) ≡ partial_answer_of set D1 D2 m input places)

-- set 1 has transforms of 512, 1,024 and 1,280 places
size_number_example : map (size_number_of (set_of 1)) (512 ∷ 1024 ∷ 1280 ∷ 0 ∷ 256 ∷ 2 * 18446744073709551616 ∷ []) ≡ 1 ∷ 2 ∷ 3 ∷ 0 ∷ 0 ∷ 0 ∷ []
unfolding size_number_of set_of table
size_number_example = refl

-- no rows are refused with 11 even where D1 · D2 is no size, and a wrong size even where the slices fit it
partial_answer_example : partial_answer_of 1 0 7 0 [] 0 ∷ partial_answer_of 1 1 3 1 (1 ∷ 2 ∷ 3 ∷ []) 3 ∷ partial_answer_of 1 2 256 1 [] 512 ∷ []
    ≡ refused 11 0 ∷ refused 12 0 ∷ refused 2 0 ∷ []
unfolding partial_answer_of size_number_of set_of table
partial_answer_example = refl
