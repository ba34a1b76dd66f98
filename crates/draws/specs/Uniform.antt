-- Uniform residues: candidates of three bytes, and which of them are taken (003, section 2.2.3, algorithm 8; 01, Draws and Draws over lent bytes).
-- Assumes nothing.
use Rattle.std.specs.Prelude.{◌≡◌, refl, cond, List, [], ◌∷◌, ◌++◌, ℕ, zero, suc, ◌+◌, ◌-◌, ◌*◌, ◌%◌, ltb, length, drop, replicate, Result, Ok, Err}
use Rattle.maths.specs.Bytes.{little_endian}
use Rattle.draws.specs.declared.DrawRefusal.{DrawRefusal}
use Rattle.draws.specs.declared.DrawRefusal.TheVariants.{BytesEnded, SetAside}

-- candidate j is the number of bytes 3j, 3j + 1 and 3j + 2; one or two bytes at the end are no candidate
unfoldable pub candidates : List ℕ → List ℕ
candidates [] = []
candidates (a ∷ []) = []
candidates (a ∷ b ∷ []) = []
candidates (a ∷ b ∷ c ∷ bytes) = little_endian (a ∷ b ∷ c ∷ []) ∷ candidates bytes

-- a candidate is taken, is set aside, or is the last that one result may set aside
pub data Verdict : Type 0 where
  within aside last : Verdict

-- below the threshold it is taken, else set aside; run counts those set aside in a row before it, and the 128th is the last
unfoldable pub verdict : ℕ → ℕ → ℕ → Verdict
verdict threshold run candidate = cond (ltb candidate threshold) within (cond (ltb (suc run) 128) aside last)

-- what a draw of some results from candidates gives
pub data Drawn : Type 0 where
  -- the numbers, in order
  taken : List ℕ → Drawn
  -- the candidates ended: the numbers of the results that were finished, and how many candidates were set aside in a row since
  ended : List ℕ → ℕ → Drawn
  -- the 128th candidate in a row was set aside, for the result with this index
  exhausted : ℕ → Drawn

-- a draw with one finished result before it
unfoldable pub put : ℕ → Drawn → Drawn
put x (taken xs) = taken (x ∷ xs)
put x (ended xs run) = ended (x ∷ xs) run
put x (exhausted i) = exhausted (suc i)

-- what looking for the candidate of one result finds
pub data Found : Type 0 where
  -- a candidate below the threshold, how many were looked at with it, and those behind it
  found : ℕ → ℕ → List ℕ → Found
  -- the candidates ended, with so many set aside in a row
  short : ℕ → Found
  -- the 128th in a row was set aside
  spent : Found

-- the same with one candidate more looked at before
unfoldable pub later : Found → Found
later (found c looked cs) = found c (suc looked) cs
later (short run) = short run
later spent = spent

-- algorithm 8, one result: the first candidate below the threshold, with run candidates set aside in a row so far
unfoldable pub find : ℕ → ℕ → List ℕ → Found
find threshold run [] = short run
find threshold run (c ∷ cs) =
    elim (verdict threshold run c) [
      | within ↦ found c 1 cs
      | aside ↦ later (find threshold (suc run) cs)
      | last ↦ spent
    ]

-- a draw that goes on behind the candidate found
unfoldable pub continued : ℕ → (List ℕ → Drawn) → Found → Drawn
continued q rest (found c looked cs) = put (c % q) (rest cs)
continued q rest (short run) = ended [] run
continued q rest spent = exhausted 0

-- algorithm 8: residues modulo q from candidates, as many as wanted, with run candidates set aside in a row so far
unfoldable pub accept : ℕ → ℕ → ℕ → ℕ → List ℕ → Drawn
accept q threshold zero run cs = taken []
accept q threshold (suc wanted) run cs = continued q (accept q threshold wanted 0) (find threshold run cs)

-- the numbers of the finished results
unfoldable pub numbers : Drawn → List ℕ
numbers (taken xs) = xs
numbers (ended xs run) = xs
numbers (exhausted i) = []

-- a draw with some finished results before it
unfoldable pub after : List ℕ → Drawn → Drawn
after [] drawn = drawn
after (x ∷ xs) drawn = put x (after xs drawn)

-- a draw that ended, of wanted results, goes on with more candidates
unfoldable pub resume : ℕ → ℕ → ℕ → Drawn → List ℕ → Drawn
resume q threshold wanted (taken xs) cs = taken xs
resume q threshold wanted (ended xs run) cs = after xs (accept q threshold (wanted - length xs) run cs)
resume q threshold wanted (exhausted i) cs = exhausted i

-- the papers' answer of one draw: the number and the next byte position, or the number of the refusal
pub data Sample : Type 0 where
  number : ℕ → ℕ → Sample
  refusal : ℕ → Sample

-- the papers' number of each refusal of a draw
abbrev pub draw_number : DrawRefusal → ℕ
draw_number BytesEnded = 4
draw_number SetAside = 5

-- the papers' answer for each case of the code's answer
abbrev pub sample : Result (ℕ × ℕ) DrawRefusal → Sample
sample (Ok drawn) = number drawn.0 drawn.1
sample (Err draw) = refusal (draw_number draw)

-- one result from candidates that begin at a byte position: 4 when they end, 5 when the last is set aside
unfoldable pub sample_of : ℕ → ℕ → Found → Sample
sample_of q position (found c looked cs) = number (c % q) (position + 3 * looked)
sample_of q position (short run) = refusal 4
sample_of q position spent = refusal 5

unfoldable pub sample_from : ℕ → ℕ → ℕ → ℕ → List ℕ → Sample
sample_from q threshold run position cs = sample_of q position (find threshold run cs)

-- one result from the bytes from a position on, with run candidates set aside in a row for it so far
unfoldable pub sample_at : ℕ → ℕ → ℕ → List ℕ → ℕ → Sample
sample_at q threshold run bytes position = sample_from q threshold run position (candidates (drop position bytes))

-- of seven bytes the last is no candidate
candidates_example : candidates (1 ∷ 2 ∷ 3 ∷ 255 ∷ 255 ∷ 255 ∷ 9 ∷ []) ≡ 197121 ∷ 16777215 ∷ []
unfolding little_endian candidates
candidates_example = refl

-- 255 and more are set aside
accept_example : accept 17 255 3 0 (300 ∷ 20 ∷ 254 ∷ 255 ∷ 3 ∷ 9 ∷ []) ≡ taken (3 ∷ 16 ∷ 3 ∷ [])
unfolding verdict later find put continued accept
accept_example = refl

-- the candidates end after one result and two more that are set aside
accept_example₂ : accept 17 255 3 0 (20 ∷ 255 ∷ 256 ∷ []) ≡ ended (3 ∷ []) 2
unfolding verdict later find put continued accept
accept_example₂ = refl

-- 127 candidates in a row may be set aside, the 128th may not
accept_example₃ : accept 17 255 2 0 (20 ∷ replicate 127 255 ++ (21 ∷ [])) ≡ taken (3 ∷ 4 ∷ [])
unfolding verdict later find put continued accept
accept_example₃ = refl

accept_example₄ : accept 17 255 2 0 (20 ∷ replicate 128 255 ++ (21 ∷ [])) ≡ exhausted 1
unfolding verdict later find put continued accept
accept_example₄ = refl

-- the same candidates in two parts
resume_example : resume 17 255 3 (ended (3 ∷ []) 2) (254 ∷ 255 ∷ 3 ∷ []) ≡ taken (3 ∷ 16 ∷ 3 ∷ [])
unfolding verdict later find put continued accept after resume
resume_example = refl

-- the run of candidates set aside goes on in the second part
resume_example₂ : resume 17 255 3 (ended (3 ∷ []) 127) (255 ∷ 3 ∷ []) ≡ exhausted 1
unfolding verdict later find put continued accept after resume
resume_example₂ = refl

sample_at_example : sample_at 17 255 0 (9 ∷ 255 ∷ 0 ∷ 0 ∷ 20 ∷ 0 ∷ 0 ∷ 7 ∷ []) 1 ≡ number 3 7
unfolding little_endian candidates verdict later find sample_of sample_from sample_at
sample_at_example = refl

-- the bytes end inside a candidate
sample_at_example₂ : sample_at 17 255 0 (255 ∷ 0 ∷ 0 ∷ 20 ∷ 0 ∷ []) 0 ≡ refusal 4
unfolding little_endian candidates verdict later find sample_of sample_from sample_at
sample_at_example₂ = refl

sample_at_example₃ : sample_at 17 255 0 (replicate 384 255 ++ (20 ∷ 0 ∷ 0 ∷ [])) 0 ≡ refusal 5
unfolding little_endian candidates verdict later find sample_of sample_from sample_at
sample_at_example₃ = refl
