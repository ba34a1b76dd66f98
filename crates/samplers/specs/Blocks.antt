-- Uniform residues from a state of the byte source, one output after the other (003, section 2.2.3, algorithm 8).
-- Assumes nothing.
use Rattle.std.specs.Prelude.{◌≡◌, refl, List, [], ◌∷◌, ℕ, zero, suc, ◌+◌, length, Result, Ok, Err}
use Rattle.calls.specs.Region.{over}
use Rattle.sets.specs.declared.Parameters.{Parameters}
use Rattle.draws.specs.declared.DrawRefusal.{DrawRefusal}
use Rattle.draws.specs.Uniform.{draw_number, candidates, Drawn, taken, ended, exhausted, accept, resume}
use Rattle.byte_source.specs.Source.{State, state_at, output}

-- a draw from a state of the byte source: what was drawn, and the state afterwards
pub record Sampled : Type 0 where
  pub drawn : Drawn
  pub next : State

abbrev pub sampled : Drawn → State → Sampled
sampled drawn next = record { drawn = drawn; next = next }

-- one block more: a draw that ended short goes on over the candidates of the next output of size bytes; another reads nothing more
unfoldable pub one_block : Parameters → ℕ → ℕ → Drawn → State → Sampled
one_block p size wanted (taken xs) state = sampled (taken xs) state
one_block p size wanted (ended xs run) state =
    let read = output p state size in
    sampled (resume p.q p.zqrej wanted (ended xs run) (candidates read.bytes)) read.next
one_block p size wanted (exhausted i) state = sampled (exhausted i) state

-- a draw of wanted results after m blocks at most
unfoldable pub uniform_after : Parameters → State → ℕ → ℕ → ℕ → Sampled
uniform_after p state size wanted zero = sampled (accept p.q p.zqrej wanted 0 []) state
uniform_after p state size wanted (suc m) =
    let before = uniform_after p state size wanted m in
    one_block p size wanted before.drawn before.next

-- algorithm 8: as many blocks as results wanted always suffice, since a block of a set holds 128 candidates or more
unfoldable pub uniform : Parameters → State → ℕ → ℕ → Sampled
uniform p state size wanted = uniform_after p state size wanted wanted

-- the papers' answer of a draw from a state: the state afterwards, or the number of the refusal
pub data Onward : Type 0 where
  onto : State → Onward
  refusal : ℕ → Onward

-- the papers' answer for each case of the code's answer to a draw from a seed
abbrev pub onward : List ℕ → Result ℕ DrawRefusal → Onward
onward seed (Ok counter) = onto (state_at seed counter)
onward seed (Err draw) = refusal (draw_number draw)

-- the answer with the state afterwards; as for lent bytes, 4 where the candidates ended, which does not happen with the blocks of a set
-- (`uniform_never_ends`), and 5 where one result's 128th in a row was set aside
abbrev pub answer_of : Drawn → State → Onward
answer_of (taken xs) state = onto state
answer_of (ended xs run) state = refusal 4
answer_of (exhausted i) state = refusal 5

-- the answer of a uniform draw
unfoldable pub uniform_answer : Parameters → State → ℕ → ℕ → Onward
uniform_answer p state size wanted = let all = uniform p state size wanted in answer_of all.drawn all.next

-- where a draw stands after one block: so many results are done, with a run of candidates set aside since, or it is refused with a number
pub data Standing : Type 0 where
  reached : ℕ → ℕ → Standing
  stopped : ℕ → Standing

-- the same for each case of the code's answer
abbrev pub standing : Result (ℕ × ℕ) DrawRefusal → Standing
standing (Ok progress) = reached progress.0 progress.1
standing (Err draw) = stopped (draw_number draw)

-- where a draw stands that goes on over one block after some results were done
abbrev pub standing_after : ℕ → Drawn → Standing
standing_after done (taken xs) = reached (done + length xs) 0
standing_after done (ended xs run) = reached (done + length xs) run
standing_after done (exhausted i) = stopped 5

-- what it leaves in the output: the numbers taken stand behind those done; of a draw that is refused only the length is promised
abbrev pub Written : ℕ → Drawn → List ℕ → List ℕ → Type 0
Written done (taken xs) old new = new ≡ over old done xs
Written done (ended xs run) old new = new ≡ over old done xs
Written done (exhausted i) old new = length new ≡ length old

-- two results were done, a third is taken, and two candidates were set aside since
standing_after_example : standing_after 2 (ended (7 ∷ []) 2) ≡ reached 3 2
standing_after_example = refl

answer_of_example : answer_of (exhausted 3) (state_at [] 9) ≡ refusal 5
answer_of_example = refl
