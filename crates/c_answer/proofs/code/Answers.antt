-- `c_answer::code` gives an answer in one number.
-- Assumes nothing.
use mathlib.Core.Path.{refl}
use Rattle.c_answer.specs.Coded.{coded}
use Rattle.c_answer.proofs.code.Goals as goal

pub returns-in-Ok : goal.returns-in-Ok
unfolding coded
returns-in-Ok c = rw c.in-Ok.is refl

pub returns-in-Err : goal.returns-in-Err
unfolding coded
returns-in-Err c = rw (c.in-Err.is, c.number.ensures, c.place.ensures) refl
