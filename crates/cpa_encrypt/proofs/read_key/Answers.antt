-- The first number of q or more, where there is one, comes before the end.
-- Assumes nothing.
use mathlib.Core.Path.{ap, ◌∙◌}
use mathlib.Core.Bool.{not}
use mathlib.Core.List.{List}
use Prim.Native.Nat.{ℕ}
use lib.Dec.{ltb}
use lib.ListN.{length}
use Rattle.calls.specs.Checks.{passing, below}
use Rattle.scheme.specs.Answers.{only_residues}
use Rattle.cpa_encrypt.proofs.read_key.Goals as goal

pub returns : goal.returns
unfolding only_residues
returns c =
    let made = c.unpack_into.ensures in record {
      answer = ap (λ (n : ℕ). not (ltb n (length c.unpack_into.new.out))) c.first_at_least-first.ensures
          ∙ ap (λ (xs : List ℕ). not (ltb (passing (below c.args.p.q) 0 xs) (length xs)))
          made;
      result = made;
    }
