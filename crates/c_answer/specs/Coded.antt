-- What callers in C get: an answer in one number (01, How each call answers).
-- Assumes nothing.
use Rattle.std.specs.Prelude.{◌≡◌, refl, ℕ, ◌+◌, ◌*◌}
use Rattle.calls.specs.Outcome.{Outcome, accepted, refused}

-- 0 where the call was accepted, else the number of its refusal plus 256 times the place
unfoldable pub coded : Outcome → ℕ
coded accepted = 0
coded (refused number place) = number + 256 * place

coded_example : coded (refused 3 7) ≡ 1795
unfolding coded
coded_example = refl
