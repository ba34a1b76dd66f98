-- Demand 3: one theorem for every set from 0 to 12 and everything that is handed in and fits.
-- Assumes nothing.
use mathlib.Core.Path.{◌≡◌}
use Prim.Native.Nat.{ℕ}
use Rattle.calls.specs.Outcome.{accepted}
use Rattle.calls.proofs.Outcome.{and_then_accepted}
use Rattle.sets.specs.Table.{IsSet}
use Rattle.claim.specs.Claim.{Handed, on_numbers, encryption, exchange, Fits, key_answered, sealing_answered, drawn, Demand3}
use Rattle.claim.proofs.Numbers.{numbers_claim}
use Rattle.claim.proofs.Seeds.{encryption_claim, exchange_claim}

pub demand_3 : (set : ℕ) (x : Handed) → IsSet set → Fits set x → drawn set x ≡ accepted → Demand3 set x
demand_3 set (on_numbers a s e r m) low fits taken =
    let both = and_then_accepted (key_answered set (on_numbers a s e r m)) (sealing_answered set (on_numbers a s e r m)) taken in
    numbers_claim set low a s e r m both.0 both.1
demand_3 set (encryption seed message sealing) low fits taken =
    encryption_claim set low fits.0 seed sealing message fits.1 fits.2 fits.3 fits.4 taken
demand_3 set (exchange seed message) low fits taken =
    exchange_claim set low fits.0 seed message fits.1 fits.2 fits.3 taken
