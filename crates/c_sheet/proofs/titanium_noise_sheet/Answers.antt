-- `c_sheet::titanium_noise_sheet` gives and leaves what the call gives and leaves.
-- Assumes nothing.
use Rattle.c_sheet.proofs.titanium_noise_sheet.Goals as goal

pub returns : goal.returns
returns c =
    let made = c.sheet.ensures in record { count = made.count; printed = made.printed; cleared = made.cleared }
