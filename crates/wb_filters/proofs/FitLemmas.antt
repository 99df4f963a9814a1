-- What has a place fits.
use Rattle.std.proofs.Common.{◌≡◌, ℕ, refl, Bool, true, false}
use Rattle.std.specs.Prelude.{is_some}
use Rattle.wb_pattern.specs.Places.{placed_if}

pub placed : (fits : Bool) (class length : ℕ) → fits ≡ is_some (placed_if fits class length)
placed true class length = refl
placed false class length = refl
