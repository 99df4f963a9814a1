-- The services of open periods by their numbers.
use Rattle.std.proofs.Common.{◌≡◌, ℕ, List}
use Rattle.std.specs.Prelude.{◌==◌, ◌&&◌, find, not, option_map}
use Rattle.component_state.specs.declared.open_period.OpenPeriod.{OpenPeriod}
use Rattle.component_state.specs.Rows.{rows_of}
use Rattle.scr_dues.proofs.Rows.{row_of_opened}
use Rattle.service_registry.specs.Registries.{row_of}

-- the service of an open period, by its number
pub opened_row : (ps : List OpenPeriod) (s : ℕ) → row_of (rows_of ps) s ≡ option_map (λ (p : OpenPeriod). p.row) (find (λ (p : OpenPeriod). not (p.row.id == 0) && (p.row.id == s)) ps)
opened_row = row_of_opened
