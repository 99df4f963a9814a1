-- Which component configurations have details. OSGi Compendium 8, chapter 112, "ComponentConfigurationDTO".
use Rattle.std.specs.Prelude.{◌≡◌, ℕ, None}
use Rattle.scr_world.specs.declared.world.World.{World}
use Rattle.scr_report.specs.DetailData.{details_in}
use Rattle.scr_report.specs.declared.report_fault.ReportFault.{ReportFault}
use Rattle.scr_report.specs.declared.report_fault.ReportFault.TheVariants.{NoComponent, OutOfMemory}

-- details are refused exactly where there are none; want of memory is free
abbrev pub RefusesDetails : World → ℕ → ReportFault → Type 0
RefusesDetails w id (NoComponent number) = (number ≡ id) × (details_in w id ≡ None)
RefusesDetails w id OutOfMemory = Unit {0}
