-- Which component configurations have a report. OSGi Compendium 8, chapter 112, "ComponentConfigurationDTO".
use Rattle.std.specs.Prelude.{◌≡◌, ℕ, Option, None, option_map}
use Rattle.serde_json.specs.Data.{Data}
use Rattle.scr_world.specs.declared.world.World.{World}
use Rattle.scr_readers.specs.ComponentViews.{component_view}
use Rattle.scr_report.specs.ReportData.{report_data}
use Rattle.scr_report.specs.declared.report_fault.ReportFault.{ReportFault}
use Rattle.scr_report.specs.declared.report_fault.ReportFault.TheVariants.{NoComponent, OutOfMemory}

-- the report of the component configuration of a number: none where there is none, or it has ceased
abbrev pub report_in : World → ℕ → Option Data
report_in w id = option_map (report_data id) (component_view w id)

-- a report is refused exactly where there is none; want of memory is free
abbrev pub RefusesReport : World → ℕ → ReportFault → Type 0
RefusesReport w id (NoComponent number) = (number ≡ id) × (report_in w id ≡ None)
RefusesReport w id OutOfMemory = Unit {0}
