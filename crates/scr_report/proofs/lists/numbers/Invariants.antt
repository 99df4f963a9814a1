use Rattle.std.proofs.Common.{◌≡◌, map, take}
use Rattle.scr_report.specs.ReportData.{whole_number}
use Rattle.serde_json.specs.View.{view}
use Rattle.scr_report.proofs.lists.numbers.Given as goal

abbrev pub invariant-loop-number : goal.invariant-loop-number
invariant-loop-number l = map view l.items.items ≡ map whole_number (take l.number-index l.these)
