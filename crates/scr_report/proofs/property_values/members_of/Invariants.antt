use Rattle.std.proofs.Common.{◌≡◌, take}
use Rattle.scr_report.specs.ReportData.{property_members}
use Rattle.serde_json.specs.View.{members_view}
use Rattle.scr_report.proofs.property_values.members_of.Given as goal

abbrev pub invariant-loop-property : goal.invariant-loop-property
invariant-loop-property l = members_view l.members.entries ≡ property_members (take l.property-index l.properties)
