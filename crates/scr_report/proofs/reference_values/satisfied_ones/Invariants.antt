use Rattle.std.proofs.Common.{◌≡◌, filter, map, take}
use Rattle.scr_report.specs.ReportData.{satisfied_reference}
use Rattle.scr_readers.specs.declared.view.ReferenceState.{ReferenceState}
use Rattle.serde_json.specs.View.{view}
use Rattle.scr_report.proofs.reference_values.satisfied_ones.Given as goal

abbrev pub invariant-loop-reference : goal.invariant-loop-reference
invariant-loop-reference l = map view l.items.items ≡ map satisfied_reference (filter (λ (r : ReferenceState). r.satisfied) (take l.reference-index l.references))
