use Rattle.std.proofs.Common.{◌≡◌, filter, map, take}
use Rattle.std.specs.Prelude.{not}
use Rattle.scr_report.specs.ReportData.{unsatisfied_reference}
use Rattle.scr_readers.specs.declared.view.ReferenceState.{ReferenceState}
use Rattle.serde_json.specs.View.{view}
use Rattle.scr_report.proofs.reference_values.unsatisfied_ones.Given as goal

abbrev pub invariant-loop-reference : goal.invariant-loop-reference
invariant-loop-reference l = map view l.items.items ≡ map unsatisfied_reference (filter (λ (r : ReferenceState). not r.satisfied) (take l.reference-index l.references))
