use Rattle.std.proofs.Common.{◌≡◌, filter, map, take}
use Rattle.std.specs.Prelude.{not}
use Rattle.scr_report.specs.DetailData.{reference_data}
use Rattle.scr_readers.specs.declared.component_details.ReferenceDetails.{ReferenceDetails}
use Rattle.serde_json.specs.View.{view}
use Rattle.scr_report.proofs.reference_details.unsatisfied_details.Given as goal

abbrev pub invariant-loop-reference : goal.invariant-loop-reference
invariant-loop-reference l = map view l.items.items ≡ map reference_data (filter (λ (r : ReferenceDetails). not r.state.satisfied) (take l.reference-index l.references))
