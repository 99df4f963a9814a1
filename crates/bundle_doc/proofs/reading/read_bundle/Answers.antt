use Rattle.std.proofs.Common.{rules}
use Rattle.serde_json.specs.View.{view}
use Rattle.bundle_doc.proofs.Meanings.{json_answer, json_none}
use Rattle.bundle_doc.proofs.reading.read_bundle.Goals as goal

pub returns-in-Ok : goal.returns-in-Ok
returns-in-Ok c = json_answer c.args.bytes.now (view c.in-Ok.json) c.document.result c.in-Ok.ensures.ok.0 c.in-Ok.ensures.ok.1 c.document.ensures

pub returns-else-eq : goal.returns-else-eq
returns-else-eq c = λ _. json_none c.args.bytes.now (λ text. search rules)
