use Rattle.std.proofs.Common.{◌∙◌, ap}
use Rattle.serde_json.specs.Written.{compact_text, has_float}
use Rattle.scr_report.proofs.NoFloats.{properties_without}
use Rattle.scr_report.proofs.property_texts.properties_text.Goals as goal

pub returns : goal.returns
returns c = c.in_ok-text.ensures.text (ap has_float c.in_ok-value.ensures ∙ properties_without c.args.properties.now) ∙ ap compact_text c.in_ok-value.ensures
