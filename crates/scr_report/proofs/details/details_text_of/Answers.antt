use Rattle.std.proofs.Common.{◌∙◌, ap}
use Rattle.serde_json.specs.Written.{compact_text, has_float}
use Rattle.scr_report.proofs.NoDetailFloats.{details_without}
use Rattle.scr_report.proofs.details.details_text_of.Goals as goal

pub returns : goal.returns
returns c = c.in_ok-text.ensures.text (ap has_float c.in_ok-value.ensures ∙ details_without c.args.id c.args.details.now) ∙ ap compact_text c.in_ok-value.ensures
