use Rattle.std.proofs.Common.{◌∙◌, ap}
use Rattle.serde_json.specs.Written.{compact_text, has_float}
use Rattle.scr_report.proofs.NoFloats.{report_without}
use Rattle.scr_report.proofs.reports.report_text_of.Goals as goal

pub returns : goal.returns
returns c = c.in_ok-text.ensures.text (ap has_float c.in_ok-value.ensures ∙ report_without c.args.id c.args.component.now) ∙ ap compact_text c.in_ok-value.ensures
