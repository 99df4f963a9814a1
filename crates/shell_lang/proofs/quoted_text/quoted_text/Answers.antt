use Rattle.std.proofs.Common.{◌∙◌, ap}
use Rattle.serde_json.specs.Written.{compact_text, has_float}
use Rattle.shell_lang.proofs.quoted_text.quoted_text.Goals as goal

pub returns : goal.returns
returns c = c.in_ok-quoted.ensures.text (ap has_float c.in_ok-value.ensures) ∙ ap compact_text c.in_ok-value.ensures
