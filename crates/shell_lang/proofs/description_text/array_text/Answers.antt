use Rattle.std.proofs.Common.{◌∙◌, ap}
use Rattle.serde_json.specs.Written.{compact_text, has_float}
use Rattle.shell_lang.proofs.TextArrays.{array_without}
use Rattle.shell_lang.proofs.description_text.array_text.Goals as goal

pub returns : goal.returns
returns c = c.in_ok-text.ensures.text (ap has_float c.in_ok-value.ensures ∙ array_without c.args.texts.now) ∙ ap compact_text c.in_ok-value.ensures
