use Rattle.std.proofs.Common.{◌∙◌, false}
use Rattle.config_admin.specs.declared.configuration.Configuration.{Configuration}
use Rattle.std.specs.Option.{option_map_or}
use Rattle.std.specs.Str.{bytes_eq}
use Rattle.component_state.proofs.AskingLemmas.{any_kept}
use Rattle.scr_causes.proofs.pid_causes.has_factory.Goals as goal

pub returns : goal.returns
returns c = c.is_any_of_factory.ensures ∙ any_kept (λ (k : Configuration). option_map_or (bytes_eq c.args.pid.now) k.factory false) c.args.configurations.now
