use Rattle.std.proofs.Common.{◌∙◌, false}
use Rattle.std.specs.Option.{option_map_or}
use Rattle.std.specs.Str.{bytes_eq}
use Rattle.config_admin.specs.declared.configuration.Configuration.{Configuration}
use Rattle.config_admin.proofs.Emptiness.{any_left}
use Rattle.config_admin.proofs.rows.has_factory.Goals as goal

pub returns : goal.returns
returns c = c.any_of_factory.ensures ∙ any_left (λ (d : Configuration). option_map_or (bytes_eq c.args.pid.now) d.factory false) c.args.rows.now
