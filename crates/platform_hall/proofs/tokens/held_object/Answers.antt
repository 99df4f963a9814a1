use Rattle.std.proofs.Common.{sym, ap, ◌∙◌}
use Rattle.std.specs.Prelude.{is_some}
use Rattle.platform_hall.proofs.Owners.{copied_is, found_held}
use Rattle.platform_hall.proofs.tokens.held_object.Goals as goal

pub returns-clause-some : goal.returns-clause-some
returns-clause-some g c = copied_is c.first_held.result ∙ ap is_some c.first_held.ensures ∙ found_held c.args.held.now c.args.instance
