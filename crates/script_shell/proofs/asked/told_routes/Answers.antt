use Rattle.std.proofs.Common.{subst}
use Rattle.platform_hall.specs.Cores.{CoreView}
use Rattle.platform_hall.specs.Platforms.{world}
use Rattle.script_shell.specs.Carries.{CarriesReading}
use Rattle.script_shell.specs.Routes.{route_lines}
use Rattle.scr_calls.specs.Servlets.{routing_in}
use Rattle.shell_lang.specs.declared.shell_reply.ShellReply.TheVariants.{Routes}
use Rattle.script_shell.proofs.asked.told_routes.Goals as goal

pub returns : goal.returns
returns g c = subst (λ (q : CoreView). CarriesReading (Routes (route_lines (routing_in (world q)))) c.routes.result) c.core.ensures.core c.routes.ensures
