use Rattle.std.proofs.Common.{◌≡◌, ◌∙◌, List, subst}
use Rattle.std.specs.Prelude.{IfOk}
use Rattle.service_registry.specs.declared.row.ServiceRow.{ServiceRow}
use Rattle.wb_routes.specs.Listing.{routing_of}
use Rattle.script_shell.proofs.routes.routes_over.Goals as goal

pub returns : goal.returns
returns c = subst (λ (xs : List ServiceRow). IfOk c.of.result (λ routes. routes ≡ routing_of xs c.args.servlets.now)) (c.as_slice.ensures ∙ c.in_ok-contexts.ensures) c.of.ensures
