use Rattle.std.proofs.Common.{◌≡◌, ◌∙◌, List, subst}
use Rattle.std.specs.Prelude.{IfOk, codes}
use Rattle.platform_hall.specs.Platforms.{world}
use Rattle.scr_readers.specs.Reaching.{held_rows}
use Rattle.service_registry.specs.declared.row.ServiceRow.{ServiceRow}
use Rattle.wb_routes.specs.Listing.{routing_of}
use Rattle.script_shell.proofs.routes.routes_in.Goals as goal

pub returns : goal.returns
returns c =
    let w = world c.args.core.now in
    subst (λ (xs : List ServiceRow). IfOk c.routes_over.result (λ routes. routes ≡ routing_of (held_rows w (codes "contexts") w.whiteboard) xs)) (c.as_slice.ensures ∙ c.in_ok-servlets.ensures) c.routes_over.ensures
