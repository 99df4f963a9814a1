use Rattle.std.proofs.Common.{◌∙◌, ap, List}
use Rattle.std.specs.Prelude.{◌==◌}
use Rattle.std.specs.List.{list_any}
use Rattle.component_state.specs.declared.open_period.OpenPeriod.{OpenPeriod}
use Rattle.scr_serving.proofs.RegisteredServices.{by_direct, by_period}
use Rattle.scr_serving.proofs.registered.is_registered.Goals as goal

pub returns-then-is_direct : goal.returns-then-is_direct
returns-then-is_direct c = by_direct c.args.service c.requires c.args.world.now c.is_direct.result c.is_direct.ensures c.if-is_direct.true

pub returns-else-is_direct : goal.returns-else-is_direct
returns-else-is_direct c =
    by_period c.args.service c.requires c.args.world.now c.is_direct.result c.is_direct.ensures c.is_open.result c.if-is_direct.false
    (c.is_open.ensures ∙ ap (λ (ps : List OpenPeriod). list_any (λ (p : OpenPeriod). p.row.id == c.args.service) ps) c.as_slice.ensures)
