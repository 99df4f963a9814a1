use Rattle.std.proofs.Common.{◌∙◌, ap, true, List}
use Rattle.prop_map.specs.declared.properties.Property.{Property}
use Rattle.scr_world.specs.Tables.{direct_scope}
use Rattle.service_registry.specs.Registries.{Registered, registered}
use Rattle.scr_serving.proofs.registering.with_service.Goals as goal

pub returns-in-Ok : goal.returns-in-Ok
returns-in-Ok c =
    c.in-Ok.ensures.ok
    ∙ ap (λ (given : List Property). registered c.args.bundle c.args.interfaces.now direct_scope given true c.in_ok-after.after) c.in_ok-given.ensures
    ∙ ap (λ (t : Registered). registered c.args.bundle c.args.interfaces.now direct_scope c.args.properties.now true t) c.in_ok-after.ensures
