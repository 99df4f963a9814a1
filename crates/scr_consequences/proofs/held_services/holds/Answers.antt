use Rattle.std.proofs.Common.{◌∙◌, [], sym}
use Rattle.std.specs.Option.{option_map_or}
use Rattle.component_state.specs.declared.component.Component.{Component}
use Rattle.scr_consequences.proofs.BoundLemmas.{never_bound}
use Rattle.scr_world.specs.Whiteboard.{component_in}
use Rattle.scr_consequences.proofs.held_services.holds.Goals as goal

pub returns : goal.returns
returns c =
    let i = c.args.instance.now in
    sym (never_bound c.args.service i.callbacks (option_map_or (λ (d : Component). d.description.references) (component_in c.args.components.now i.origin.configuration) []) (sym c.was_bound.ensures ∙ c.if-was_bound.false))
