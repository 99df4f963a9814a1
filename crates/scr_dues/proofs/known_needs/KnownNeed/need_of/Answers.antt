use Rattle.std.proofs.Common.{◌≡◌, ◌∙◌, ap, refl, sym, Option}
use Rattle.std.specs.Option.{option_map_or}
use Rattle.reference_match.specs.declared.need.Need.{Need}
use Rattle.scr_world.specs.Whiteboard.{whiteboard_component}
use Rattle.scr_dues.proofs.known_needs.KnownNeed.need_of.Goals as goal

pub returns-then-needs_the_same : goal.returns-then-needs_the_same
returns-then-needs_the_same c need is =
    ap (λ (o : Option Need). option_map_or (λ (n : Need). n) o need) (sym is) ∙ c.self.invariant ∙ c.if-needs_the_same.ensures refl whiteboard_component.properties
