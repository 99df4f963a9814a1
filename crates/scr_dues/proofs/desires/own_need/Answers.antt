use Rattle.std.proofs.Common.{◌≡◌, ◌∙◌, ap, sym, subst, List, [], ℕ}
use Rattle.std.specs.Option.{option_map_or}
use Rattle.component_dto.specs.declared.description.Reference.{Reference}
use Rattle.component_state.specs.declared.component.Component.{Component}
use Rattle.component_state.specs.declared.origin.Origin.{Origin}
use Rattle.reference_match.specs.declared.need.Need.{Need}
use Rattle.reference_match.specs.Needs.{need_of}
use Rattle.scr_world.specs.Whiteboard.{component_in, whiteboard_component}
use Rattle.scr_dues.proofs.desires.own_need.Goals as goal

-- the component configuration 0 is the whiteboard's, whatever others there are
by_number : (components : List Component) (number : ℕ) (r : Reference) (n : Need) → number ≡ 0 → n ≡ need_of whiteboard_component.properties r → n ≡ need_of (option_map_or (λ (c : Component). c.properties) (component_in components number) []) r
by_number components number r n zero same =
    subst (λ (k : ℕ). n ≡ need_of (option_map_or (λ (c : Component). c.properties) (component_in components k) []) r) (sym zero) same

pub returns-then-get-eq0 : goal.returns-then-get-eq0
returns-then-get-eq0 c world need is =
    by_number world.components c.args.instance.now.origin.configuration c.args.reference.now need (ap (λ (o : Origin). o.configuration) (sym c.get.ensures) ∙ c.if-get-eq0.true) (c.need_of.ensures need is)
