-- A component configuration that asks for no interface of a service has no need that it meets.
use Rattle.std.proofs.Common.{◌≡◌, List, [], ◌∷◌, ◌++◌, ap, ◌∙◌, refl, cond, Bool, true, false, ◌&&◌, ◌||◌}
use Rattle.std.specs.Prelude.{map, not}
use Rattle.std.specs.List.{list_all, list_any}
use Rattle.component_dto.specs.declared.description.Reference.{Reference}
use Rattle.component_state.specs.declared.component.Component.{Component}
use Rattle.component_state.specs.Components.{needs_of}
use Rattle.prop_map.specs.declared.properties.Property.{Property}
use Rattle.reference_match.specs.declared.need.Need.{Need}
use Rattle.reference_match.specs.Needs.{condition_interface, implicit_need, need_of}
use Rattle.reference_match.specs.Targets.{meets}
use Rattle.scr_unseen.specs.Unseen.{asks_for}
use Rattle.service_registry.specs.Services.{has_interface}
use Rattle.service_registry.specs.declared.row.ServiceRow.{ServiceRow}

neither : (a b : Bool) → (a || b) ≡ false → (a ≡ false) × (b ≡ false)
neither true b is = cc
neither false b is = (refl, is)

off_first : (a b : Bool) → a ≡ false → not (a && b) ≡ true
off_first a b off = ap (λ x. not (x && b)) off

module _ (r : ServiceRow) where
  abbrev is_unmet_by : Need → Bool
  is_unmet_by n = not (meets n r)

  -- a need whose interface the service lacks
  unmet : (n : Need) → has_interface n.interface r ≡ false → is_unmet_by n ≡ true
  unmet n off = off_first (has_interface n.interface r) _ off

  none_of : (properties : List Property) (references : List Reference) (more : List Need) → list_any (λ (x : Reference). has_interface x.interface_name r) references ≡ false
      → list_all is_unmet_by more ≡ true → list_all is_unmet_by (map (need_of properties) references ++ more) ≡ true
  none_of properties [] more off rest = rest
  none_of properties (x ∷ xs) more off rest =
      let parts = neither (has_interface x.interface_name r) (list_any (λ (y : Reference). has_interface y.interface_name r) xs) off in
      ap (λ b. b && list_all is_unmet_by (map (need_of properties) xs ++ more)) (unmet (need_of properties x) parts.0) ∙ none_of properties xs more parts.1 rest

  implicit_none : (properties : List Property) (implicit : Bool) → (implicit && has_interface condition_interface r) ≡ false
      → list_all is_unmet_by (cond implicit (implicit_need properties ∷ []) []) ≡ true
  implicit_none properties true off = ap (λ b. b && true) (unmet (implicit_need properties) off)
  implicit_none properties false off = refl

pub asks_for_none : (c : Component) (r : ServiceRow) → asks_for c r ≡ false → list_all (λ (n : Need). not (meets n r)) (needs_of c) ≡ true
asks_for_none c r off =
    let parts = neither (list_any (λ (x : Reference). has_interface x.interface_name r) c.description.references) (c.description.implicit && has_interface condition_interface r) off in
    none_of r c.properties c.description.references (cond c.description.implicit (implicit_need c.properties ∷ []) []) parts.0 (implicit_none r c.properties c.description.implicit parts.1)
