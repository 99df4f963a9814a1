-- Looks at choices by needs are those by references: the implicit need is dynamic, so no choice counts for it.
use Rattle.std.proofs.Common.{◌≡◌, ℕ, ◌+◌, List, [], ◌∷◌, ◌++◌, ap, ◌∙◌, refl, cond, Bool, true, false, ◌&&◌, ◌||◌}
use Rattle.std.specs.Prelude.{map}
use Rattle.std.specs.List.{list_any}
use Rattle.component_dto.specs.declared.description.Reference.{Reference}
use Rattle.prop_map.specs.declared.properties.Property.{Property}
use Rattle.prop_map.specs.Words.{with_places}
use Rattle.reference_match.specs.declared.need.Need.{Need}
use Rattle.reference_match.specs.Needs.{implicit_need, need_of}
use Rattle.reference_match.specs.Targets.{is_static, targets}
use Rattle.service_registry.specs.declared.row.ServiceRow.{ServiceRow}
use Rattle.component_state.specs.declared.component.Component.{Component}
use Rattle.component_state.specs.declared.origin.Choice.{Choice}
use Rattle.component_state.specs.declared.origin.Origin.{Origin}
use Rattle.component_state.specs.Components.{needs_of}
use Rattle.component_state.specs.Inside.ByNeeds.{chose_outdated_by, is_wrong}
use Rattle.component_state.specs.Inside.Misled.{chose_outdated, is_outdated}
use Rattle.component_state.specs.Reasons.{choice_at}

module _ (rows : List ServiceRow) (choices : List Choice) (properties : List Property) where
  abbrev is_wrong_of : ℕ × Reference → Bool
  is_wrong_of r = is_static r.1.policy && (let n = need_of properties r.1 in is_outdated n (choice_at choices r.0) (targets n rows))

  by_references : (k : ℕ) (references : List Reference) (more : List Need) → ((m : ℕ) → list_any (is_wrong rows choices) (with_places m more) ≡ false)
      → list_any (is_wrong rows choices) (with_places k (map (need_of properties) references ++ more)) ≡ list_any is_wrong_of (with_places k references)
  by_references k [] more none = none k
  by_references k (r ∷ rs) more none = ap (λ b. is_wrong_of (k, r) || b) (by_references (k + 1) rs more none)

  implicit_right : (b : Bool) (m : ℕ) → list_any (is_wrong rows choices) (with_places m (cond b (implicit_need properties ∷ []) [])) ≡ false
  implicit_right true m = refl
  implicit_right false m = refl

-- so a choice is outdated by needs where it is outdated
pub by_needs : (rows : List ServiceRow) (c : Component) (o : Origin) → chose_outdated_by rows (needs_of c) o.chosen ≡ chose_outdated rows c o
by_needs rows c o =
    by_references rows o.chosen c.properties 0 c.description.references (cond c.description.implicit (implicit_need c.properties ∷ []) [])
    (implicit_right rows o.chosen c.properties c.description.implicit)
