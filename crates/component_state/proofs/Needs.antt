-- What the needs of a component configuration ask for: an interface that it references, or a service without a component behind it. And which open periods meet one.
use Rattle.std.proofs.Common.{inl, inr, ◌⊎◌, ◌≡◌, ℕ, List, [], ◌∷◌, ◌++◌, ap, sym, ◌∙◌, refl, cond, Bool, true, false, ◌&&◌, ◌||◌, Option, Some, None}
use Rattle.std.specs.Prelude.{filter, find, map, not, ◌==◌}
use Rattle.std.specs.Option.{option_map_or}
use Rattle.std.proofs.lemmas.Bool.{false_from_ne_true, false≢true}
use Rattle.std.proofs.lemmas.List.Elements.{filter-append}
use Rattle.component_dto.specs.declared.description.Description.{Description}
use Rattle.component_dto.specs.declared.description.Reference.{Reference}
use Rattle.component_dto.specs.TextLists.{has_text}
use Rattle.ldap_filter.specs.Matching.{matches}
use Rattle.level_order.specs.Levels.{consumes, provides}
use Rattle.prop_map.specs.declared.properties.Property.{Property}
use Rattle.reference_match.specs.declared.need.Need.{Need}
use Rattle.reference_match.specs.Needs.{implicit_need, need_of}
use Rattle.reference_match.specs.Targets.{meets}
use Rattle.service_registry.specs.declared.row.ServiceRow.{ServiceRow}
use Rattle.component_state.specs.declared.component.Component.{Component}
use Rattle.component_state.specs.declared.open_period.OpenPeriod.{OpenPeriod}
use Rattle.component_state.specs.Components.{are_numbered, component_of, needs_of}
use Rattle.component_state.specs.Inside.ByNeeds.{serves}
use Rattle.component_state.specs.Passes.{Stage, services_in}
use Rattle.component_state.specs.Rows.{no_row, row_by, row_in, rows_of}
use Rattle.component_state.specs.Inside.Ready.{IsPeriodOf}
use Rattle.component_state.proofs.Among.{Among, among_append, among_left, among_map, among_mapped, any_from, filter_map_of, filter_twice}
use Rattle.component_state.proofs.Numbers.{found_by_number}

-- ---- what a need asks for

-- it takes just services without a component behind them, or asks for an interface that is referenced
abbrev pub IsOfReferences : List Reference → Need → Type 0
IsOfReferences rs n = (n.direct_only ≡ true) ⊎ ((r : Reference) × Among rs r × (n.interface ≡ r.interface_name))

implicit_is : (b : Bool) (rs : List Reference) (properties : List Property) (n : Need) → Among (cond b (implicit_need properties ∷ []) []) n → IsOfReferences rs n
implicit_is true rs properties n (inl same) = inl (ap (λ (m : Need). m.direct_only) (sym same))
implicit_is true rs properties n (inr none) = absurd none
implicit_is false rs properties n none = absurd none

pub of_references : (c : Component) (n : Need) → Among (needs_of c) n → IsOfReferences c.description.references n
of_references c n here = elim (among_append (map (need_of c.properties) c.description.references) (cond c.description.implicit (implicit_need c.properties ∷ []) []) n here) [
  | inl own ↦ (let found = among_map (need_of c.properties) c.description.references n own in inr (found.0, found.1, ap (λ (m : Need). m.interface) (sym found.2)))
  | inr more ↦ implicit_is c.description.implicit c.description.references c.properties n more
]

-- the need of a reference is among them
pub reference_need : (c : Component) (r : Reference) → Among c.description.references r → Among (needs_of c) (need_of c.properties r)
reference_need c r here =
    among_left (map (need_of c.properties) c.description.references) (cond c.description.implicit (implicit_need c.properties ∷ []) []) (need_of c.properties r)
    (among_mapped (need_of c.properties) c.description.references r here)

-- what lacks the interface, or is taken where just services without a component are, meets it not
lacks_interface : (n : Need) (s : ServiceRow) → has_text s.interfaces n.interface ≡ false → meets n s ≡ false
lacks_interface n s off = ap (λ b. b && ((not n.direct_only || s.direct) && (not n.none && option_map_or (λ tree. matches tree s.properties) n.filter true))) off

lacks_directness : (n : Need) (s : ServiceRow) → n.direct_only ≡ true → s.direct ≡ false → meets n s ≡ false
lacks_directness n s only off =
    ap (λ b. has_text s.interfaces n.interface && ((not b || s.direct) && rest)) only ∙ ap (λ b. has_text s.interfaces n.interface && ((false || b) && rest)) off ∙ none (has_text s.interfaces n.interface)
  where
    rest : Bool
    rest = not n.none && option_map_or (λ tree. matches tree s.properties) n.filter true

    none : (b : Bool) → (b && false) ≡ false
    none true = refl
    none false = refl

-- a service without interfaces meets none
pub meets_none : (n : Need) (s : ServiceRow) → s.interfaces ≡ [] → meets n s ≡ false
meets_none n s none = lacks_interface n s (ap (λ w. has_text w n.interface) none)

-- ---- the rows of component configurations

-- a row has the number and the revision that it is given
pub row_as_given : (cs : List Component) (k service revision : ℕ) → row_in cs k service revision ≡ row_in cs k (row_in cs k service revision).id (row_in cs k service revision).revision
row_as_given cs k service revision = go (component_of cs k)
  where
    at : Option Component → ℕ → ℕ → ServiceRow
    at o s r = option_map_or (λ c. row_by c s r) o (no_row s r)

    go : (o : Option Component) → option_map_or (λ c. row_by c service revision) o (no_row service revision)
        ≡ option_map_or (λ c. row_by c (option_map_or (λ d. row_by d service revision) o (no_row service revision)).id (option_map_or (λ d. row_by d service revision) o (no_row service revision)).revision) o
        (no_row (option_map_or (λ d. row_by d service revision) o (no_row service revision)).id (option_map_or (λ d. row_by d service revision) o (no_row service revision)).revision)
    go None = refl
    go (Some c) = refl

-- the row under a component configuration's number is its own
pub row_found : (cs : List Component) → are_numbered cs ≡ true → (d : Component) → Among cs d → (k : ℕ) → k ≡ d.number → (service revision : ℕ) → row_in cs k service revision ≡ row_by d service revision
row_found cs numbered d there k is service revision =
    ap (λ n. row_in cs n service revision) is ∙ ap (λ f. option_map_or (λ c. row_by c service revision) f (no_row service revision)) (found_by_number cs numbered d there)

-- the row of an open period is that of its component configuration
pub row_is : (cs : List Component) → are_numbered cs ≡ true → (d : Component) → Among cs d → (o : OpenPeriod) → IsPeriodOf cs o → o.configuration ≡ d.number → o.row ≡ row_by d o.row.id o.row.revision
row_is cs numbered d there o of_one is = of_one.row ∙ row_found cs numbered d there o.configuration is o.row.id o.row.revision

-- the service of what isn't consumed meets no need
pub not_met : (c d : Component) → consumes c.description d.description ≡ false → (n : Need) → Among (needs_of c) n → (service revision : ℕ) → meets n (row_by d service revision) ≡ false
not_met c d unused n here service revision = elim (of_references c n here) [
  | inl only ↦ lacks_directness n (row_by d service revision) only refl
  | inr asked ↦ lacks_interface n (row_by d service revision)
      (false_from_ne_true (has_text d.description.service_interfaces n.interface)
      (λ has_it. false≢true (sym unused ∙ any_from (λ (r : Reference). provides d.description r.interface_name) c.description.references asked.0 asked.1
      (ap (has_text d.description.service_interfaces) (sym asked.2) ∙ has_it))))
]

-- ---- open periods that meet a need

-- the services that meet a need are those of the periods that do
pub rows_met : (n : Need) (now : List OpenPeriod) → filter (meets n) (rows_of now) ≡ map (λ (p : OpenPeriod). p.row) (filter (serves n) now)
rows_met n now =
    filter_twice (meets n) (λ (r : ServiceRow). not (r.id == 0)) (map (λ (p : OpenPeriod). p.row) now)
    ∙ filter_map_of (λ (r : ServiceRow). not (r.id == 0) && meets n r) (λ (p : OpenPeriod). p.row) now

-- where the same periods meet a need, the same services do
pub services_same : (s : Stage) (n : Need) (these those : List OpenPeriod) → filter (serves n) these ≡ filter (serves n) those → filter (meets n) (services_in s these) ≡ filter (meets n) (services_in s those)
services_same s n these those same =
    filter-append (meets n) s.direct (rows_of these)
    ∙ ap (λ w. filter (meets n) s.direct ++ w) (rows_met n these ∙ ap (map (λ (p : OpenPeriod). p.row)) same ∙ sym (rows_met n those))
    ∙ sym (filter-append (meets n) s.direct (rows_of those))

-- the period of what isn't consumed meets no need
pub not_serving : (cs : List Component) → are_numbered cs ≡ true → (c d : Component) → Among cs d → consumes c.description d.description ≡ false
    → (n : Need) → Among (needs_of c) n → (o : OpenPeriod) → IsPeriodOf cs o → o.configuration ≡ d.number → serves n o ≡ false
not_serving cs numbered c d there unused n here o of_one is =
    ap (λ r. not (o.row.id == 0) && meets n r) (row_is cs numbered d there o of_one is) ∙ ap (λ b. not (o.row.id == 0) && b) (not_met c d unused n here o.row.id o.row.revision) ∙ none (not (o.row.id == 0))
  where
    none : (b : Bool) → (b && false) ≡ false
    none true = refl
    none false = refl
