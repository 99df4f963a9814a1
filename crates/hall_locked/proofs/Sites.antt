-- What an instance was told of itself stays while the instance and its properties stay.
use Rattle.std.proofs.Common.{◌≡◌, ℕ, List, [], ◌∷◌, ap, sym, ◌∙◌, refl, subst, cond, true, false}
use Rattle.std.specs.Prelude.{map, ◌==◌}
use Rattle.std.specs.List.{Contains}
use Rattle.std.specs.Option.{option_map_or}
use Rattle.component_dto.specs.declared.description.Description.{Description}
use Rattle.component_state.specs.declared.component.Component.{Component}
use Rattle.journal_core.specs.declared.entry.Entry.{Entry}
use Rattle.prop_map.specs.declared.properties.Property.{Property}
use Rattle.hall_locked.specs.OwnedCores.{site_told}
use Rattle.platform_hall.proofs.Steps.{grown_after, history_append}
use Rattle.scr_laws.proofs.InstanceLemmas.{mapped_was}
use Rattle.scr_promises.proofs.InstanceComponents.{component_kept}
use Rattle.scr_world.specs.Calls.{Grown, world_at}
use Rattle.scr_world.specs.Instances.{drained_in}
use Rattle.scr_world.specs.Legal.{IsLegal}
use Rattle.scr_world.specs.Lists.{world_of}
use Rattle.scr_world.specs.Steps.{History, history_of}
use Rattle.scr_world.specs.TurnSteps.{class_in}
use Rattle.scr_world.specs.declared.command.Command.{Command}
use Rattle.scr_world.specs.declared.instance.Instance.{Instance}
use Rattle.scr_world.specs.declared.step.Step.{Step}
use Rattle.scr_world.specs.declared.step.Step.TheVariants.{Command as Commanded, Drained}
use Rattle.scr_world.specs.declared.world.World.{World}

-- an instance of the world now was there before, and was told the same of itself
pub record WasTold (w now : World) (i : Instance) : Type 0 where
  pub one : Instance
  pub there : Contains w.instances one
  pub number : one.number ≡ i.number
  pub site : site_told now i ≡ site_told w one

abbrev pub SitesStay : World → World → Type 0
SitesStay w now = (i : Instance) → Contains now.instances i → WasTold w now i

pub sites_stay_itself : (w : World) → SitesStay w w
sites_stay_itself w i h = record { one = i; there = h; number = refl; site = refl }

-- ---- over an entry

class_kept : (limit : ℕ) (entry : Entry Step) (past : History) → IsLegal limit (entry ∷ past) → (i j : Instance) → Contains (world_of past).instances i → j.origin ≡ i.origin → class_in (world_of (entry ∷ past)) j.origin.configuration ≡ class_in (world_of past) i.origin.configuration
class_kept limit entry past legal i j h same =
    let k = component_kept limit entry past legal i j h same in
    ap (λ o. option_map_or (λ (c : Component). c.description.implementation_class) o []) k.is.known
    ∙ ap (λ (d : Description). d.implementation_class) k.names.description
    ∙ sym (ap (λ o. option_map_or (λ (c : Component). c.description.implementation_class) o []) k.was.known)

module _ (limit : ℕ) (old new : List (Entry Step)) (step : Step) (legal : IsLegal limit (history_of old)) (grown : Grown limit old step new) where
  class_stays : (i j : Instance) → Contains (world_at old).instances i → j.origin ≡ i.origin → class_in (world_at new) j.origin.configuration ≡ class_in (world_at old) i.origin.configuration
  class_stays i j h same =
      let entry = grown.0 in
      let past = history_of old in
      subst (λ (p : History). class_in (world_of p) j.origin.configuration ≡ class_in (world_of past) i.origin.configuration)
      (sym (ap history_of grown.3 ∙ history_append old entry))
      (class_kept limit entry past (grown.2, legal) i j h same)

  -- where its properties stay too
  pub site_stays : (i j : Instance) → Contains (world_at old).instances i → j.origin ≡ i.origin → j.properties ≡ i.properties → site_told (world_at new) j ≡ site_told (world_at old) i
  site_stays i j h same properties =
      ap (λ (c : List ℕ). record { class = c; properties = j.properties }) (class_stays i j h same)
      ∙ ap (λ (ps : List Property). record { class = class_in (world_at old) i.origin.configuration; properties = ps }) properties

-- ---- commands and drains

pub commanded_sites : (limit : ℕ) (old new : List (Entry Step)) (command : Command) → IsLegal limit (history_of old) → Grown limit old (Commanded command) new → SitesStay (world_at old) (world_at new)
commanded_sites limit old new command legal grown i h =
    let there = subst (λ (is : List Instance). Contains is i) (grown_after limit old new (Commanded command) grown).instances h in
    record { one = i; there = there; number = refl; site = site_stays limit old new (Commanded command) legal grown i i there refl refl }

-- what a drain leaves of an instance
pub record IsLike (i j : Instance) : Type 0 where
  pub number : i.number ≡ j.number
  pub origin : i.origin ≡ j.origin
  pub properties : i.properties ≡ j.properties

drained_like : (instance : ℕ) (i : Instance) → IsLike (drained_in instance i) i
drained_like instance i = elim (i.number == instance) as (λ b. IsLike (cond b (record i { drained = true }) i) i) [
  | true ↦ record { number = refl; origin = refl; properties = refl }
  | false ↦ record { number = refl; origin = refl; properties = refl }
]

-- each instance now is an earlier one that was told the same
pub likes_stay : (limit : ℕ) (old new : List (Entry Step)) (step : Step) → IsLegal limit (history_of old) → Grown limit old step new → (g : Instance → Instance) → ((i : Instance) → IsLike (g i) i)
    → (i : Instance) → Contains (map g (world_at old).instances) i → WasTold (world_at old) (world_at new) i
likes_stay limit old new step legal grown g like i h =
    let was = mapped_was g (world_at old).instances i h in
    subst (λ (x : Instance). WasTold (world_at old) (world_at new) x) was.2 (record {
      one = was.0;
      there = was.1;
      number = sym (like was.0).number;
      site = site_stays limit old new step legal grown was.0 (g was.0) was.1 (like was.0).origin (like was.0).properties;
    })

pub drained_sites : (limit : ℕ) (old new : List (Entry Step)) (instance : ℕ) → IsLegal limit (history_of old) → Grown limit old (Drained instance) new → SitesStay (world_at old) (world_at new)
drained_sites limit old new instance legal grown i h =
    likes_stay limit old new (Drained instance) legal grown (drained_in instance) (drained_like instance) i
    (subst (λ (is : List Instance). Contains is i) (grown_after limit old new (Drained instance) grown).instances h)
