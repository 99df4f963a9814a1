-- As long as the service of an instance is known, it has the interfaces of the instance's component.
use Rattle.std.proofs.Common.{◌≡◌, ◌<◌, ◌⊎◌, ℕ, List, [], ◌∷◌, ap, sym, ◌∙◌, refl, subst, arith, inl, inr, Option, Some, None}
use Rattle.std.specs.Prelude.{find, ◌==◌}
use Rattle.std.specs.List.{Contains}
use Rattle.std.specs.Option.{option_map_or}
use Rattle.std.proofs.lemmas.Bool.{eqb-true}
use Rattle.component_dto.specs.declared.description.Description.{Description}
use Rattle.component_state.specs.declared.component.Component.{Component}
use Rattle.component_state.specs.declared.open_period.OpenPeriod.{OpenPeriod}
use Rattle.component_state.specs.Components.{component_of}
use Rattle.component_state.specs.Rows.{no_row, row_by, service_in}
use Rattle.journal_core.specs.declared.entry.Entry.{Entry}
use Rattle.scr_promises.proofs.Comings.{WasBefore}
use Rattle.scr_promises.proofs.EndingLaws.{comes, none_at_first}
use Rattle.scr_promises.proofs.InstanceComponents.{component_kept}
use Rattle.scr_promises.proofs.InstanceServices.{have_periods}
use Rattle.scr_laws.specs.Sound.{IsSound}
use Rattle.scr_laws.proofs.Calm.{found_of, one_of_number}
use Rattle.scr_laws.proofs.Listed.{found_was}
use Rattle.scr_laws.proofs.Sounding.{legal_sound}
use Rattle.scr_laws.proofs.InstanceLemmas.{IsMade}
use Rattle.scr_promises.specs.Services.{known_services}
use Rattle.scr_promises.proofs.RegistrySteps.{number_of}
use Rattle.scr_promises.proofs.ServiceLaws.{AreServices, IsKind, are_services, component_in, known_kind, known_one, of_command, of_component, of_platform, of_those_left, registered_known, was_known}
use Rattle.scr_world.specs.Legal.{IsLegal}
use Rattle.scr_world.specs.Lists.{world_after_entry, world_of}
use Rattle.scr_world.specs.Steps.{History}
use Rattle.scr_world.specs.Stepping.{components_by, world_after_step}
use Rattle.scr_world.specs.declared.instance.Instance.{Instance}
use Rattle.scr_world.specs.declared.step.Step.{Step}
use Rattle.scr_world.specs.declared.world.World.{World}
use Rattle.service_registry.specs.declared.row.ServiceRow.{ServiceRow}

-- the service of an open period has the interfaces of its component
pub period_interfaces : (w : World) → IsSound w → (p : OpenPeriod) → Contains w.open_periods p → (c : Component) → Contains w.components c → c.number ≡ p.configuration → p.row.interfaces ≡ c.description.service_interfaces
period_interfaces w sound p h c there number =
    let found : component_of w.components p.configuration ≡ Some c = ap (component_of w.components) (sym number) ∙ found_of w.components sound.numbered c there in
    ap (λ (r : ServiceRow). r.interfaces) ((sound.periods p h).row ∙ ap (λ (o : Option Component). option_map_or (λ (x : Component). row_by x p.row.id p.row.revision) o (no_row p.row.id p.row.revision)) found)

-- the service of what is open, if it has one
service_found : (ps : List OpenPeriod) (n : ℕ) → (service_in ps n ≡ 0) ⊎ ((p : OpenPeriod) × Contains ps p × (p.configuration ≡ n) × (service_in ps n ≡ p.row.id))
service_found ps n = go (find (λ (p : OpenPeriod). p.configuration == n) ps) refl
  where
    go : (o : Option OpenPeriod) → find (λ (p : OpenPeriod). p.configuration == n) ps ≡ o → (option_map_or (λ (p : OpenPeriod). p.row.id) o 0 ≡ 0) ⊎ ((p : OpenPeriod) × Contains ps p × (p.configuration ≡ n) × (option_map_or (λ (q : OpenPeriod). q.row.id) o 0 ≡ p.row.id))
    go None is = inl refl
    go (Some p) is = let found = found_was (λ (q : OpenPeriod). q.configuration == n) ps p is in inr (p, found.0, eqb-true p.configuration n found.1, refl)

-- a service that has the number of an instance's, which isn't 0, has the interfaces of the instance's component
abbrev pub HasInterfacesOf : World → Instance → ServiceRow → Type 0
HasInterfacesOf w x r = (c : Component) → Contains w.components c → c.number ≡ x.origin.configuration → r.interfaces ≡ c.description.service_interfaces

abbrev pub HaveInterfaces : World → Type 0
HaveInterfaces w = (x : Instance) → Contains w.instances x → (r : ServiceRow) → Contains (known_services w) r → r.id ≡ x.service → 0 < r.id → HasInterfacesOf w x r

module _ (limit : ℕ) (past : History) (legal : IsLegal limit past) where
  -- where it is registered it is that of the period in which the instance was made
  of_kind : (x : Instance) → Contains (world_of past).instances x → (r : ServiceRow) → IsKind (world_of past) r → r.id ≡ x.service → 0 < r.id → Contains (world_of past).unregistered_held r ⊎ HasInterfacesOf (world_of past) x r
  of_kind x h r (of_platform is) number some = (let none = ap number_of (sym is) in absurd (omega (arith, none, some)))
  of_kind x h r (of_command here) number some = absurd ((have_periods limit past legal x h).of_component r here number (subst (λ n. 0 < n) number some))
  of_kind x h r (of_component p here is above) number some =
      let its = (have_periods limit past legal x h).period p here (ap number_of is ∙ number) (subst (λ n. 0 < n) number some) in
      inr (λ c there same. ap (λ (q : ServiceRow). q.interfaces) (sym is) ∙ period_interfaces (world_of past) (legal_sound limit past legal) p here c there (same ∙ sym its.0))
  of_kind x h r (of_those_left here) number some = inl here

module _ (limit : ℕ) (entry : Entry Step) (past : History) (legal : IsLegal limit (entry ∷ past)) (before : HaveInterfaces (world_of past)) where
  abbrev w : World
  w = world_of past

  abbrev then : World
  then = world_of (entry ∷ past)

  are : AreServices w
  are = are_services limit past legal.1

  components_were : (c : Component) → Contains then.components c → Contains (components_by entry.step w) c
  unfolding world_of world_after_entry world_after_step
  components_were c h = h

  -- one that was unregistered was known before
  module _ (x : Instance) (r : ServiceRow) (known : Contains (known_services w) r) (number : r.id ≡ x.service) (some : 0 < r.id) (c : Component) (there : Contains then.components c) (same : c.number ≡ x.origin.configuration) where
    of_old : WasBefore w entry.step x → r.interfaces ≡ c.description.service_interfaces
    of_old was =
        let k = component_kept limit entry past legal was.was x was.there was.same.origin in
        let one = one_of_number then.components (legal_sound limit (entry ∷ past) legal).numbered k.now c k.is.there there (k.is.number ∙ sym same) in
        before was.was was.there r known (number ∙ was.same.service) some k.before k.was.there k.was.number
        ∙ ap (λ (d : Description). d.service_interfaces) (sym k.names.description ∙ ap (λ (d : Component). d.description) one)

    of_new : IsMade entry.step w x → r.interfaces ≡ c.description.service_interfaces
    of_new made =
        let its : service_in w.open_periods made.2 ≡ x.service = ap (λ (y : Instance). y.service) made.4.1.1 in
        let its_configuration : made.2 ≡ x.origin.configuration = ap (λ (y : Instance). y.origin.configuration) made.4.1.1 in
        let here : Contains w.components c = subst (λ (s : Step). Contains (components_by s w) c) made.4.1.0 (components_were c there) in
        elim (service_found w.open_periods made.2) [
          | inl none ↦ absurd (omega (arith, none, its, number, some))
          | inr p ↦ (
              let is : r.id ≡ p.0.row.id = number ∙ sym its ∙ p.3 in
              let one = known_one w are r p.0.row known (registered_known w are p.0.row (component_in w p.0 p.1 (subst (λ n. 0 < n) is some))) is in
              ap (λ (q : ServiceRow). q.interfaces) one ∙ period_interfaces w (legal_sound limit past legal.1) p.0 p.1 c here (same ∙ sym its_configuration ∙ sym p.2))
        ]

  interfaces_then : HaveInterfaces then
  interfaces_then x h r known number some c there same = elim (of_kind limit (entry ∷ past) legal x h r (known_kind then r known) number some) [
    | inr of_period ↦ of_period c there same
    | inl left ↦ elim (comes limit entry past legal x h) [
      | inl was ↦ of_old x r (was_known limit entry past legal are r left) number some c there same was
      | inr made ↦ of_new x r (was_known limit entry past legal are r left) number some c there same made
    ]
  ]

pub have_interfaces : (limit : ℕ) (past : History) → IsLegal limit past → HaveInterfaces (world_of past)
have_interfaces limit [] legal = λ x h. absurd (none_at_first x h)
have_interfaces limit (entry ∷ past) legal = interfaces_then limit entry past legal (have_interfaces limit past legal.1)
