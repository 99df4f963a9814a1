-- What an instance holds in a settling is counted: it held it when the settling began, or it is registered with the interface of its reference.
use Rattle.std.proofs.Common.{◌≡◌, ℕ, List, ap, sym, ◌∙◌, subst, true, inl, inr, ◌⊎◌, Option}
use Rattle.std.specs.Prelude.{map, not, ◌==◌}
use Rattle.std.specs.List.{Contains}
use Rattle.std.specs.Option.{option_map_or}
use Rattle.std.proofs.lemmas.Bool.{eq-eqb}
use Rattle.callback_orders.specs.Lives.{held_for}
use Rattle.component_dto.specs.TextLists.{has_text}
use Rattle.component_dto.specs.declared.description.Reference.{Reference}
use Rattle.component_state.specs.declared.component.Component.{Component}
use Rattle.component_state.specs.declared.open_period.OpenPeriod.{OpenPeriod}
use Rattle.component_state.specs.Components.{existing}
use Rattle.component_state.specs.Periods.{is_open}
use Rattle.component_state.specs.Rows.{rows_of, service_in}
use Rattle.component_state.proofs.Apart.{any_from, in_either, kept_from, kept_was}
use Rattle.component_state.proofs.Seen.{found_by}
use Rattle.level_order.specs.Levels.{provides}
use Rattle.prop_map.specs.Words.{has, with_places}
use Rattle.scr_promises.proofs.KnownLaws.{IsRegisteredWith}
use Rattle.scr_laws.proofs.Calm.{open_lives}
use Rattle.scr_laws.proofs.Legal.{legal_scratch}
use Rattle.scr_laws.proofs.Listed.{mapped_was}
use Rattle.scr_laws.proofs.Sounding.{legal_sound}
use Rattle.scr_promises.proofs.InstanceSteps.{IsCounted, as_direct, as_held, of_component}
use Rattle.scr_promises.proofs.MayBind.{has_in}
use Rattle.scr_promises.proofs.NothingCloses.{is_offered}
use Rattle.scr_promises.proofs.Potentials.{held_at}
use Rattle.scr_world.specs.Legal.{IsLegal}
use Rattle.scr_world.specs.Lists.{world_of}
use Rattle.scr_world.specs.Steps.{History}
use Rattle.scr_world.specs.Views.{references_in}
use Rattle.scr_world.specs.Worlds.{all_instances, direct_services}
use Rattle.scr_world.specs.declared.instance.Instance.{Instance}
use Rattle.scr_world.specs.declared.world.World.{World}
use Rattle.service_registry.specs.declared.row.ServiceRow.{ServiceRow}
use Rattle.service_registry.specs.Services.{has_interface}

-- a service that an instance holds for a reference is accounted for
abbrev pub IsAccounted : World → World → Instance → Reference → ℕ → Type 0
IsAccounted start w i r s = (has (held_at start i.number r.name) s ≡ true) ⊎ IsRegisteredWith w s r.interface_name

abbrev pub AreAccounted : World → World → Type 0
AreAccounted start w = (i : Instance) → Contains (all_instances w) i → (r : ℕ × Reference) → Contains (with_places 0 (references_in w i)) r → (s : ℕ) → has (held_for r.1.name i.callbacks) s ≡ true → IsAccounted start w i r.1 s

-- the settling changed neither direct services nor component configurations
pub record HasTables (start w : World) : Type 0 where
  pub direct : direct_services w ≡ direct_services start
  pub components : w.components ≡ start.components

module _ (start : World) (limit : ℕ) (past : History) (legal : IsLegal limit past) (tables : HasTables start (world_of past)) where
  abbrev w : World
  w = world_of past

  -- a registered service is counted
  pub registered_counted : (number : ℕ) (r : ℕ × Reference) (s : ℕ) → IsRegisteredWith w s r.1.interface_name → IsCounted start w number r s
  registered_counted number r s is = elim (in_either (direct_services w) (rows_of w.open_periods) is.row is.there) [
    | inl direct ↦ as_direct is.row (kept_from (λ (q : ServiceRow). has_text q.interfaces r.1.interface_name) (direct_services start) is.row (subst (λ (rs : List ServiceRow). Contains rs is.row) tables.direct direct) is.has_it) is.number
    | inr component ↦ (
        let kept = kept_was (λ (x : ServiceRow). not (x.id == 0)) (map (λ (p : OpenPeriod). p.row) w.open_periods) is.row component in
        let period = mapped_was (λ (p : OpenPeriod). p.row) w.open_periods is.row kept.0 in
        let p = period.0 in
        let sound = legal_sound limit past legal in
        let by = is_offered w sound p (sound.periods p period.1.0) in
        let c = by.by in
        let opened : is_open w.open_periods c.number ≡ true = any_from (λ (q : OpenPeriod). q.configuration == c.number) w.open_periods p period.1.0 (eq-eqb p.configuration c.number (sym by.number)) in
        let lives = open_lives w (legal_scratch limit past legal) sound.numbered c opened by.there in
        let there : Contains start.components c = subst (λ (cs : List Component). Contains cs c) tables.components by.there in
        let provided : provides c.description r.1.interface_name ≡ true = sym (ap (λ (x : ServiceRow). has_interface r.1.interface_name x) (sym (period.1.1) ∙ by.row)) ∙ is.has_it in
        let found = ap (service_in w.open_periods) by.number ∙ ap (λ (o : Option OpenPeriod). option_map_or (λ (q : OpenPeriod). q.row.id) o 0) (found_by (λ (q : OpenPeriod). q.configuration) w.open_periods sound.plain.apart p period.1.0) in
        of_component c (kept_from (λ (x : Component). provides x.description r.1.interface_name) (existing start.components) c (kept_from (λ (x : Component). x.exists) start.components c there lives) provided) opened
        (found ∙ ap (λ (x : ServiceRow). x.id) period.1.1 ∙ is.number))
  ]

  -- and one that is accounted for
  pub accounted_counted : (i : Instance) (r : ℕ × Reference) (s : ℕ) → IsAccounted start w i r.1 s → IsCounted start w i.number r s
  accounted_counted i r s (inl held) = as_held (has_in (held_at start i.number r.1.name) s held)
  accounted_counted i r s (inr is) = registered_counted i.number r s is
