-- Who serves what an instance holds, and isn't ending, is active.
use Rattle.std.proofs.Common.{◌≡◌, ◌<◌, ℕ, List, inl, inr, ap, sym, ◌∙◌, refl, subst, true, false, Option, Some, None, arith}
use Rattle.std.specs.Prelude.{find, ◌==◌}
use Rattle.std.specs.List.{Contains}
use Rattle.std.specs.Option.{option_map_or}
use Rattle.std.proofs.lemmas.Bool.{and_parts, both_ways, cases_eq, eqb-true}
use Rattle.component_state.specs.declared.component.Component.{Component}
use Rattle.component_state.specs.declared.open_period.OpenPeriod.{OpenPeriod}
use Rattle.component_state.specs.Components.{component_of, consumer_for}
use Rattle.component_state.specs.Periods.{is_current}
use Rattle.component_state.specs.Rows.{service_in}
use Rattle.callback_orders.specs.Lives.{held_for}
use Rattle.prop_map.specs.Words.{has}
use Rattle.scr_callees.proofs.HeldNames.{held_named}
use Rattle.scr_laws.proofs.KeyLaws.{keys_one}
use Rattle.scr_laws.proofs.Listed.{found_was}
use Rattle.scr_laws.proofs.OpenServices.{open_services}
use Rattle.scr_promises.proofs.InstanceServices.{have_periods}
use Rattle.scr_promises.proofs.KnownLaws.{current_from, known_found}
use Rattle.scr_promises.proofs.ProviderLaws.{have_providers}
use Rattle.scr_promises.proofs.ServiceLaws.{are_services, platform_in, registered_known}
use Rattle.scr_promises.specs.Endings.{outlives_consumer}
use Rattle.scr_promises.specs.Providers.{IsProvided, by_instance, directly}
use Rattle.scr_readers.specs.Reaching.{is_direct}
use Rattle.scr_world.specs.Instances.{has_failed, is_active_instance}
use Rattle.scr_world.specs.Legal.{IsLegal}
use Rattle.scr_world.specs.Lists.{world_of}
use Rattle.scr_world.specs.Steps.{History}
use Rattle.scr_world.specs.Views.{bundle_of_instance, ends, serves}
use Rattle.scr_world.specs.Whiteboard.{condition}
use Rattle.scr_world.specs.Worlds.{all_instances}
use Rattle.scr_world.specs.declared.instance.Instance.{Instance}
use Rattle.scr_world.specs.declared.world.World.{World}
use Rattle.service_registry.specs.declared.row.ServiceRow.{ServiceRow}

-- two instances of one component configuration that serve one bundle were made for the same one
same_consumer : (o : Option Component) (a b bundle : ℕ) → option_map_or (λ (c : Component). a == consumer_for c bundle) o false ≡ true → option_map_or (λ (c : Component). b == consumer_for c bundle) o false ≡ true → a ≡ b
same_consumer None a b bundle one other = cc
same_consumer (Some c) a b bundle one other = eqb-true a (consumer_for c bundle) one ∙ sym (eqb-true b (consumer_for c bundle) other)

module _ (limit : ℕ) (past : History) (legal : IsLegal limit past) where
  abbrev w : World
  w = world_of past

  -- the platform's service 0 has no component behind it
  zero_direct : is_direct w 0 ≡ true
  zero_direct = ap (λ o. option_map_or (λ (r : ServiceRow). r.direct) o false) (known_found limit past legal condition (registered_known w (are_services limit past legal) condition (platform_in w)) 0 refl)

  positive : (s : ℕ) → is_direct w s ≡ false → 0 < s
  positive s other = elim (cases_eq s 0) [
    | inl zero ↦ absurd (both_ways (is_direct w s) other (ap (is_direct w) zero ∙ zero_direct))
    | inr differ ↦ omega (arith, differ)
  ]

  module _ (bundle s : ℕ) (other : is_direct w s ≡ false) (i j : Instance) (h : Contains w.instances i) (k : Contains w.instances j) (serving : serves w bundle s i ≡ true) (also : serves w bundle s j ≡ true) (on : ends w i ≡ false) where
    its : ((i.service == s) ≡ true) × (option_map_or (λ (c : Component). i.consumer == consumer_for c bundle) (component_of w.components i.origin.configuration) false ≡ true)
    its = and_parts (i.service == s) (option_map_or (λ (c : Component). i.consumer == consumer_for c bundle) (component_of w.components i.origin.configuration) false) serving

    others : ((j.service == s) ≡ true) × (option_map_or (λ (c : Component). j.consumer == consumer_for c bundle) (component_of w.components j.origin.configuration) false ≡ true)
    others = and_parts (j.service == s) (option_map_or (λ (c : Component). j.consumer == consumer_for c bundle) (component_of w.components j.origin.configuration) false) also

    open_service : s ≡ service_in w.open_periods i.origin.configuration
    open_service = sym (eqb-true i.service s its.0) ∙ open_services limit past legal i h (current_from (is_current w.open_periods i.origin) (outlives_consumer w i) (has_failed i.callbacks) on)

    number : j.service ≡ s
    number = eqb-true j.service s others.0

    one_configuration : i.origin.configuration ≡ j.origin.configuration
    one_configuration = go (find (λ (p : OpenPeriod). p.configuration == i.origin.configuration) w.open_periods) refl open_service
      where
        go : (o : Option OpenPeriod) → find (λ (p : OpenPeriod). p.configuration == i.origin.configuration) (world_of past).open_periods ≡ o → s ≡ option_map_or (λ (p : OpenPeriod). p.row.id) o 0 → i.origin.configuration ≡ j.origin.configuration
        go None found zero = (let high = positive s other in omega (arith, high, zero))
        go (Some p) found same =
            let there = found_was (λ (q : OpenPeriod). q.configuration == i.origin.configuration) (world_of past).open_periods p found in
            let period = (have_periods limit past legal j k).period p there.0 (sym same ∙ sym number) (subst (λ n. 0 < n) (sym number) (positive s other)) in
            sym (eqb-true p.configuration i.origin.configuration there.1) ∙ period.0

    -- one that isn't ending and another are one
    pub one_server : i ≡ j
    one_server = keys_one limit past legal i j h k one_configuration
        (same_consumer (component_of w.components i.origin.configuration) i.consumer j.consumer bundle its.1
        (ap (λ n. option_map_or (λ (c : Component). j.consumer == consumer_for c bundle) (component_of w.components n) false) one_configuration ∙ others.1))

  module _ (caller : Instance) (there : Contains (all_instances w) caller) (name : List ℕ) (s : ℕ) (held : has (held_for name caller.callbacks) s ≡ true) (other : is_direct w s ≡ false)
      (i : Instance) (h : Contains w.instances i) (serving : serves w (bundle_of_instance w caller) s i ≡ true) (on : ends w i ≡ false) where
    from_provider : IsProvided w caller s → is_active_instance i ≡ true
    from_provider (directly row known direct) = absurd (both_ways (is_direct w s) other (ap (λ o. option_map_or (λ (r : ServiceRow). r.direct) o false) known ∙ direct))
    from_provider (by_instance provider k also active quiet) =
        ap is_active_instance (one_server (bundle_of_instance w caller) s other i provider h k serving also on) ∙ active

    pub server_active : is_active_instance i ≡ true
    server_active =
        let its_name = held_named limit past legal caller there name s held in
        from_provider (have_providers limit past legal caller there its_name.reference its_name.there s (ap (λ n. has (held_for n caller.callbacks) s) its_name.named ∙ held))
