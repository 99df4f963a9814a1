-- Each living instance was made for all, or for a bundle that is ACTIVE or STOPPING.
use Rattle.std.proofs.Common.{◌≡◌, ◌⊎◌, ℕ, List, [], ◌∷◌, ap, sym, ◌∙◌, refl, subst, cond, Bool, true, false, ◌&&◌, ◌||◌, inl, inr, Option, Some, None}
use Rattle.std.specs.Prelude.{filter, map, not, ◌==◌}
use Rattle.std.specs.List.{Contains, list_any}
use Rattle.std.specs.Option.{option_map_or}
use Rattle.std.proofs.lemmas.Bool.{and_parts, both_ways, cases_Bool, eq-eqb, eqb-true}
use Rattle.bundle_life.specs.declared.bundle.BundleLife.{BundleLife}
use Rattle.bundle_life.specs.declared.bundle.BundleState.{BundleState}
use Rattle.bundle_life.specs.declared.bundle.BundleState.TheVariants.{Installed, Resolved, Stopping, Active}
use Rattle.bundle_life.specs.Lives.{bundle_of, is_active, is_stopping, resolved_among}
use Rattle.callback_orders.specs.declared.callback.Callback.TheVariants.{Create as CreateCalled}
use Rattle.callback_orders.specs.declared.instance_view.Key.{Key}
use Rattle.component_state.specs.declared.component.Component.{Component}
use Rattle.component_state.specs.declared.open_period.OpenPeriod.{OpenPeriod}
use Rattle.component_state.specs.declared.origin.Choice.{Choice}
use Rattle.component_state.specs.Components.{consumer_for, declaring_bundle, has_singleton_scope}
use Rattle.component_state.proofs.Apart.{any_found, any_from, in_cases, in_none, keyed, kept_was, not_true, or_true}
use Rattle.journal_core.specs.declared.entry.Entry.{Entry}
use Rattle.prop_map.specs.Words.{has}
use Rattle.scr_laws.specs.Sound.{IsSound}
use Rattle.scr_laws.proofs.Calm.{found_of}
use Rattle.scr_laws.proofs.Listed.{joined_was, mapped_was}
use Rattle.scr_laws.proofs.OpensFirst.{of_found}
use Rattle.scr_laws.proofs.Sounding.{AreHoused, found_number, is_up, legal_housed, legal_sound, resolved_number, up_bundle, up_commanded, up_mapped}
use Rattle.scr_laws.proofs.InstanceLemmas.{IsMade, Was, instance_was}
use Rattle.scr_laws.specs.Owners.{HaveActiveOwners}
use Rattle.scr_laws.proofs.KeyLaws.{key_made}
use Rattle.scr_laws.proofs.OwnerLaws.{active_owners}
use Rattle.scr_world.specs.Consequences.{has_stopped, keeps_bundle, stopped_by, stopped_in}
use Rattle.scr_world.specs.Legal.{IsLegal, MayCome}
use Rattle.scr_world.specs.Lists.{is_active_bundle, world_after_entry, world_of}
use Rattle.scr_world.specs.Steps.{History}
use Rattle.scr_world.specs.Stepping.{components_by, instances_by, world_after_step}
use Rattle.scr_world.specs.Tables.{bundles_by}
use Rattle.scr_world.specs.Views.{bundle_of_instance, view_of, whiteboard_view}
use Rattle.scr_world.specs.Wanted.{ConsumerView, consumer_views, consumers_of, desires, has_instance, is_desired_by, is_got_by, is_immediate, is_used, is_wanted, keys_for, keys_of, wanted}
use Rattle.scr_world.specs.declared.instance.Instance.{Instance}
use Rattle.scr_world.specs.declared.step.Step.{Step}
use Rattle.scr_world.specs.declared.step.Step.TheVariants.{Command as Commanded, Begin, End, Drained, Got, Released}
use Rattle.scr_world.specs.declared.world.World.{World}
use Rattle.use_counts.specs.declared.uses.UseRow.{UseRow}

-- for all, or for a bundle that is up
abbrev pub IsFor : List BundleLife → ℕ → Type 0
IsFor rows n = (n ≡ 0) ⊎ (is_up rows n ≡ true)

either_true : (a b : Bool) → (a || b) ≡ true → (a ≡ true) ⊎ (b ≡ true)
either_true true b is = inl refl
either_true false b is = inr is

active_up : (rows : List BundleLife) (n : ℕ) → option_map_or (λ (b : BundleLife). is_active b.state) (bundle_of rows n) false ≡ true → is_up rows n ≡ true
active_up rows n is = go (bundle_of rows n) is
  where
    go : (o : Option BundleLife) → option_map_or (λ (b : BundleLife). is_active b.state) o false ≡ true → option_map_or up_bundle o false ≡ true
    go None h = cc
    go (Some b) h = ap (λ k. k || is_stopping b.state) h

module _ (w : World) (sound : IsSound w) (housed : AreHoused w.bundles.rows w.documents w.components w.instances) (owners : HaveActiveOwners w) where
  for_consumer : (c : Component) (bundle consumer : ℕ) → IsFor w.bundles.rows bundle → (consumer_for c bundle == consumer) ≡ true → IsFor w.bundles.rows consumer
  for_consumer c bundle consumer is same = go (has_singleton_scope c.description.scope) (eqb-true (consumer_for c bundle) consumer same)
    where
      go : (b : Bool) → cond b 0 bundle ≡ consumer → IsFor w.bundles.rows consumer
      go true none = inl (sym none)
      go false one = subst (IsFor w.bundles.rows) one is

  home_up : (i : Instance) → Contains w.instances i → is_up w.bundles.rows (bundle_of_instance w i) ≡ true
  home_up i h = let home = housed.homes i h in
      ap (is_up w.bundles.rows) (ap (declaring_bundle w.components) (sym home.1.1.0) ∙ ap (λ o. option_map_or (λ (c : Component). c.bundle) o 0) (found_of w.components sound.numbered home.0 home.1.0)) ∙ home.1.1.1

  of_view : (s : ConsumerView) → Contains (consumer_views w) s → IsFor w.bundles.rows s.0
  of_view s h = elim (in_cases (0, whiteboard_view w) (map (λ (i : Instance). (bundle_of_instance w i, view_of w i)) w.instances) s h) [
    | inl same ↦ inl (ap (λ (v : ConsumerView). v.0) (sym same))
    | inr later ↦ (let was = mapped_was (λ (i : Instance). (bundle_of_instance w i, view_of w i)) w.instances s later in
        inr (ap (is_up w.bundles.rows) (ap (λ (v : ConsumerView). v.0) (sym was.1.1)) ∙ home_up was.0 was.1.0))
  ]

  for_used : (c : Component) (service consumer : ℕ) → is_used w (consumer_views w) c service consumer ≡ true → IsFor w.bundles.rows consumer
  for_used c service consumer is = go (either_true (list_any (is_desired_by c service consumer) (consumer_views w)) (list_any (is_got_by c service consumer) w.uses)
      (and_parts (not (service == 0)) (list_any (is_desired_by c service consumer) (consumer_views w) || list_any (is_got_by c service consumer) w.uses) is).1)
    where
      go : (list_any (is_desired_by c service consumer) (consumer_views w) ≡ true) ⊎ (list_any (is_got_by c service consumer) w.uses ≡ true) → IsFor w.bundles.rows consumer
      go (inl desired) = let s = any_found (is_desired_by c service consumer) (consumer_views w) desired in
          for_consumer c s.0.0 consumer (of_view s.0 s.1) (and_parts (consumer_for c s.0.0 == consumer) (desires service s.0.1) s.2).0
      go (inr got) = let u = any_found (is_got_by c service consumer) w.uses got in
          for_consumer c u.0.bundle consumer (inr (active_up w.bundles.rows u.0.bundle (owners.uses u.0 u.1))) (and_parts (u.0.service == service) (consumer_for c u.0.bundle == consumer) u.2).1

  for_wanted : (key : Key) → Contains (wanted w) key → IsFor w.bundles.rows key.consumer
  for_wanted key h =
      let c = joined_was (keys_for w (consumer_views w)) w.components key h in
      let p = of_found (keys_of w (consumer_views w) c.0) (λ (q : OpenPeriod). q.configuration == c.0.number) w.open_periods key c.1.1 in
      let k = mapped_was (λ consumer. record { configuration = c.0.number; consumer = consumer }) (filter (is_wanted w (consumer_views w) c.0 p.0) (consumers_of w c.0)) key p.1.1.1 in
      let is = (kept_was (is_wanted w (consumer_views w) c.0 p.0) (consumers_of w c.0) k.0 k.1.0).1 in
      subst (IsFor w.bundles.rows) (ap (λ (x : Key). x.consumer) k.1.1)
      (go c.0 p.0 k.0 (either_true (is_immediate c.0 && (k.0 == 0)) (is_used w (consumer_views w) c.0 p.0.row.id k.0) is))
    where
      go : (c : Component) (p : OpenPeriod) (n : ℕ) → ((is_immediate c && (n == 0)) ≡ true) ⊎ (is_used w (consumer_views w) c p.row.id n ≡ true) → IsFor w.bundles.rows n
      go c p n (inl at_once) = inl (eqb-true n 0 (and_parts (is_immediate c) (n == 0) at_once).1)
      go c p n (inr used) = for_used c p.row.id n used

  module _ (each : (i : Instance) → Contains w.instances i → IsFor w.bundles.rows i.consumer) where
    up_step : (step : Step) → MayCome w step → (n : ℕ) → IsFor w.bundles.rows n → IsFor (bundles_by step w.bundles).rows n
    up_step step may n (inl none) = inl none
    up_step (Commanded command) may n (inr up) = inr (up_commanded command w may n up)
    up_step (Begin turn instance configuration consumer callback chosen) may n (inr up) = inr up
    up_step (End turn outcome) may n (inr up) = inr up
    up_step (Drained instance) may n (inr up) = inr up
    up_step (Got bundle service) may n (inr up) = inr up
    up_step (Released place) may n (inr up) = inr up

    pub consumers_by : (step : Step) → MayCome w step → (i : Instance) → Contains (instances_by step w) i → IsFor (bundles_by step w.bundles).rows i.consumer
    consumers_by step may i h = go (instance_was w step i h)
      where
        go : Was w i ⊎ IsMade step w i → IsFor (bundles_by step w.bundles).rows i.consumer
        go (inl was) = subst (IsFor (bundles_by step w.bundles).rows) (sym was.2.consumer) (up_step step may was.0.consumer (each was.0 was.1))
        go (inr made) =
            let key = key_made w made.0 made.1 made.2 made.3 made.4.0 (subst (λ (s : Step). MayCome w s) made.4.1.0 may) in
            let for_key = for_wanted key.0 (kept_was (λ (k : Key). not (has_instance w.instances k)) (wanted w) key.0 key.1.0).0 in
            subst (λ (s : Step). IsFor (bundles_by s w.bundles).rows i.consumer) (sym made.4.1.0)
            (subst (IsFor w.bundles.rows) (key.1.1.1 ∙ ap (λ (x : Instance). x.consumer) made.4.1.1) for_key)

-- the end of stopping leaves up whoever an instance keeps
rested_consumers : (rows : List BundleLife) (cs : List Component) (is : List Instance) → ((i : Instance) → Contains is i → IsFor rows i.consumer)
    → (i : Instance) → Contains is i → IsFor (map (resolved_among (map (λ (b : BundleLife). b.number) (filter (has_stopped cs is) rows))) rows) i.consumer
rested_consumers rows cs is each i h = go (each i h)
  where
    ns : List ℕ
    ns = map (λ (b : BundleLife). b.number) (filter (has_stopped cs is) rows)

    kept : list_any (keeps_bundle cs i.consumer) is ≡ true
    kept = any_from (keeps_bundle cs i.consumer) is i h (ap (λ b. (declaring_bundle cs i.origin.configuration == i.consumer) || b) (eq-eqb i.consumer i.consumer refl) ∙ or_true (declaring_bundle cs i.origin.configuration == i.consumer))

    wrong : has ns i.consumer ≡ true → ⊥
    wrong on =
        let b = keyed (λ (x : BundleLife). x.number) (filter (has_stopped cs is) rows) i.consumer on in
        let test = (kept_was (has_stopped cs is) rows b.0 b.1).1 in
        both_ways (list_any (keeps_bundle cs b.0.number) is) (not_true (list_any (keeps_bundle cs b.0.number) is) (and_parts (is_stopping b.0.state) (not (list_any (keeps_bundle cs b.0.number) is)) test).1) (ap (λ n. list_any (keeps_bundle cs n) is) b.2 ∙ kept)

    none : has ns i.consumer ≡ false
    none = elim (cases_Bool (has ns i.consumer)) [
      | inl on ↦ absurd (wrong on)
      | inr off ↦ off
    ]

    go : IsFor rows i.consumer → IsFor (map (resolved_among ns) rows) i.consumer
    go (inl all) = inl all
    go (inr up) = inr (up_mapped (resolved_among ns) (resolved_number ns) rows i.consumer
        (λ b found was. ap (λ v. up_bundle (cond v (record b { state = Resolved }) b)) (ap (has ns) (found_number rows i.consumer b found) ∙ none) ∙ was) up)

pub legal_consumers : (limit : ℕ) (past : History) → IsLegal limit past → (i : Instance) → Contains (world_of past).instances i → IsFor (world_of past).bundles.rows i.consumer
unfolding world_of world_after_entry world_after_step stopped_by stopped_in
legal_consumers limit [] legal i h = absurd (in_none i h)
legal_consumers limit (entry ∷ past) legal i h =
    let w = world_of past in
    subst (λ ns. IsFor (map (resolved_among ns) (bundles_by entry.step w.bundles).rows) i.consumer) (sym legal.0.stopped)
    (rested_consumers (bundles_by entry.step w.bundles).rows (components_by entry.step w) (instances_by entry.step w)
    (consumers_by w (legal_sound limit past legal.1) (legal_housed limit past legal.1) (active_owners limit past legal.1) (legal_consumers limit past legal.1) entry.step legal.0.step) i h)
