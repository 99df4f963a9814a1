-- No more than 512 component configurations are counted, over every legal journal.
use Rattle.std.proofs.Common.{◌≡◌, ◌<◌, ◌≤◌, ◌⊎◌, ℕ, zero, suc, ◌+◌, List, [], ◌∷◌, ◌++◌, length, ap, sym, ◌∙◌, refl, subst, cond, arith, Bool, true, false, ◌&&◌, ◌||◌, inl, inr, Option, Some, None}
use Rattle.std.specs.Prelude.{filter, is_none, map, nat_le, nat_lt, not, ◌==◌}
use Rattle.std.specs.List.{Contains, list_any}
use Rattle.std.proofs.lemmas.Bool.{and_parts, both_ways, cases_Bool, eq-eqb, eqb-true, ltb-false}
use Rattle.callback_orders.specs.declared.callback.Callback.TheVariants.{Create as CreateCalled}
use Rattle.component_state.specs.declared.component.Component.{Component}
use Rattle.component_state.specs.declared.open_period.OpenPeriod.{OpenPeriod}
use Rattle.component_state.specs.declared.origin.Choice.{Choice}
use Rattle.component_state.specs.declared.origin.Origin.{Origin}
use Rattle.component_state.specs.ComponentConfigurations.{component_after, is_same_component, new_components, with_numbers}
use Rattle.component_state.proofs.Apart.{any_found, any_from, in_first, in_rest, kept_short, length_over, mapped_long, or_true}
use Rattle.prop_map.specs.Words.{first_some, is_empty}
use Rattle.config_admin.specs.Configurations.{factory_pid, of_factory, of_pid}
use Rattle.scr_laws.specs.Askeds.{AreAsked, IsAsked, asked_in}
use Rattle.scr_laws.specs.Sound.{IsSound}
use Rattle.scr_laws.proofs.Asking.{forgetting_stays}
use Rattle.scr_laws.proofs.Calm.{one_of_number}
use Rattle.scr_laws.proofs.Described.{none_first, not_refused, second}
use Rattle.scr_laws.proofs.Histories.{legal_is_asked}
use Rattle.scr_laws.proofs.LegalCalm.{begun_so}
use Rattle.scr_laws.proofs.Legal.{open_lives}
use Rattle.scr_laws.proofs.Listed.{none_kept, none_passes}
use Rattle.scr_laws.proofs.OpensFirst.{opens_first}
use Rattle.scr_laws.proofs.Sounding.{came, legal_sound}
use Rattle.scr_laws.proofs.FewerComponents.{fewer_disabled, fewer_installed, fewer_stopped, fewer_uninstalled, fewer_updated}
use Rattle.scr_laws.proofs.LimitLaws.{not_full, third}
use Rattle.scr_world.specs.Dues.{due_in, next_begin}
use Rattle.scr_world.specs.Legal.{IsLegal, MayCome}
use Rattle.scr_world.specs.Lists.{world_after_entry, world_of}
use Rattle.scr_world.specs.Refusals.{bad_pid, components_full, configurations_full, no_bundle, no_component, not_active, of_known_bundle, refuse_if, still_stopping}
use Rattle.scr_world.specs.Steps.{History}
use Rattle.scr_world.specs.Stepping.{component_configurations_by, components_added_by, components_by, counted_components, instances_by, is_counted, world_after_step}
use Rattle.scr_world.specs.declared.command.Command.{Command}
use Rattle.scr_world.specs.declared.command.Command.TheVariants.{Install, Update, Start, Stop, Uninstall, Enable, Disable, Register, Unregister, SetProperties, Get, Unget, Listen, Unlisten, Configure, ConfigureFactory, Unconfigure}
use Rattle.scr_world.specs.declared.instance.Instance.{Instance}
use Rattle.scr_world.specs.declared.reply.CoreFault.{CoreFault}
use Rattle.scr_world.specs.declared.reply.CoreFault.TheVariants.{ComponentsFull, FactoryClash, NoBundle, NoConfiguration}
use Rattle.scr_world.specs.declared.step.Step.{Step}
use Rattle.scr_world.specs.declared.step.Step.TheVariants.{Command as Commanded, Begin, End, Drained, Got, Released}
use Rattle.scr_world.specs.declared.world.World.{World}
use Rattle.bundle_life.specs.declared.bundle.BundleLife.{BundleLife}
use Rattle.bundle_life.specs.Lives.{bundle_of, is_active, state_is, state_number}
use Rattle.std.specs.Option.{option_map_or}
use Rattle.std.specs.Prelude.{is_some, option_and_then}

none_of : {X : Type 0} (xs : List X) → (length xs == 0) ≡ true → xs ≡ []
none_of [] is = refl
none_of (x ∷ xs) is = (let long : suc (length xs) ≡ 0 = eqb-true (length (x ∷ xs)) 0 is in absurd (omega (arith, long)))

numbered_long : (n : ℕ) (cs : List Component) → length (with_numbers n cs) ≡ length cs
numbered_long n [] = refl
numbered_long n (c ∷ cs) = ap suc (numbered_long (n + 1) cs)

abbrev WithinLimit : List Instance → List Component → Type 0
WithinLimit is cs = length (filter (is_counted is) cs) ≤ 512

module _ (w : World) (asked : IsAsked w) (within : length (counted_components w) ≤ 512) where
  -- where none comes, there are no more
  none_more : (command : Command) → new_components (counted_components w) (component_configurations_by (Commanded command) w) ≡ [] → WithinLimit w.instances (components_by (Commanded command) w)
  none_more command none =
      let these = component_configurations_by (Commanded command) w in
      let old = map (component_after w.entries these) (counted_components w) in
      let new = with_numbers (w.components_numbered + 1) (new_components (counted_components w) these) in
      let short = kept_short (is_counted w.instances) (old ++ new) in
      let both = length_over old new in
      let same = mapped_long (component_after w.entries these) (counted_components w) in
      let added : length new ≡ 0 = numbered_long (w.components_numbered + 1) (new_components (counted_components w) these) ∙ ap length none in
      omega (arith, short, both, same, added, within)

  -- where all that are asked for were, none comes
  kept_asked : AreAsked (asked_in w) (counted_components w)
  kept_asked = forgetting_stays (asked_in w) w.components asked.components (is_counted w.instances) (λ c h lives. ap (λ b. b || list_any (λ (i : Instance). i.origin.configuration == c.number) w.instances) lives)

  none_comes : (these : List Component) → ((a : Component) → Contains these a → Contains (asked_in w) a) → new_components (counted_components w) these ≡ []
  none_comes these fewer = none_kept (λ (a : Component). not (list_any (λ (c : Component). c.exists && is_same_component a c) (counted_components w))) these
      (λ a h. none_passes (λ (b : Component). not (list_any (λ (c : Component). c.exists && is_same_component b c) (counted_components w))) (asked_in w) kept_asked.complete a (fewer a h))

  fewer_within : (command : Command) → ((a : Component) → Contains (component_configurations_by (Commanded command) w) a → Contains (asked_in w) a) → WithinLimit w.instances (components_by (Commanded command) w)
  fewer_within command fewer = none_more command (none_comes (component_configurations_by (Commanded command) w) fewer)

  -- where some may come, the refusal sees to it
  refused_within : (command : Command) → components_full w command ≡ None → WithinLimit w.instances (components_by (Commanded command) w)
  refused_within command free = go (components_added_by (Commanded command) w == 0) refl (not_full (not (components_added_by (Commanded command) w == 0) && nat_lt 512 (length (filter (is_counted w.instances) (components_by (Commanded command) w)))) ComponentsFull free)
    where
      go : (b : Bool) → (components_added_by (Commanded command) w == 0) ≡ b → (not b && nat_lt 512 (length (filter (is_counted w.instances) (components_by (Commanded command) w)))) ≡ false → WithinLimit w.instances (components_by (Commanded command) w)
      go true none free_of = none_more command (none_of (new_components (counted_components w) (component_configurations_by (Commanded command) w)) none)
      go false some free_of = ltb-false 512 (length (filter (is_counted w.instances) (components_by (Commanded command) w))) free_of

  -- a start of a bundle that isn't active looks at that refusal
  start_free : (bundle : ℕ) → is_none (first_some (no_bundle w bundle ∷ of_known_bundle w bundle (λ (b : BundleLife). cond (is_active b.state) None (first_some (still_stopping w bundle ∷ components_full w (Start bundle) ∷ []))) ∷ [])) ≡ true
      → not (state_is is_active w.bundles.rows bundle) ≡ true → components_full w (Start bundle) ≡ None
  start_free bundle free off = go (bundle_of w.bundles.rows bundle) refl (none_first (no_bundle w bundle ∷ test ∷ []) free (no_bundle w bundle) (in_first (no_bundle w bundle) (test ∷ []))) (none_first (no_bundle w bundle ∷ test ∷ []) free test (second (no_bundle w bundle) test [])) off
    where
      test : Option CoreFault
      test = of_known_bundle w bundle (λ (b : BundleLife). cond (is_active b.state) None (first_some (still_stopping w bundle ∷ components_full w (Start bundle) ∷ [])))

      last : (k : Bool) → cond k None (first_some (still_stopping w bundle ∷ components_full w (Start bundle) ∷ [])) ≡ None → not k ≡ true → components_full w (Start bundle) ≡ None
      last true is denied = cc
      last false is denied = none_first (still_stopping w bundle ∷ components_full w (Start bundle) ∷ []) (ap is_none is) (components_full w (Start bundle)) (second (still_stopping w bundle) (components_full w (Start bundle)) [])

      go : (o : Option BundleLife) → bundle_of w.bundles.rows bundle ≡ o → refuse_if (is_none o) (NoBundle bundle) ≡ None
          → option_and_then (λ (b : BundleLife). cond (is_active b.state) None (first_some (still_stopping w bundle ∷ components_full w (Start bundle) ∷ []))) o ≡ None
          → not (option_map_or (λ (b : BundleLife). is_active b.state) o false) ≡ true → components_full w (Start bundle) ≡ None
      go None is there tested denied = cc
      go (Some b) is there tested denied = last (is_active b.state) tested denied

  commanded_within : (command : Command) → MayCome w (Commanded command) → WithinLimit w.instances (components_by (Commanded command) w)
  commanded_within (Install doc) may = fewer_within (Install doc) (fewer_installed w.bundles.rows w.documents w.configurations w.bundles.numbered doc asked.apart.bundles_so_far)
  commanded_within (Update bundle doc) may = fewer_within (Update bundle doc) (fewer_updated w.bundles.rows w.documents w.configurations bundle doc)
  commanded_within (Start bundle) may = (let free = not_refused w (Start bundle) may in refused_within (Start bundle) (start_free bundle free.0 free.1))
  commanded_within (Stop bundle) may = fewer_within (Stop bundle) (fewer_stopped w.bundles.rows w.documents w.configurations bundle)
  commanded_within (Uninstall bundle) may = fewer_within (Uninstall bundle) (fewer_uninstalled w.bundles.rows w.documents w.configurations bundle)
  commanded_within (Enable bundle name) may =
      let a = no_bundle w bundle in let b = not_active w bundle in let d = no_component w bundle name in let o = components_full w (Enable bundle name) in
      refused_within (Enable bundle name) (none_first (a ∷ b ∷ d ∷ o ∷ []) (not_refused w (Enable bundle name) may).0 o (in_rest a (b ∷ d ∷ o ∷ []) o (third b d o [])))
  commanded_within (Disable bundle name) may = fewer_within (Disable bundle name) (fewer_disabled w.bundles.rows w.configurations bundle name w.documents)
  commanded_within (Register bundle interfaces properties) may = fewer_within (Register bundle interfaces properties) (λ a h. h)
  commanded_within (Unregister bundle service) may = fewer_within (Unregister bundle service) (λ a h. h)
  commanded_within (SetProperties bundle service properties) may = fewer_within (SetProperties bundle service properties) (λ a h. h)
  commanded_within (Get bundle service) may = fewer_within (Get bundle service) (λ a h. h)
  commanded_within (Unget bundle service) may = fewer_within (Unget bundle service) (λ a h. h)
  commanded_within (Listen bundle test) may = fewer_within (Listen bundle test) (λ a h. h)
  commanded_within (Unlisten listener) may = fewer_within (Unlisten listener) (λ a h. h)
  commanded_within (Configure pid given) may =
      let a = bad_pid pid in let b = refuse_if (not (is_empty (of_factory pid w.configurations))) FactoryClash in let d = configurations_full w pid in let o = components_full w (Configure pid given) in
      refused_within (Configure pid given) (none_first (a ∷ b ∷ d ∷ o ∷ []) (not_refused w (Configure pid given) may).0 o (in_rest a (b ∷ d ∷ o ∷ []) o (third b d o [])))
  commanded_within (ConfigureFactory factory name given) may =
      let a = bad_pid factory in let b = bad_pid name in let k = refuse_if (is_some (of_pid factory w.configurations)) FactoryClash in
      let d = configurations_full w (factory_pid factory name) in let o = components_full w (ConfigureFactory factory name given) in
      refused_within (ConfigureFactory factory name given) (none_first (a ∷ b ∷ k ∷ d ∷ o ∷ []) (not_refused w (ConfigureFactory factory name given) may).0 o
      (in_rest a (b ∷ k ∷ d ∷ o ∷ []) o (in_rest b (k ∷ d ∷ o ∷ []) o (third k d o []))))
  commanded_within (Unconfigure pid) may =
      let a = refuse_if (is_none (of_pid pid w.configurations)) NoConfiguration in let o = components_full w (Unconfigure pid) in
      refused_within (Unconfigure pid) (none_first (a ∷ o ∷ []) (not_refused w (Unconfigure pid) may).0 o (second a o []))

-- ---- a turn step leaves component configurations, and counts none that wasn't

fewer_kept : {X : Type 0} (t u : X → Bool) (xs : List X) → ((x : X) → Contains xs x → t x ≡ true → u x ≡ true) → length (filter t xs) ≤ length (filter u xs)
fewer_kept t u [] each = omega arith
fewer_kept t u (x ∷ xs) each = go (t x) (u x) refl refl (fewer_kept t u xs (λ y h. each y (in_rest x xs y h)))
  where
    go : (a b : Bool) → t x ≡ a → u x ≡ b → length (filter t xs) ≤ length (filter u xs) → length (cond a (x ∷ filter t xs) (filter t xs)) ≤ length (cond b (x ∷ filter u xs) (filter u xs))
    go true true on also low = omega (arith, low)
    go true false on off low = absurd (both_ways (u x) off (each x (in_first x xs) on))
    go false true off also low = omega (arith, low)
    go false false off also low = low

module _ (w : World) (sound : IsSound w) where
  -- the component configuration of a Create that begins exists
  made_exists : (turn instance configuration consumer : ℕ) (chosen : List Choice) → next_begin w ≡ Some (Begin turn instance configuration consumer CreateCalled chosen) → (c : Component) → Contains w.components c → c.number ≡ configuration → c.exists ≡ true
  made_exists turn instance configuration consumer chosen begins c h is =
      let current = (begun_so w turn instance configuration consumer chosen (opens_first w) sound.earlier (due_in w) refl begins).1 in
      let p = any_found (λ (q : OpenPeriod). (q.configuration == configuration) && nat_lt q.opened w.entries) w.open_periods current in
      let same = eqb-true p.0.configuration configuration (and_parts (p.0.configuration == configuration) (nat_lt p.0.opened w.entries) p.2).0 in
      let live = open_lives w sound.scratch p.0 p.1 in
      ap (λ (x : Component). x.exists) (sym (one_of_number w.components sound.numbered live.0 c live.1 h (sym live.3 ∙ same ∙ sym is))) ∙ live.2

  counted_before : (step : Step) → MayCome w step → (c : Component) → Contains w.components c → is_counted (instances_by step w) c ≡ true → is_counted w.instances c ≡ true
  counted_before step may c h is = go (cases_Bool c.exists)
    where
      one : (i : Instance) → (i.origin.configuration ≡ c.number) → ((j : Instance) × (Contains w.instances j × (j.origin ≡ i.origin)))
          ⊎ ((turn instance configuration consumer : ℕ) × ((chosen : List Choice) × ((step ≡ Begin turn instance configuration consumer CreateCalled chosen) × ((i.origin.configuration ≡ configuration) × (i.origin.created ≡ w.entries)))))
          → is_counted w.instances c ≡ true
      one i same (inl old) = ap (λ b. c.exists || b) (any_from (λ (i : Instance). i.origin.configuration == c.number) w.instances old.0 old.1.0 (eq-eqb old.0.origin.configuration c.number (ap (λ (o : Origin). o.configuration) old.1.1 ∙ same))) ∙ or_true c.exists
      one i same (inr new) = ap (λ b. b || list_any (λ (i : Instance). i.origin.configuration == c.number) w.instances)
          (made_exists new.0 new.1 new.2 new.3 new.4.0 (subst (λ (s : Step). MayCome w s) new.4.1.0 may) c h (sym same ∙ new.4.1.1.0))

      go : (c.exists ≡ true) ⊎ (c.exists ≡ false) → is_counted w.instances c ≡ true
      go (inl on) = ap (λ b. b || list_any (λ (i : Instance). i.origin.configuration == c.number) w.instances) on
      go (inr off) =
          let found = any_found (λ (i : Instance). i.origin.configuration == c.number) (instances_by step w) (sym (ap (λ b. b || list_any (λ (i : Instance). i.origin.configuration == c.number) (instances_by step w)) off) ∙ is) in
          one found.0 (eqb-true found.0.origin.configuration c.number found.2) (came w step found.0 found.1)

  turned_within : (step : Step) → MayCome w step → length (counted_components w) ≤ 512 → WithinLimit (instances_by step w) w.components
  turned_within step may within = (let low = fewer_kept (is_counted (instances_by step w)) (is_counted w.instances) w.components (counted_before step may) in omega (arith, low, within))

step_within : (w : World) → IsAsked w → IsSound w → (step : Step) → MayCome w step → length (counted_components w) ≤ 512 → WithinLimit (instances_by step w) (components_by step w)
step_within w asked sound (Commanded command) may within = commanded_within w asked within command may
step_within w asked sound (Begin turn instance configuration consumer callback chosen) may within = turned_within w sound (Begin turn instance configuration consumer callback chosen) may within
step_within w asked sound (End turn outcome) may within = turned_within w sound (End turn outcome) may within
step_within w asked sound (Drained instance) may within = turned_within w sound (Drained instance) may within
step_within w asked sound (Got bundle service) may within = turned_within w sound (Got bundle service) may within
step_within w asked sound (Released place) may within = turned_within w sound (Released place) may within

pub components_within : (limit : ℕ) (past : History) → IsLegal limit past → length (counted_components (world_of past)) ≤ 512
unfolding world_of world_after_entry world_after_step
components_within limit [] legal = omega arith
components_within limit (entry ∷ past) legal = step_within (world_of past) (legal_is_asked limit past legal.1) (legal_sound limit past legal.1) entry.step legal.0.step (components_within limit past legal.1)
