-- A bundle is stopping exactly where an instance keeps it.
use Rattle.std.proofs.Common.{◌≡◌, ◌<◌, ◌⊎◌, ℕ, ◌+◌, List, [], ◌∷◌, ap, sym, ◌∙◌, refl, subst, cond, arith, Bool, true, false, ◌&&◌, ◌||◌, inl, inr, Option, Some, None}
use Rattle.std.specs.Prelude.{filter, map, not, ◌==◌}
use Rattle.std.specs.List.{Contains, list_any}
use Rattle.std.specs.Option.{option_map_or}
use Rattle.std.proofs.lemmas.Bool.{and_from, and_parts, eq-eqb, eqb-true}
use Rattle.bundle_life.specs.declared.bundle.BundleLife.{BundleLife}
use Rattle.bundle_life.specs.declared.bundle.BundleState.{BundleState}
use Rattle.bundle_life.specs.declared.bundle.BundleState.TheVariants.{Installed, Resolved, Stopping, Active}
use Rattle.bundle_life.specs.Lives.{bundle_of, in_state, is_active, is_stopping, renamed, resolved_among}
use Rattle.component_state.specs.declared.component.Component.{Component}
use Rattle.component_state.specs.Components.{declaring_bundle}
use Rattle.component_state.proofs.Apart.{any_found, either_way, in_either, in_none, kept_was, not_true}
use Rattle.scr_laws.specs.Askeds.{HasOneOfEach}
use Rattle.scr_laws.specs.Sound.{IsSound}
use Rattle.scr_laws.proofs.Calm.{found_of}
use Rattle.scr_laws.proofs.Histories.{legal_is_asked}
use Rattle.scr_laws.proofs.LegalCalm.{legal_is_calm}
use Rattle.scr_laws.proofs.Listed.{found_is, mapped_was, none_passes, single}
use Rattle.scr_laws.proofs.Sounding.{AreHoused, is_up, legal_housed, legal_sound, resolved_number, up_bundle}
use Rattle.scr_laws.specs.Stopping.{StopsForInstances}
use Rattle.scr_laws.proofs.ConsumerLaws.{IsFor, legal_consumers}
use Rattle.scr_laws.proofs.OwnerLaws.{in_state_number, renamed_number}
use Rattle.scr_world.specs.Consequences.{has_stopped, keeps_bundle, stopped_in}
use Rattle.scr_world.specs.Legal.{IsLegal}
use Rattle.scr_world.specs.Lists.{world_after_entry, world_of}
use Rattle.scr_world.specs.Steps.{History}
use Rattle.scr_world.specs.Stepping.{world_after_step}
use Rattle.scr_world.specs.Tables.{bundles_by}
use Rattle.scr_world.specs.declared.command.Command.TheVariants.{Install, Update, Start, Stop, Uninstall, Enable, Disable, Register, Unregister, SetProperties, Get, Unget, Listen, Unlisten, Configure, ConfigureFactory, Unconfigure}
use Rattle.scr_world.specs.declared.instance.Instance.{Instance}
use Rattle.scr_world.specs.declared.step.Step.{Step}
use Rattle.scr_world.specs.declared.step.Step.TheVariants.{Command as Commanded, Begin, End, Drained, Got, Released}
use Rattle.scr_world.specs.declared.world.World.{World}

-- ---- bundles are numbered from 1 on

module _ (w : World) (each : (b : BundleLife) → Contains w.bundles.rows b → 0 < b.number) where
  mapped_positive : (f : BundleLife → BundleLife) → ((b : BundleLife) → (f b).number ≡ b.number) → (b : BundleLife) → Contains (map f w.bundles.rows) b → 0 < b.number
  mapped_positive f same b h = let was = mapped_was f w.bundles.rows b h in
      subst (λ n. 0 < n) (sym (same was.0) ∙ ap (λ (x : BundleLife). x.number) was.1.1) (each was.0 was.1.0)

  positive_by : (step : Step) → (b : BundleLife) → Contains (bundles_by step w.bundles).rows b → 0 < b.number
  positive_by (Commanded (Install doc)) b h = elim (in_either w.bundles.rows _ b h) [
    | inl old ↦ each b old
    | inr new ↦ (let same = ap (λ (x : BundleLife). x.number) (single _ b new) in omega (arith, same))
  ]
  positive_by (Commanded (Update bundle doc)) b h = mapped_positive (renamed bundle doc.name doc.version) (renamed_number bundle doc.name doc.version) b h
  positive_by (Commanded (Start bundle)) b h = mapped_positive (in_state bundle Active) (in_state_number bundle Active) b h
  positive_by (Commanded (Stop bundle)) b h = mapped_positive (in_state bundle Stopping) (in_state_number bundle Stopping) b h
  positive_by (Commanded (Uninstall bundle)) b h = each b (kept_was (λ (x : BundleLife). not (x.number == bundle)) w.bundles.rows b h).0
  positive_by (Commanded (Enable bundle name)) b h = each b h
  positive_by (Commanded (Disable bundle name)) b h = each b h
  positive_by (Commanded (Register bundle interfaces properties)) b h = each b h
  positive_by (Commanded (Unregister bundle service)) b h = each b h
  positive_by (Commanded (SetProperties bundle service properties)) b h = each b h
  positive_by (Commanded (Get bundle service)) b h = each b h
  positive_by (Commanded (Unget bundle service)) b h = each b h
  positive_by (Commanded (Listen bundle test)) b h = each b h
  positive_by (Commanded (Unlisten listener)) b h = each b h
  positive_by (Commanded (Configure pid given)) b h = each b h
  positive_by (Commanded (ConfigureFactory factory name given)) b h = each b h
  positive_by (Commanded (Unconfigure pid)) b h = each b h
  positive_by (Begin turn instance configuration consumer callback chosen) b h = each b h
  positive_by (End turn outcome) b h = each b h
  positive_by (Drained instance) b h = each b h
  positive_by (Got bundle service) b h = each b h
  positive_by (Released place) b h = each b h

pub legal_positive : (past : History) (b : BundleLife) → Contains (world_of past).bundles.rows b → 0 < b.number
unfolding world_of world_after_entry world_after_step
legal_positive [] b h = absurd (in_none b h)
legal_positive (entry ∷ past) b h = let was = mapped_was (resolved_among entry.stopped) (bundles_by entry.step (world_of past).bundles).rows b h in
    subst (λ n. 0 < n) (sym (resolved_number entry.stopped was.0) ∙ ap (λ (x : BundleLife). x.number) was.1.1) (positive_by (world_of past) (legal_positive past) entry.step was.0 was.1.0)

-- ---- exactly where an instance keeps it

none_mapped : {X Y : Type 0} (f : X → Y) (xs : List X) → map f xs ≡ [] → xs ≡ []
none_mapped f [] is = refl
none_mapped f (x ∷ xs) is = absurd cc

stopping_inactive : (s : BundleState) → is_stopping s ≡ true → is_active s ≡ false
stopping_inactive Installed is = refl
stopping_inactive Resolved is = refl
stopping_inactive Stopping is = refl
stopping_inactive Active is = cc

kept_one : (a k : Bool) → a ≡ true → (a && not k) ≡ false → k ≡ true
kept_one true true on is = refl
kept_one true false on is = absurd cc
kept_one false k on is = absurd cc

module _ (w : World) (sound : IsSound w) (waiting : stopped_in w ≡ []) (housed : AreHoused w.bundles.rows w.documents w.components w.instances)
    (consumers : (i : Instance) → Contains w.instances i → IsFor w.bundles.rows i.consumer) (one : HasOneOfEach (λ (b : BundleLife). b.number) w.bundles.rows)
    (positive : (b : BundleLife) → Contains w.bundles.rows b → 0 < b.number) (b : BundleLife) (here : Contains w.bundles.rows b) where
  waits : is_stopping b.state ≡ true → (not (is_active b.state) && list_any (keeps_bundle w.components b.number) w.instances) ≡ true
  unfolding stopped_in
  waits on = and_from (not (is_active b.state)) (list_any (keeps_bundle w.components b.number) w.instances) (ap not (stopping_inactive b.state on))
      (kept_one (is_stopping b.state) (list_any (keeps_bundle w.components b.number) w.instances) on
      (none_passes (has_stopped w.components w.instances) w.bundles.rows (none_mapped (λ (x : BundleLife). x.number) (filter (has_stopped w.components w.instances) w.bundles.rows) waiting) b here))

  is_up_here : is_up w.bundles.rows b.number ≡ true → not (is_active b.state) ≡ true → is_stopping b.state ≡ true
  is_up_here up off = sym (ap (λ a. a || is_stopping b.state) (not_true (is_active b.state) off))
      ∙ sym (ap (λ o. option_map_or up_bundle o false) (found_is (λ (x : BundleLife). x.number == b.number) w.bundles.rows b here (eq-eqb b.number b.number refl) (λ y h same. one y b h here (eqb-true y.number b.number same)))) ∙ up

  up_for : (i : Instance) → Contains w.instances i → (declaring : Bool) → (declaring_bundle w.components i.origin.configuration == b.number) ≡ declaring → (declaring || (i.consumer == b.number)) ≡ true → is_up w.bundles.rows b.number ≡ true
  up_for i h true same is = let home = housed.homes i h in
      ap (is_up w.bundles.rows) (sym (eqb-true (declaring_bundle w.components i.origin.configuration) b.number same) ∙ ap (declaring_bundle w.components) (sym home.1.1.0)
      ∙ ap (λ o. option_map_or (λ (c : Component). c.bundle) o 0) (found_of w.components sound.numbered home.0 home.1.0)) ∙ home.1.1.1
  up_for i h false other is = go (consumers i h) (eqb-true i.consumer b.number is)
    where
      go : IsFor w.bundles.rows i.consumer → i.consumer ≡ b.number → is_up w.bundles.rows b.number ≡ true
      go (inl all) same = (let high = positive b here in absurd (omega (arith, high, all, same)))
      go (inr up) same = ap (is_up w.bundles.rows) (sym same) ∙ up

  keeps : (not (is_active b.state) && list_any (keeps_bundle w.components b.number) w.instances) ≡ true → is_stopping b.state ≡ true
  keeps is =
      let both = and_parts (not (is_active b.state)) (list_any (keeps_bundle w.components b.number) w.instances) is in
      let i = any_found (keeps_bundle w.components b.number) w.instances both.1 in
      is_up_here (up_for i.0 i.1 (declaring_bundle w.components i.0.origin.configuration == b.number) refl i.2) both.0

  exactly : is_stopping b.state ≡ (not (is_active b.state) && list_any (keeps_bundle w.components b.number) w.instances)
  exactly = either_way (is_stopping b.state) (not (is_active b.state) && list_any (keeps_bundle w.components b.number) w.instances) waits keeps

pub stops_for_instances : (limit : ℕ) (past : History) → IsLegal limit past → StopsForInstances (world_of past)
stops_for_instances limit past legal b h = let w = world_of past in let sound = legal_sound limit past legal in
    exactly w sound (legal_is_calm limit past legal sound).waiting (legal_housed limit past legal) (legal_consumers limit past legal) (legal_is_asked limit past legal).apart.one_bundle (legal_positive past) b h
