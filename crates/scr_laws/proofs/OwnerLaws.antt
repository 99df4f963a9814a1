-- Active bundles alone have services, listeners, gets and component configurations.
use Rattle.std.proofs.Common.{◌≡◌, ◌<◌, ℕ, ◌+◌, List, [], ◌∷◌, ◌++◌, ap, sym, ◌∙◌, refl, subst, cond, Bool, true, false, ◌&&◌, inl, inr, Option, Some, None}
use Rattle.std.specs.Prelude.{filter, find, is_none, length, map, nat_le, not, option_and_then, ◌==◌}
use Rattle.std.specs.List.{Contains}
use Rattle.std.specs.Option.{option_map_or}
use Rattle.std.proofs.lemmas.Bool.{and_parts, both_ways, cases_Bool, eqb-true}
use Rattle.bundle_doc.specs.declared.document.BundleDoc.{BundleDoc}
use Rattle.bundle_life.specs.declared.bundle.BundleLife.{BundleLife}
use Rattle.bundle_life.specs.declared.bundle.BundleState.{BundleState}
use Rattle.bundle_life.specs.declared.bundle.BundleState.TheVariants.{Installed, Resolved, Stopping, Active}
use Rattle.bundle_life.specs.Lives.{bundle_of, in_state, is_active, is_stopping, renamed, resolved_among, state_is, state_number}
use Rattle.component_state.specs.declared.component.Component.{Component}
use Rattle.component_state.specs.declared.open_period.OpenPeriod.{OpenPeriod}
use Rattle.component_state.specs.Components.{component_of, existing}
use Rattle.component_state.specs.Rows.{no_row, row_by, row_in, rows_of}
use Rattle.component_state.proofs.Apart.{in_either, in_first, in_none, in_rest, kept_was, not_true}
use Rattle.journal_core.specs.declared.entry.Entry.{Entry}
use Rattle.osgi_version.specs.declared.version.Version.{Version}
use Rattle.prop_map.specs.declared.properties.Property.{Property}
use Rattle.prop_map.specs.Words.{has}
use Rattle.scr_laws.specs.Askeds.{HasOneOfEach, IsAsked, asked_in}
use Rattle.scr_laws.specs.Sound.{IsSound}
use Rattle.scr_laws.proofs.Calm.{found_of}
use Rattle.scr_laws.proofs.Described.{none_first, not_refused, second}
use Rattle.scr_laws.proofs.Documents.{IsActive, asked_was, kept_lives}
use Rattle.scr_laws.proofs.Histories.{legal_is_asked}
use Rattle.scr_laws.proofs.Legal.{open_lives}
use Rattle.scr_laws.proofs.Listed.{mapped_was, single}
use Rattle.scr_laws.proofs.Resting.{stopped_was_stopping}
use Rattle.scr_laws.proofs.Sounding.{legal_sound}
use Rattle.scr_laws.proofs.StoppingBundles.{found_kept}
use Rattle.scr_laws.proofs.Tables.{tables_apart}
use Rattle.scr_laws.specs.Owners.{HaveActiveOwners}
use Rattle.scr_world.specs.Consequences.{stopped_by}
use Rattle.scr_world.specs.Legal.{IsLegal, MayCome}
use Rattle.scr_world.specs.Lists.{changes_between, is_active_bundle, with_lists_of, world_after_entry, world_of}
use Rattle.scr_world.specs.Refusals.{cyclic, descriptions_with, no_bundle, not_active, refuse_if, same_name, still_active, still_stopping}
use Rattle.scr_world.specs.Steps.{History}
use Rattle.scr_world.specs.Stepping.{world_after_step}
use Rattle.scr_world.specs.Tables.{bundles_by, listeners_by, registry_by}
use Rattle.scr_world.specs.Worlds.{is_registered}
use Rattle.scr_world.specs.declared.command.Command.TheVariants.{Install, Update, Start, Stop, Uninstall, Enable, Disable, Register, Unregister, SetProperties, Get, Unget, Listen, Unlisten, Configure, ConfigureFactory, Unconfigure}
use Rattle.scr_world.specs.declared.marks.Token.{Token}
use Rattle.scr_world.specs.declared.reply.CoreFault.{CoreFault}
use Rattle.scr_world.specs.declared.reply.CoreFault.TheVariants.{ListenersFull, NoBundle, ServicesFull, WrongState}
use Rattle.scr_world.specs.declared.step.Step.{Step}
use Rattle.scr_world.specs.declared.step.Step.TheVariants.{Command as Commanded, Begin, End, Drained, Got, Released}
use Rattle.scr_world.specs.declared.world.World.{World}
use Rattle.service_listeners.specs.declared.listener.Listener.{Listener}
use Rattle.service_listeners.specs.Listening.{Change, after_changes, with_changes}
use Rattle.service_registry.specs.declared.row.ServiceRow.{ServiceRow}
use Rattle.service_registry.specs.Registries.{has_number, set_row}
use Rattle.use_counts.specs.declared.uses.UseRow.{UseRow}

-- ---- a bundle stays active

abbrev pub is_up : List BundleLife → ℕ → Bool
is_up rows n = state_is is_active rows n

pub active_mapped : (f : BundleLife → BundleLife) → ((b : BundleLife) → (f b).number ≡ b.number) → (rows : List BundleLife) (n : ℕ)
    → ((b : BundleLife) → Contains rows b → b.number ≡ n → is_active b.state ≡ true → is_active (f b).state ≡ true) → is_up rows n ≡ true → is_up (map f rows) n ≡ true
active_mapped f same [] n stays on = cc
active_mapped f same (b ∷ bs) n stays on =
    ap (λ k. option_map_or (λ (x : BundleLife). is_active x.state) (cond (k == n) (Some (f b)) (bundle_of (map f bs) n)) false) (same b)
    ∙ go (b.number == n) refl on (active_mapped f same bs n (λ x h. stays x (in_rest b bs x h)))
  where
    go : (k : Bool) → (b.number == n) ≡ k → option_map_or (λ (x : BundleLife). is_active x.state) (cond k (Some b) (bundle_of bs n)) false ≡ true → (is_up bs n ≡ true → is_up (map f bs) n ≡ true)
        → option_map_or (λ (x : BundleLife). is_active x.state) (cond k (Some (f b)) (bundle_of (map f bs) n)) false ≡ true
    go true is h later = stays b (in_first b bs) (eqb-true b.number n is) h
    go false off h later = later h

active_added : (rows more : List BundleLife) (n : ℕ) → is_up rows n ≡ true → is_up (rows ++ more) n ≡ true
active_added [] more n on = cc
active_added (b ∷ bs) more n on = go (b.number == n) on (active_added bs more n)
  where
    go : (k : Bool) → option_map_or (λ (x : BundleLife). is_active x.state) (cond k (Some b) (bundle_of bs n)) false ≡ true → (is_up bs n ≡ true → is_up (bs ++ more) n ≡ true)
        → option_map_or (λ (x : BundleLife). is_active x.state) (cond k (Some b) (bundle_of (bs ++ more) n)) false ≡ true
    go true h later = h
    go false h later = later h

-- what isn't refused for its state isn't active, or is
inactive : (w : World) (n : ℕ) → still_active w n ≡ None → is_up w.bundles.rows n ≡ false
inactive w n is = go (bundle_of w.bundles.rows n) is
  where
    state : (k : Bool) → refuse_if k (WrongState 32) ≡ None → k ≡ false
    state true h = cc
    state false h = refl

    go : (o : Option BundleLife) → option_and_then (λ (b : BundleLife). refuse_if (is_active b.state) (WrongState 32)) o ≡ None → option_map_or (λ (b : BundleLife). is_active b.state) o false ≡ false
    go None h = refl
    go (Some b) h = state (is_active b.state) h

pub active_asked : (w : World) (n : ℕ) → no_bundle w n ≡ None → not_active w n ≡ None → is_up w.bundles.rows n ≡ true
active_asked w n known is = go (bundle_of w.bundles.rows n) known is
  where
    state : (k : Bool) (fault : CoreFault) → refuse_if (not k) fault ≡ None → k ≡ true
    state true fault h = refl
    state false fault h = cc

    go : (o : Option BundleLife) → refuse_if (is_none o) (NoBundle n) ≡ None → option_and_then (λ (b : BundleLife). refuse_if (not (is_active b.state)) (WrongState (state_number b.state))) o ≡ None → option_map_or (λ (b : BundleLife). is_active b.state) o false ≡ true
    go None there h = cc
    go (Some b) there h = state (is_active b.state) (WrongState (state_number b.state)) h

other_than : (rows : List BundleLife) (n k : ℕ) → is_up rows n ≡ true → is_up rows k ≡ false → (n == k) ≡ false
other_than rows n k on off = elim (cases_Bool (n == k)) [
  | inl same ↦ absurd (both_ways (is_up rows k) off (ap (is_up rows) (sym (eqb-true n k same)) ∙ on))
  | inr other ↦ other
]

pub in_state_number : (k : ℕ) (s : BundleState) (b : BundleLife) → (in_state k s b).number ≡ b.number
in_state_number k s b = go (b.number == k)
  where
    go : (v : Bool) → (cond v (record b { state = s }) b).number ≡ b.number
    go true = refl
    go false = refl

pub renamed_number : (k : ℕ) (name : List ℕ) (version : Version) (b : BundleLife) → (renamed k name version b).number ≡ b.number
renamed_number k name version b = go (b.number == k)
  where
    go : (v : Bool) → (cond v (record b { name = name; version = version; state = Installed }) b).number ≡ b.number
    go true = refl
    go false = refl

-- it is stopped by a step
abbrev is_stop_of : Step → ℕ → Bool
is_stop_of (Commanded (Stop bundle)) n = n == bundle
is_stop_of _ n = false

module _ (w : World) where
  started : (b : BundleLife) (k : Bool) → is_active b.state ≡ true → is_active (cond k (record b { state = Active }) b).state ≡ true
  started b true was = refl
  started b false was = was

  updated_other : (bundle : ℕ) (doc : BundleDoc) → MayCome w (Commanded (Update bundle doc)) → (n : ℕ) → is_up w.bundles.rows n ≡ true → (n == bundle) ≡ false
  updated_other bundle doc may n on = other_than w.bundles.rows n bundle on (inactive w bundle
      (none_first (no_bundle w bundle ∷ still_active w bundle ∷ still_stopping w bundle ∷ same_name w doc bundle ∷ cyclic (descriptions_with w doc bundle) ∷ []) (not_refused w (Update bundle doc) may).0 (still_active w bundle)
      (second (no_bundle w bundle) (still_active w bundle) (still_stopping w bundle ∷ same_name w doc bundle ∷ cyclic (descriptions_with w doc bundle) ∷ []))))

  uninstalled_other : (bundle : ℕ) → MayCome w (Commanded (Uninstall bundle)) → (n : ℕ) → is_up w.bundles.rows n ≡ true → (n == bundle) ≡ false
  uninstalled_other bundle may n on = other_than w.bundles.rows n bundle on (inactive w bundle
      (none_first (no_bundle w bundle ∷ still_active w bundle ∷ still_stopping w bundle ∷ []) (not_refused w (Uninstall bundle) may).0 (still_active w bundle)
      (second (no_bundle w bundle) (still_active w bundle) (still_stopping w bundle ∷ []))))

  pub active_after : (step : Step) → MayCome w step → (n : ℕ) → is_stop_of step n ≡ false → is_up w.bundles.rows n ≡ true → is_up (bundles_by step w.bundles).rows n ≡ true
  active_after (Commanded (Install doc)) may n spared on = active_added w.bundles.rows _ n on
  active_after (Commanded (Update bundle doc)) may n spared on =
      active_mapped (renamed bundle doc.name doc.version) (renamed_number bundle doc.name doc.version) w.bundles.rows n
      (λ b here is was. ap (λ k. is_active (cond k (record b { name = doc.name; version = doc.version; state = Installed }) b).state) (ap (λ m. m == bundle) is ∙ updated_other bundle doc may n on) ∙ was) on
  active_after (Commanded (Start bundle)) may n spared on = active_mapped (in_state bundle Active) (in_state_number bundle Active) w.bundles.rows n (λ b here is was. started b (b.number == bundle) was) on
  active_after (Commanded (Stop bundle)) may n spared on = active_mapped (in_state bundle Stopping) (in_state_number bundle Stopping) w.bundles.rows n
      (λ b here is was. ap (λ k. is_active (cond k (record b { state = Stopping }) b).state) (ap (λ m. m == bundle) is ∙ spared) ∙ was) on
  active_after (Commanded (Uninstall bundle)) may n spared on = ap (λ o. option_map_or (λ (x : BundleLife). is_active x.state) o false) (found_kept (λ (b : BundleLife). b.number == n) (λ (b : BundleLife). not (b.number == bundle)) w.bundles.rows
      (λ b is. ap not (ap (λ m. m == bundle) (eqb-true b.number n is) ∙ uninstalled_other bundle may n on))) ∙ on
  active_after (Commanded (Enable bundle name)) may n spared on = on
  active_after (Commanded (Disable bundle name)) may n spared on = on
  active_after (Commanded (Register bundle interfaces properties)) may n spared on = on
  active_after (Commanded (Unregister bundle service)) may n spared on = on
  active_after (Commanded (SetProperties bundle service properties)) may n spared on = on
  active_after (Commanded (Get bundle service)) may n spared on = on
  active_after (Commanded (Unget bundle service)) may n spared on = on
  active_after (Commanded (Listen bundle test)) may n spared on = on
  active_after (Commanded (Unlisten listener)) may n spared on = on
  active_after (Commanded (Configure pid given)) may n spared on = on
  active_after (Commanded (ConfigureFactory factory name given)) may n spared on = on
  active_after (Commanded (Unconfigure pid)) may n spared on = on
  active_after (Begin turn instance configuration consumer callback chosen) may n spared on = on
  active_after (End turn outcome) may n spared on = on
  active_after (Drained instance) may n spared on = on
  active_after (Got bundle service) may n spared on = on
  active_after (Released place) may n spared on = on

-- the end of stopping leaves active bundles
pub active_rests : (step : Step) (w : World) (stopped : List ℕ) → stopped ≡ stopped_by step w → HasOneOfEach (λ (b : BundleLife). b.number) (bundles_by step w.bundles).rows
    → (n : ℕ) → is_up (bundles_by step w.bundles).rows n ≡ true → is_up (map (resolved_among stopped) (bundles_by step w.bundles).rows) n ≡ true
active_rests step w stopped is one n on = active_mapped (resolved_among stopped) number (bundles_by step w.bundles).rows n (λ b here same was. go b here was (has stopped b.number) refl) on
  where
    number : (b : BundleLife) → (resolved_among stopped b).number ≡ b.number
    number b = by (has stopped b.number)
      where
        by : (k : Bool) → (cond k (record b { state = Resolved }) b).number ≡ b.number
        by true = refl
        by false = refl

    both : (s : BundleState) → is_stopping s ≡ true → is_active s ≡ true → ⊥
    both Installed a b = cc
    both Resolved a b = cc
    both Stopping a b = cc
    both Active a b = cc

    go : (b : BundleLife) → Contains (bundles_by step w.bundles).rows b → is_active b.state ≡ true → (k : Bool) → has stopped b.number ≡ k → is_active (cond k (record b { state = Resolved }) b).state ≡ true
    go b here was true gone = absurd (both b.state (stopped_was_stopping step w one b here (ap (λ ns. has ns b.number) (sym is) ∙ gone)) was)
    go b here was false kept = was

-- ---- services

module _ (w : World) (each : (r : ServiceRow) → Contains w.registry.rows r → is_up w.bundles.rows r.bundle ≡ true) where
  left_services : (step : Step) → MayCome w step → ((n : ℕ) → is_stop_of step n ≡ false) → (r : ServiceRow) → Contains w.registry.rows r → is_up (bundles_by step w.bundles).rows r.bundle ≡ true
  left_services step may spared r h = active_after w step may r.bundle (spared r.bundle) (each r h)

  set_bundle : (properties : List Property) (x : ServiceRow) (k : Bool) → (cond k (set_row properties x) x).bundle ≡ x.bundle
  set_bundle properties x true = refl
  set_bundle properties x false = refl

  services_owned : (step : Step) → MayCome w step → (r : ServiceRow) → Contains (registry_by step w.registry).rows r → is_up (bundles_by step w.bundles).rows r.bundle ≡ true
  services_owned (Commanded (Install doc)) may r h = left_services (Commanded (Install doc)) may (λ n. refl) r h
  services_owned (Commanded (Update bundle doc)) may r h = left_services (Commanded (Update bundle doc)) may (λ n. refl) r h
  services_owned (Commanded (Start bundle)) may r h = left_services (Commanded (Start bundle)) may (λ n. refl) r h
  services_owned (Commanded (Stop bundle)) may r h = (let was = kept_was (λ (x : ServiceRow). not (x.bundle == bundle)) w.registry.rows r h in active_after w (Commanded (Stop bundle)) may r.bundle (not_true (r.bundle == bundle) was.1) (each r was.0))
  services_owned (Commanded (Uninstall bundle)) may r h = left_services (Commanded (Uninstall bundle)) may (λ n. refl) r h
  services_owned (Commanded (Enable bundle name)) may r h = each r h
  services_owned (Commanded (Disable bundle name)) may r h = each r h
  services_owned (Commanded (Register bundle interfaces properties)) may r h = elim (in_either w.registry.rows _ r h) [
    | inl old ↦ each r old
    | inr new ↦ (let a = no_bundle w bundle in let b = not_active w bundle in let free = not_refused w (Register bundle interfaces properties) may in let o = refuse_if (nat_le 1024 (length w.registry.rows)) ServicesFull in
        ap (λ (x : ServiceRow). is_up w.bundles.rows x.bundle) (sym (single _ r new)) ∙ active_asked w bundle (none_first (a ∷ b ∷ o ∷ []) free.0 a (in_first a (b ∷ o ∷ []))) (none_first (a ∷ b ∷ o ∷ []) free.0 b (second a b (o ∷ []))))
  ]
  services_owned (Commanded (Unregister bundle service)) may r h = each r (kept_was (λ (x : ServiceRow). not (has_number service x)) w.registry.rows r h).0
  services_owned (Commanded (SetProperties bundle service properties)) may r h = (let was = mapped_was (λ (x : ServiceRow). cond (has_number service x) (set_row properties x) x) w.registry.rows r h in ap (is_up w.bundles.rows) (ap (λ (x : ServiceRow). x.bundle) (sym was.1.1) ∙ set_bundle properties was.0 (has_number service was.0)) ∙ each was.0 was.1.0)
  services_owned (Commanded (Get bundle service)) may r h = each r h
  services_owned (Commanded (Unget bundle service)) may r h = each r h
  services_owned (Commanded (Listen bundle test)) may r h = each r h
  services_owned (Commanded (Unlisten listener)) may r h = each r h
  services_owned (Commanded (Configure pid given)) may r h = each r h
  services_owned (Commanded (ConfigureFactory factory name given)) may r h = each r h
  services_owned (Commanded (Unconfigure pid)) may r h = each r h
  services_owned (Begin turn instance configuration consumer callback chosen) may r h = each r h
  services_owned (End turn outcome) may r h = each r h
  services_owned (Drained instance) may r h = each r h
  services_owned (Got bundle service) may r h = each r h
  services_owned (Released place) may r h = each r h

-- ---- listeners

module _ (w : World) (changes : List Change) (each : (l : Listener) → Contains w.listeners.rows l → is_up w.bundles.rows l.bundle ≡ true) where
  told_each : (l : Listener) → Contains (map (with_changes changes) w.listeners.rows) l → is_up w.bundles.rows l.bundle ≡ true
  told_each l h = let was = mapped_was (with_changes changes) w.listeners.rows l h in ap (λ (x : Listener). is_up w.bundles.rows x.bundle) (sym was.1.1) ∙ each was.0 was.1.0

  left_listeners : (step : Step) → MayCome w step → ((n : ℕ) → is_stop_of step n ≡ false) → (l : Listener) → Contains (map (with_changes changes) w.listeners.rows) l → is_up (bundles_by step w.bundles).rows l.bundle ≡ true
  left_listeners step may spared l h = active_after w step may l.bundle (spared l.bundle) (told_each l h)

  listeners_owned : (step : Step) → MayCome w step → (l : Listener) → Contains (listeners_by step (after_changes changes w.listeners)).rows l → is_up (bundles_by step w.bundles).rows l.bundle ≡ true
  listeners_owned (Commanded (Install doc)) may l h = left_listeners (Commanded (Install doc)) may (λ n. refl) l h
  listeners_owned (Commanded (Update bundle doc)) may l h = left_listeners (Commanded (Update bundle doc)) may (λ n. refl) l h
  listeners_owned (Commanded (Start bundle)) may l h = left_listeners (Commanded (Start bundle)) may (λ n. refl) l h
  listeners_owned (Commanded (Stop bundle)) may l h = (let was = kept_was (λ (x : Listener). not (x.bundle == bundle)) (map (with_changes changes) w.listeners.rows) l h in active_after w (Commanded (Stop bundle)) may l.bundle (not_true (l.bundle == bundle) was.1) (told_each l was.0))
  listeners_owned (Commanded (Uninstall bundle)) may l h = left_listeners (Commanded (Uninstall bundle)) may (λ n. refl) l h
  listeners_owned (Commanded (Enable bundle name)) may l h = told_each l h
  listeners_owned (Commanded (Disable bundle name)) may l h = told_each l h
  listeners_owned (Commanded (Register bundle interfaces properties)) may l h = told_each l h
  listeners_owned (Commanded (Unregister bundle service)) may l h = told_each l h
  listeners_owned (Commanded (SetProperties bundle service properties)) may l h = told_each l h
  listeners_owned (Commanded (Get bundle service)) may l h = told_each l h
  listeners_owned (Commanded (Unget bundle service)) may l h = told_each l h
  listeners_owned (Commanded (Listen bundle test)) may l h = elim (in_either (map (with_changes changes) w.listeners.rows) _ l h) [
    | inl old ↦ told_each l old
    | inr new ↦ (let a = no_bundle w bundle in let b = not_active w bundle in let free = not_refused w (Listen bundle test) may in let o = refuse_if (nat_le 64 (length w.listeners.rows)) ListenersFull in
        ap (λ (x : Listener). is_up w.bundles.rows x.bundle) (sym (single _ l new)) ∙ active_asked w bundle (none_first (a ∷ b ∷ o ∷ []) free.0 a (in_first a (b ∷ o ∷ []))) (none_first (a ∷ b ∷ o ∷ []) free.0 b (second a b (o ∷ []))))
  ]
  listeners_owned (Commanded (Unlisten listener)) may l h = told_each l (kept_was (λ (x : Listener). not (x.number == listener)) (map (with_changes changes) w.listeners.rows) l h).0
  listeners_owned (Commanded (Configure pid given)) may l h = told_each l h
  listeners_owned (Commanded (ConfigureFactory factory name given)) may l h = told_each l h
  listeners_owned (Commanded (Unconfigure pid)) may l h = told_each l h
  listeners_owned (Begin turn instance configuration consumer callback chosen) may l h = told_each l h
  listeners_owned (End turn outcome) may l h = told_each l h
  listeners_owned (Drained instance) may l h = told_each l h
  listeners_owned (Got bundle service) may l h = told_each l h
  listeners_owned (Released place) may l h = told_each l h

-- ---- over a journal

rows_one : (limit : ℕ) (past : History) → IsLegal limit past → (step : Step) → HasOneOfEach (λ (b : BundleLife). b.number) (bundles_by step (world_of past).bundles).rows
rows_one limit past legal step = let w = world_of past in (tables_apart step w.bundles w.documents w.configurations (legal_is_asked limit past legal).apart).one_bundle

legal_services : (limit : ℕ) (past : History) → IsLegal limit past → (r : ServiceRow) → Contains (world_of past).registry.rows r → is_active_bundle (world_of past) r.bundle ≡ true
unfolding world_of world_after_entry world_after_step
legal_services limit [] legal r h = absurd (in_none r h)
legal_services limit (entry ∷ past) legal r h = active_rests entry.step (world_of past) entry.stopped legal.0.stopped (rows_one limit past legal.1 entry.step) r.bundle
    (services_owned (world_of past) (legal_services limit past legal.1) entry.step legal.0.step r h)

legal_listeners : (limit : ℕ) (past : History) → IsLegal limit past → (l : Listener) → Contains (world_of past).listeners.rows l → is_active_bundle (world_of past) l.bundle ≡ true
unfolding world_of world_after_entry world_after_step
legal_listeners limit [] legal l h = absurd (in_none l h)
legal_listeners limit (entry ∷ past) legal l h = active_rests entry.step (world_of past) entry.stopped legal.0.stopped (rows_one limit past legal.1 entry.step) l.bundle
    (listeners_owned (world_of past) (changes_between (world_of past) (with_lists_of entry (world_after_step entry.step (world_of past)))) (legal_listeners limit past legal.1) entry.step legal.0.step l h)

-- gets are kept of registered services for active bundles
legal_uses : (past : History) (u : UseRow) → Contains (world_of past).uses u → (is_registered (world_of past) u.service ≡ true) × (is_active_bundle (world_of past) u.bundle ≡ true)
unfolding world_of world_after_entry
legal_uses [] u h = absurd (in_none u h)
legal_uses (entry ∷ past) u h = let now = with_lists_of entry (world_after_step entry.step (world_of past)) in
    and_parts (is_registered now u.service) (is_active_bundle now u.bundle) (kept_was (λ (x : UseRow). is_registered now x.service && is_active_bundle now x.bundle) now.uses u h).1

legal_tokens : (past : History) (t : Token) → Contains (world_of past).tokens t → (is_registered (world_of past) t.service ≡ true) × (is_active_bundle (world_of past) t.bundle ≡ true)
unfolding world_of world_after_entry
legal_tokens [] t h = absurd (in_none t h)
legal_tokens (entry ∷ past) t h = let now = with_lists_of entry (world_after_step entry.step (world_of past)) in
    and_parts (is_registered now t.service) (is_active_bundle now t.bundle) (kept_was (λ (x : Token). is_registered now x.service && is_active_bundle now x.bundle) now.tokens t h).1

-- what exists is asked for, and so is of an active bundle
numbered_active : (rows : List BundleLife) (n : ℕ) → IsActive rows n → is_up rows n ≡ true
numbered_active rows n is = go (bundle_of rows n) is
  where
    state : (s : BundleState) → (state_number s == 32) ≡ true → is_active s ≡ true
    state Installed h = cc
    state Resolved h = cc
    state Stopping h = cc
    state Active h = refl

    go : (o : Option BundleLife) → (option_map_or (λ (b : BundleLife). state_number b.state) o 0 == 32) ≡ true → option_map_or (λ (b : BundleLife). is_active b.state) o false ≡ true
    go None h = cc
    go (Some b) h = state b.state h

pub exists_active : (w : World) → IsAsked w → (c : Component) → Contains w.components c → c.exists ≡ true → is_active_bundle w c.bundle ≡ true
exists_active w asked c here on =
    let a = (kept_lives 0 (asked_in w) c (ap (λ (x : Component). x.exists) (asked.components.stand 0 c here) ∙ on)).1 in
    ap (is_up w.bundles.rows) a.2 ∙ numbered_active w.bundles.rows a.0.bundle (asked_was w.bundles.rows w.documents w.configurations a.0 a.1).1

period_active : (w : World) → IsAsked w → IsSound w → (p : OpenPeriod) → Contains w.open_periods p → is_active_bundle w p.row.bundle ≡ true
period_active w asked sound p h =
    let c = open_lives w sound.scratch p h in
    ap (λ (r : ServiceRow). is_up w.bundles.rows r.bundle) ((sound.periods p h).row ∙ ap (λ o. option_map_or (λ x. row_by x p.row.id p.row.revision) o (no_row p.row.id p.row.revision)) (ap (component_of w.components) c.3 ∙ found_of w.components sound.numbered c.0 c.1))
    ∙ exists_active w asked c.0 c.1 c.2

pub active_owners : (limit : ℕ) (past : History) → IsLegal limit past → HaveActiveOwners (world_of past)
active_owners limit past legal = let w = world_of past in let asked = legal_is_asked limit past legal in record {
  services = legal_services limit past legal;
  component_services = λ r h. let row = kept_was (λ (x : ServiceRow). not (x.id == 0)) (map (λ (p : OpenPeriod). p.row) w.open_periods) r h in
      let was = mapped_was (λ (p : OpenPeriod). p.row) w.open_periods r row.0 in
      ap (λ (x : ServiceRow). is_up w.bundles.rows x.bundle) (sym was.1.1) ∙ period_active w asked (legal_sound limit past legal) was.0 was.1.0;
  components = λ c h. let was = kept_was (λ (x : Component). x.exists) w.components c h in exists_active w asked c was.0 was.1;
  listeners = legal_listeners limit past legal;
  uses = λ u h. (legal_uses past u h).1;
  used = λ u h. (legal_uses past u h).0;
  tokens = λ t h. (legal_tokens past t h).1;
  got = λ t h. (legal_tokens past t h).0;
}
