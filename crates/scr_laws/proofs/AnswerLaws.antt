-- Answers are true afterwards.
use Rattle.std.proofs.Common.{◌≡◌, ◌<◌, ◌≤◌, ℕ, ◌+◌, List, [], ◌∷◌, ◌++◌, ap, sym, ◌∙◌, refl, subst, cond, arith, Bool, true, false, inl, inr, Option, Some, None}
use Rattle.std.specs.Prelude.{filter, find, is_none, map, not, option_map, ◌==◌}
use Rattle.std.specs.List.{Contains}
use Rattle.std.specs.Option.{option_map_or}
use Rattle.std.proofs.lemmas.Bool.{both_ways, eq-eqb, ne_eqb}
use Rattle.bundle_doc.specs.declared.document.BundleDoc.{BundleDoc}
use Rattle.bundle_life.specs.declared.bundle.BundleLife.{BundleLife}
use Rattle.bundle_life.specs.declared.bundle.BundleState.{BundleState}
use Rattle.bundle_life.specs.declared.bundle.BundleState.TheVariants.{Installed, Resolved, Stopping, Active}
use Rattle.bundle_life.specs.Lives.{bundle_at, bundle_of, is_stopping, new_row as new_bundle, resolved_among}
use Rattle.component_state.proofs.Apart.{in_either, in_first, in_none, in_rest, in_right, kept_was}
use Rattle.journal_core.specs.declared.entry.Entry.{Entry}
use Rattle.ldap_filter.specs.Trees.{Tree}
use Rattle.prop_map.specs.declared.properties.Property.{Property}
use Rattle.prop_map.specs.Words.{has}
use Rattle.scr_laws.specs.Askeds.{AreApart, HasOneOfEach}
use Rattle.scr_laws.proofs.Histories.{legal_is_asked}
use Rattle.scr_laws.proofs.Listed.{mapped_was, single}
use Rattle.scr_laws.proofs.Resting.{stopped_was_stopping}
use Rattle.scr_laws.proofs.Tables.{tables_apart}
use Rattle.scr_laws.specs.Answers.{IsTrueOf}
use Rattle.scr_laws.proofs.UseLaws.{got, ungot}
use Rattle.scr_world.specs.Consequences.{stopped_by}
use Rattle.scr_world.specs.Legal.{IsLegal, MayCome}
use Rattle.scr_world.specs.Lists.{changes_between, with_lists_of, world_after_entry, world_of}
use Rattle.scr_world.specs.Replies.{answer}
use Rattle.scr_world.specs.Steps.{History}
use Rattle.scr_world.specs.Stepping.{world_after_step}
use Rattle.scr_world.specs.Tables.{bundles_by, direct_scope, listeners_by, registry_by}
use Rattle.scr_world.specs.declared.command.Command.{Command}
use Rattle.scr_world.specs.declared.command.Command.TheVariants.{Install, Update, Start, Stop, Uninstall, Enable, Disable, Register, Unregister, SetProperties, Get, Unget, Listen, Unlisten, Configure, ConfigureFactory, Unconfigure}
use Rattle.scr_world.specs.declared.step.Step.{Step}
use Rattle.scr_world.specs.declared.step.Step.TheVariants.{Command as Commanded, Begin, End, Drained, Got, Released}
use Rattle.scr_world.specs.declared.world.World.{World}
use Rattle.service_listeners.specs.declared.listener.Listener.{Listener}
use Rattle.service_listeners.specs.Listening.{Change, after_changes, listener_of, with_changes}
use Rattle.service_registry.specs.declared.row.ServiceRow.{ServiceRow}
use Rattle.service_registry.specs.Registries.{has_number, new_row, row_of, set_row}

-- ---- what is added under a new number is found by it

pub found_new : {X : Type 0} (key : X → ℕ) (xs : List X) (x : X) (numbered : ℕ) → ((y : X) → Contains xs y → key y ≤ numbered) → key x ≡ numbered + 1 → find (λ y. key y == numbered + 1) (xs ++ x ∷ []) ≡ Some x
found_new key [] x numbered low is = ap (λ b. cond b (Some x) None) (eq-eqb (key x) (numbered + 1) is)
found_new key (y ∷ ys) x numbered low is =
    ap (λ b. cond b (Some y) (find (λ z. key z == numbered + 1) (ys ++ x ∷ []))) (ne_eqb (key y) (numbered + 1) (λ e. let most = low y (in_first y ys) in omega (arith, most, e)))
    ∙ found_new key ys x numbered (λ z h. low z (in_rest y ys z h)) is

-- ---- numbers so far

module _ (w : World) (each : (r : ServiceRow) → Contains w.registry.rows r → r.id ≤ w.registry.numbered) where
  set_number : (properties : List Property) (r : ServiceRow) (b : Bool) → (cond b (set_row properties r) r).id ≡ r.id
  set_number properties r true = refl
  set_number properties r false = refl

  services_so_far : (step : Step) → (r : ServiceRow) → Contains (registry_by step w.registry).rows r → r.id ≤ (registry_by step w.registry).numbered
  services_so_far (Commanded (Install doc)) r h = each r h
  services_so_far (Commanded (Update bundle doc)) r h = each r h
  services_so_far (Commanded (Start bundle)) r h = each r h
  services_so_far (Commanded (Stop bundle)) r h = each r (kept_was (λ (x : ServiceRow). not (x.bundle == bundle)) w.registry.rows r h).0
  services_so_far (Commanded (Uninstall bundle)) r h = each r h
  services_so_far (Commanded (Enable bundle name)) r h = each r h
  services_so_far (Commanded (Disable bundle name)) r h = each r h
  services_so_far (Commanded (Register bundle interfaces properties)) r h = elim (in_either w.registry.rows _ r h) [
    | inl old ↦ (let low = each r old in omega (arith, low))
    | inr new ↦ (let same = ap (λ (x : ServiceRow). x.id) (single _ r new) in omega (arith, same))
  ]
  services_so_far (Commanded (Unregister bundle service)) r h = each r (kept_was (λ (x : ServiceRow). not (has_number service x)) w.registry.rows r h).0
  services_so_far (Commanded (SetProperties bundle service properties)) r h = (let was = mapped_was (λ (x : ServiceRow). cond (has_number service x) (set_row properties x) x) w.registry.rows r h in subst (λ (x : ServiceRow). x.id ≤ w.registry.numbered) was.1.1 (subst (λ n. n ≤ w.registry.numbered) (sym (set_number properties was.0 (has_number service was.0))) (each was.0 was.1.0)))
  services_so_far (Commanded (Get bundle service)) r h = each r h
  services_so_far (Commanded (Unget bundle service)) r h = each r h
  services_so_far (Commanded (Listen bundle test)) r h = each r h
  services_so_far (Commanded (Unlisten listener)) r h = each r h
  services_so_far (Commanded (Configure pid given)) r h = each r h
  services_so_far (Commanded (ConfigureFactory factory name given)) r h = each r h
  services_so_far (Commanded (Unconfigure pid)) r h = each r h
  services_so_far (Begin turn instance configuration consumer callback chosen) r h = each r h
  services_so_far (End turn outcome) r h = each r h
  services_so_far (Drained instance) r h = each r h
  services_so_far (Got bundle service) r h = each r h
  services_so_far (Released place) r h = each r h

legal_services_so_far : (past : History) (r : ServiceRow) → Contains (world_of past).registry.rows r → r.id ≤ (world_of past).registry.numbered
unfolding world_of world_after_entry world_after_step
legal_services_so_far [] r h = absurd (in_none r h)
legal_services_so_far (entry ∷ past) r h = (let low = services_so_far (world_of past) (legal_services_so_far past) entry.step r h in omega (arith, low))

module _ (w : World) (changes : List Change) (each : (l : Listener) → Contains w.listeners.rows l → l.number ≤ w.listeners.numbered) where
  told_so_far : (l : Listener) → Contains (map (with_changes changes) w.listeners.rows) l → l.number ≤ w.listeners.numbered
  told_so_far l h = let was = mapped_was (with_changes changes) w.listeners.rows l h in subst (λ (x : Listener). x.number ≤ w.listeners.numbered) was.1.1 (each was.0 was.1.0)

  listeners_so_far : (step : Step) → (l : Listener) → Contains (listeners_by step (after_changes changes w.listeners)).rows l → l.number ≤ (listeners_by step (after_changes changes w.listeners)).numbered
  listeners_so_far (Commanded (Install doc)) l h = told_so_far l h
  listeners_so_far (Commanded (Update bundle doc)) l h = told_so_far l h
  listeners_so_far (Commanded (Start bundle)) l h = told_so_far l h
  listeners_so_far (Commanded (Stop bundle)) l h = told_so_far l (kept_was (λ (x : Listener). not (x.bundle == bundle)) (map (with_changes changes) w.listeners.rows) l h).0
  listeners_so_far (Commanded (Uninstall bundle)) l h = told_so_far l h
  listeners_so_far (Commanded (Enable bundle name)) l h = told_so_far l h
  listeners_so_far (Commanded (Disable bundle name)) l h = told_so_far l h
  listeners_so_far (Commanded (Register bundle interfaces properties)) l h = told_so_far l h
  listeners_so_far (Commanded (Unregister bundle service)) l h = told_so_far l h
  listeners_so_far (Commanded (SetProperties bundle service properties)) l h = told_so_far l h
  listeners_so_far (Commanded (Get bundle service)) l h = told_so_far l h
  listeners_so_far (Commanded (Unget bundle service)) l h = told_so_far l h
  listeners_so_far (Commanded (Listen bundle test)) l h = elim (in_either (map (with_changes changes) w.listeners.rows) _ l h) [
    | inl old ↦ (let low = told_so_far l old in omega (arith, low))
    | inr new ↦ (let same = ap (λ (x : Listener). x.number) (single _ l new) in omega (arith, same))
  ]
  listeners_so_far (Commanded (Unlisten listener)) l h = told_so_far l (kept_was (λ (x : Listener). not (x.number == listener)) (map (with_changes changes) w.listeners.rows) l h).0
  listeners_so_far (Commanded (Configure pid given)) l h = told_so_far l h
  listeners_so_far (Commanded (ConfigureFactory factory name given)) l h = told_so_far l h
  listeners_so_far (Commanded (Unconfigure pid)) l h = told_so_far l h
  listeners_so_far (Begin turn instance configuration consumer callback chosen) l h = told_so_far l h
  listeners_so_far (End turn outcome) l h = told_so_far l h
  listeners_so_far (Drained instance) l h = told_so_far l h
  listeners_so_far (Got bundle service) l h = told_so_far l h
  listeners_so_far (Released place) l h = told_so_far l h

legal_listeners_so_far : (past : History) (l : Listener) → Contains (world_of past).listeners.rows l → l.number ≤ (world_of past).listeners.numbered
unfolding world_of world_after_entry
legal_listeners_so_far [] l h = absurd (in_none l h)
legal_listeners_so_far (entry ∷ past) l h = listeners_so_far (world_of past) (changes_between (world_of past) (with_lists_of entry (world_after_step entry.step (world_of past)))) (legal_listeners_so_far past) entry.step l h

-- ---- what the end of stopping leaves of a bundle

pub resolved_number : (ns : List ℕ) (b : BundleLife) → (resolved_among ns b).number ≡ b.number
resolved_number ns b = go (has ns b.number)
  where
    go : (k : Bool) → (cond k (record b { state = Resolved }) b).number ≡ b.number
    go true = refl
    go false = refl

pub found_map : (f : BundleLife → BundleLife) → ((b : BundleLife) → (f b).number ≡ b.number) → (rows : List BundleLife) (number : ℕ) → bundle_of (map f rows) number ≡ option_map f (bundle_of rows number)
found_map f same [] number = refl
found_map f same (b ∷ bs) number = ap (λ n. cond (n == number) (Some (f b)) (bundle_of (map f bs) number)) (same b) ∙ go (b.number == number) (found_map f same bs number)
  where
    go : (k : Bool) → bundle_of (map f bs) number ≡ option_map f (bundle_of bs number) → cond k (Some (f b)) (bundle_of (map f bs) number) ≡ option_map f (cond k (Some b) (bundle_of bs number))
    go true rest = refl
    go false rest = rest

not_stopping : (step : Step) (w : World) (stopped : List ℕ) → stopped ≡ stopped_by step w → HasOneOfEach (λ (b : BundleLife). b.number) (bundles_by step w.bundles).rows
    → (b : BundleLife) → Contains (bundles_by step w.bundles).rows b → is_stopping b.state ≡ false → resolved_among stopped b ≡ b
not_stopping step w stopped is one b here off = go (has stopped b.number) refl
  where
    go : (k : Bool) → has stopped b.number ≡ k → cond k (record b { state = Resolved }) b ≡ b
    go true gone = absurd (both_ways (is_stopping b.state) off (stopped_was_stopping step w one b here (ap (λ ns. has ns b.number) (sym is) ∙ gone)))
    go false kept = refl

-- ---- answers

known_at : (o : Option BundleLife) (next : ℕ) → is_none o ≡ true → option_map_or (λ (b : BundleLife). b.number) o next ≡ next
known_at None next is = refl
known_at (Some b) next is = cc

module _ (limit : ℕ) (entry : Entry Step) (past : History) (legal : IsLegal limit (entry ∷ past)) where
  installed : (doc : BundleDoc) → entry.step ≡ Commanded (Install doc) → IsTrueOf (Install doc) (answer (world_of past) (Install doc)) (world_of (entry ∷ past))
  unfolding world_of world_after_entry world_after_step
  installed doc is =
      subst (λ n. bundle_of (map (resolved_among entry.stopped) (bundles_by entry.step w.bundles).rows) n ≡ Some (new_bundle n doc.location doc.name doc.version)) (sym number)
      (ap (λ s. bundle_of (map (resolved_among entry.stopped) (bundles_by s w.bundles).rows) next) is
      ∙ found_map (resolved_among entry.stopped) (resolved_number entry.stopped) (w.bundles.rows ++ row ∷ []) next
      ∙ ap (option_map (resolved_among entry.stopped)) (found_new (λ (b : BundleLife). b.number) w.bundles.rows row w.bundles.numbered apart.bundles_so_far refl)
      ∙ ap (λ b. Some b) (not_stopping (Commanded (Install doc)) w entry.stopped (legal.0.stopped ∙ ap (λ s. stopped_by s w) is) (tables_apart (Commanded (Install doc)) w.bundles w.documents w.configurations apart).one_bundle
      row (in_right w.bundles.rows (row ∷ []) row (in_first row [])) refl))
    where
      w : World
      w = world_of past

      next : ℕ
      next = w.bundles.numbered + 1

      row : BundleLife
      row = new_bundle next doc.location doc.name doc.version

      apart : AreApart w.bundles w.documents w.configurations
      apart = (legal_is_asked limit past legal.1).apart

      number : option_map_or (λ (b : BundleLife). b.number) (bundle_at w.bundles.rows doc.location) next ≡ next
      number = known_at (bundle_at w.bundles.rows doc.location) next (subst (λ s. MayCome w s) is legal.0.step).1

  registered_so : (bundle : ℕ) (interfaces : List (List ℕ)) (properties : List Property) → entry.step ≡ Commanded (Register bundle interfaces properties)
      → IsTrueOf (Register bundle interfaces properties) (answer (world_of past) (Register bundle interfaces properties)) (world_of (entry ∷ past))
  unfolding world_of world_after_entry world_after_step
  registered_so bundle interfaces properties is = let w = world_of past in
      ap (λ s. row_of (registry_by s w.registry).rows (w.registry.numbered + 1)) is
      ∙ found_new (λ (r : ServiceRow). r.id) w.registry.rows (new_row (w.registry.numbered + 1) bundle interfaces direct_scope properties true) w.registry.numbered (legal_services_so_far past) refl

  listening_so : (bundle : ℕ) (test : Tree) → entry.step ≡ Commanded (Listen bundle test) → IsTrueOf (Listen bundle test) (answer (world_of past) (Listen bundle test)) (world_of (entry ∷ past))
  unfolding world_of world_after_entry
  listening_so bundle test is = let w = world_of past in
      let changes = changes_between w (with_lists_of entry (world_after_step entry.step w)) in
      ap (λ s. listener_of (listeners_by s (after_changes changes w.listeners)).rows (w.listeners.numbered + 1)) is
      ∙ found_new (λ (l : Listener). l.number) (map (with_changes changes) w.listeners.rows) (record { number = w.listeners.numbered + 1; bundle = bundle; filter = test; events = [] }) w.listeners.numbered
      (told_so_far w changes (legal_listeners_so_far past)) refl

  pub answers_true : (command : Command) → entry.step ≡ Commanded command → IsTrueOf command (answer (world_of past) command) (world_of (entry ∷ past))
  answers_true (Install doc) is = installed doc is
  answers_true (Update bundle doc) is = tt
  answers_true (Start bundle) is = tt
  answers_true (Stop bundle) is = tt
  answers_true (Uninstall bundle) is = tt
  answers_true (Enable bundle name) is = tt
  answers_true (Disable bundle name) is = tt
  answers_true (Register bundle interfaces properties) is = registered_so bundle interfaces properties is
  answers_true (Unregister bundle service) is = tt
  answers_true (SetProperties bundle service properties) is = tt
  answers_true (Get bundle service) is = got limit entry past legal bundle service is
  answers_true (Unget bundle service) is = ungot limit entry past legal bundle service is
  answers_true (Listen bundle test) is = listening_so bundle test is
  answers_true (Unlisten listener) is = tt
  answers_true (Configure pid given) is = tt
  answers_true (ConfigureFactory factory name given) is = tt
  answers_true (Unconfigure pid) is = tt
