-- Gets stand as long as their service and their bundle do; entries without consequences end none.
use Rattle.std.proofs.Common.{◌≡◌, ℕ, ◌+◌, List, [], ◌∷◌, ◌++◌, ap, sym, ◌∙◌, refl, subst, cond, Bool, true, false, ◌&&◌, ◌||◌, inl, inr, ◌⊎◌, Option, Some, None}
use Rattle.std.specs.Prelude.{filter, find, is_none, map, not, option_and_then, ◌==◌}
use Rattle.std.specs.List.{Contains, list_any}
use Rattle.std.specs.Option.{option_map_or}
use Rattle.std.proofs.lemmas.Bool.{and_from, both_ways}
use Rattle.std.proofs.lemmas.List.Folds.{list_any-append}
use Rattle.bundle_life.specs.declared.bundle.BundleLife.{BundleLife}
use Rattle.bundle_life.specs.Lives.{bundle_of, is_active, resolved_among, state_is, state_number}
use Rattle.component_state.specs.declared.component.Component.{Component}
use Rattle.component_state.specs.declared.open_period.OpenPeriod.{OpenPeriod}
use Rattle.component_state.specs.Components.{component_of}
use Rattle.component_state.specs.Periods.{open_after}
use Rattle.component_state.specs.Rows.{period_with_properties, published_by, row_with_properties, rows_of, with_present_properties}
use Rattle.component_state.proofs.Apart.{in_cases, in_either, in_first, in_none, in_rest, kept_was}
use Rattle.journal_core.specs.declared.entry.Entry.{Entry}
use Rattle.prop_map.specs.declared.properties.Property.{Property}
use Rattle.prop_map.specs.Sameness.{same_properties}
use Rattle.prop_map.specs.Words.{insert_by}
use Rattle.scr_laws.specs.Entries.{is_still_step}
use Rattle.scr_laws.proofs.Described.{none_first, second}
use Rattle.scr_laws.proofs.Listed.{map_same, none_kept}
use Rattle.scr_laws.proofs.Stillness.{all_kept, none_added}
use Rattle.scr_laws.proofs.StillLaw.{legal_still}
use Rattle.scr_laws.proofs.InstanceLemmas.{alone}
use Rattle.scr_world.specs.Legal.{IsLegal, MayCome}
use Rattle.scr_world.specs.Lists.{is_active_bundle, with_lists_of, world_after_entry, world_of}
use Rattle.scr_world.specs.Refusals.{activation_failed, no_bundle, no_service, not_active, refusal, refuse_if}
use Rattle.scr_world.specs.Steps.{History}
use Rattle.scr_world.specs.Stepping.{components_by, periods_with, world_after_step}
use Rattle.scr_world.specs.Tables.{bundles_by, registry_by, tokens_by, uses_by, without_token}
use Rattle.scr_world.specs.Whiteboard.{platform_rows}
use Rattle.scr_world.specs.Worlds.{direct_services, is_registered}
use Rattle.scr_world.specs.declared.command.Command.TheVariants.{Get, Unget, Listen, Unlisten}
use Rattle.scr_world.specs.declared.marks.Token.{Token}
use Rattle.scr_world.specs.declared.reply.CoreFault.{CoreFault}
use Rattle.scr_world.specs.declared.reply.CoreFault.TheVariants.{NoBundle, NoService, WrongState}
use Rattle.scr_world.specs.declared.step.Step.{Step}
use Rattle.scr_world.specs.declared.step.Step.TheVariants.{Command as Commanded, Begin, End, Drained, Got, Released}
use Rattle.scr_world.specs.declared.world.World.{World}
use Rattle.service_registry.specs.declared.row.ServiceRow.{ServiceRow}
use Rattle.use_counts.specs.declared.uses.Holder.{Holder}
use Rattle.use_counts.specs.declared.uses.Holder.TheVariants.{Shell, Token as ByToken}
use Rattle.use_counts.specs.declared.uses.UseRow.{UseRow}
use Rattle.use_counts.specs.Uses.{after_get, after_unget, is_use, no_use, one_less, one_more, total, use_before, use_of, without_use}
use Rattle.scr_laws.specs.Reserving.{stands_for, stands_in, tokens_dropped}

all_pass : {X : Type 0} (p : X → Bool) (xs : List X) → ((x : X) → Contains xs x → p x ≡ true) → filter p xs ≡ xs
all_pass p [] all = refl
all_pass p (x ∷ xs) all = ap (λ b. cond b (x ∷ filter p xs) (filter p xs)) (all x (in_first x xs)) ∙ ap (λ ys. x ∷ ys) (all_pass p xs (λ y h. all y (in_rest x xs y h)))

-- ---- in every world each get stands

pub tokens_stand : (past : History) (t : Token) → Contains (world_of past).tokens t → stands_for (world_of past) t.service t.bundle ≡ true
unfolding world_of world_after_entry
tokens_stand [] t h = absurd (in_none t h)
tokens_stand (entry ∷ past) t h =
    let now = with_lists_of entry (world_after_step entry.step (world_of past)) in
    (kept_was (λ (x : Token). stands_for now x.service x.bundle) now.tokens t h).1

pub uses_stand : (past : History) (u : UseRow) → Contains (world_of past).uses u → stands_for (world_of past) u.service u.bundle ≡ true
unfolding world_of world_after_entry
uses_stand [] u h = absurd (in_none u h)
uses_stand (entry ∷ past) u h =
    let now = with_lists_of entry (world_after_step entry.step (world_of past)) in
    (kept_was (λ (x : UseRow). stands_for now x.service x.bundle) now.uses u h).1

-- ---- a get by which no refusal comes

refused_none : (b : Bool) (fault : CoreFault) → refuse_if b fault ≡ None → b ≡ false
refused_none true fault e = cc
refused_none false fault e = refl

get_stands : (w : World) (bundle service : ℕ) → refusal w (Get bundle service) ≡ None → stands_for w service bundle ≡ true
get_stands w bundle service may =
    let each : (o : Option CoreFault) → Contains (no_bundle w bundle ∷ not_active w bundle ∷ activation_failed w service ∷ no_service w service ∷ []) o → o ≡ None =
    none_first (no_bundle w bundle ∷ not_active w bundle ∷ activation_failed w service ∷ no_service w service ∷ []) (ap is_none may) in
    let known = each (no_bundle w bundle) (in_first (no_bundle w bundle) (not_active w bundle ∷ activation_failed w service ∷ no_service w service ∷ [])) in
    let on = each (not_active w bundle) (second (no_bundle w bundle) (not_active w bundle) (activation_failed w service ∷ no_service w service ∷ [])) in
    let there = each (no_service w service) (in_rest (no_bundle w bundle) (not_active w bundle ∷ activation_failed w service ∷ no_service w service ∷ []) (no_service w service) (in_rest (not_active w bundle) (activation_failed w service ∷ no_service w service ∷ []) (no_service w service) (second (activation_failed w service) (no_service w service) []))) in
    and_from (is_registered w service) (is_active_bundle w bundle) (registered (service == 0) (is_registered w service) (refused_none ((service == 0) || not (is_registered w service)) (NoService service) there)) (go (bundle_of w.bundles.rows bundle) known on)
  where
    registered : (a b : Bool) → (a || not b) ≡ false → b ≡ true
    registered true b e = cc
    registered false true e = refl
    registered false false e = cc

    state : (k : Bool) (fault : CoreFault) → refuse_if (not k) fault ≡ None → k ≡ true
    state true fault h = refl
    state false fault h = cc

    go : (o : Option BundleLife) → refuse_if (is_none o) (NoBundle bundle) ≡ None → option_and_then (λ (b : BundleLife). refuse_if (not (is_active b.state)) (WrongState (state_number b.state))) o ≡ None → option_map_or (λ (b : BundleLife). is_active b.state) o false ≡ true
    go None there h = cc
    go (Some b) there h = state (is_active b.state) (WrongState (state_number b.state)) h

-- ---- who holds after a step held before it, or got

inserted_was : (u x : UseRow) (us : List UseRow) → Contains (insert_by use_before u us) x → (u ≡ x) ⊎ Contains us x
inserted_was u x [] h = inl (alone u x h)
inserted_was u x (v ∷ vs) h = go (use_before u v) h (inserted_was u x vs)
  where
    go : (b : Bool) → Contains (cond b (u ∷ v ∷ vs) (v ∷ insert_by use_before u vs)) x → (Contains (insert_by use_before u vs) x → (u ≡ x) ⊎ Contains vs x) → (u ≡ x) ⊎ Contains (v ∷ vs) x
    go true k later = in_cases u (v ∷ vs) x k
    go false k later = elim (in_cases v (insert_by use_before u vs) x k) [
      | inl same ↦ inr (subst (λ (z : UseRow). Contains (v ∷ vs) z) same (in_first v vs))
      | inr more ↦ elim (later more) [ inl one ↦ inl one | inr old ↦ inr (in_rest v vs x old) ]
    ]

more_same : (w : World) (holder : Holder) (u : UseRow) → stands_for w (one_more holder u).service (one_more holder u).bundle ≡ stands_for w u.service u.bundle
more_same w Shell u = refl
more_same w ByToken u = refl

less_same : (w : World) (holder : Holder) (u : UseRow) → stands_for w (one_less holder u).service (one_less holder u).bundle ≡ stands_for w u.service u.bundle
less_same w Shell u = refl
less_same w ByToken u = refl

module _ (w : World) where
  abbrev pub StandAll : List UseRow → Type 0
  StandAll us = (u : UseRow) → Contains us u → stands_for w u.service u.bundle ≡ true

  module _ (bundle service : ℕ) where
    -- the row of a bundle and a service is there, or counts nothing
    use_was : (us : List UseRow) → Contains us (use_of bundle service us) ⊎ (use_of bundle service us ≡ no_use bundle service)
    use_was [] = inr refl
    use_was (u ∷ us) = go (is_use bundle service u) (use_was us)
      where
        go : (b : Bool) → Contains us (use_of bundle service us) ⊎ (use_of bundle service us ≡ no_use bundle service)
            → Contains (u ∷ us) (option_map_or (λ (x : UseRow). x) (cond b (Some u) (find (is_use bundle service) us)) (no_use bundle service)) ⊎ (option_map_or (λ (x : UseRow). x) (cond b (Some u) (find (is_use bundle service) us)) (no_use bundle service) ≡ no_use bundle service)
        go true rest = inl (in_first u us)
        go false (inl there) = inl (in_rest u us (use_of bundle service us) there)
        go false (inr none) = inr none

    others_stand : (us : List UseRow) → StandAll us → StandAll (without_use bundle service us)
    others_stand us all x h = all x (kept_was (λ (u : UseRow). not (is_use bundle service u)) us x h).0

    got_stand : (holder : Holder) (us : List UseRow) → StandAll us → stands_for w service bundle ≡ true → StandAll (after_get bundle service holder us)
    got_stand holder us all new x h = elim (inserted_was (one_more holder (use_of bundle service us)) x (without_use bundle service us) h) [
      | inl same ↦ subst (λ (u : UseRow). stands_for w u.service u.bundle ≡ true) same (more_same w holder (use_of bundle service us) ∙ one (use_was us))
      | inr old ↦ others_stand us all x old
    ]
      where
        one : Contains us (use_of bundle service us) ⊎ (use_of bundle service us ≡ no_use bundle service) → stands_for w (use_of bundle service us).service (use_of bundle service us).bundle ≡ true
        one (inl there) = all (use_of bundle service us) there
        one (inr none) = ap (λ (u : UseRow). stands_for w u.service u.bundle) none ∙ new

    counts_none : (holder : Holder) → (total (one_less holder (no_use bundle service)) == 0) ≡ true
    counts_none Shell = refl
    counts_none ByToken = refl

    ungot_stand : (holder : Holder) (us : List UseRow) → StandAll us → StandAll (after_unget bundle service holder us)
    ungot_stand holder us all x h = go (total (one_less holder (use_of bundle service us)) == 0) refl h
      where
        go : (b : Bool) → (total (one_less holder (use_of bundle service us)) == 0) ≡ b → Contains (cond b (without_use bundle service us) (insert_by use_before (one_less holder (use_of bundle service us)) (without_use bundle service us))) x
            → stands_for w x.service x.bundle ≡ true
        go true none k = others_stand us all x k
        go false some k = elim (inserted_was (one_less holder (use_of bundle service us)) x (without_use bundle service us) k) [
          | inl same ↦ elim (use_was us) [
            | inl there ↦ subst (λ (u : UseRow). stands_for w u.service u.bundle ≡ true) same (less_same w holder (use_of bundle service us) ∙ all (use_of bundle service us) there)
            | inr none ↦ absurd (both_ways (total (one_less holder (use_of bundle service us)) == 0) some (ap (λ (u : UseRow). total (one_less holder u) == 0) none ∙ counts_none holder))
          ]
          | inr old ↦ others_stand us all x old
        ]

  released_stand : (us : List UseRow) (o : Option Token) → StandAll us → StandAll (option_map_or (without_token us) o us)
  released_stand us None all = all
  released_stand us (Some t) all = ungot_stand t.bundle t.service ByToken us all

  -- a get and its release aside, a step leaves the uses as they are
  pub uses_after : (step : Step) → MayCome w step → StandAll w.uses → StandAll (uses_by step w.tokens w.uses)
  uses_after (Commanded (Get bundle service)) may all = got_stand bundle service Shell w.uses all (get_stands w bundle service may.0)
  uses_after (Commanded (Unget bundle service)) may all = ungot_stand bundle service Shell w.uses all
  uses_after (Commanded command) may all = all
  uses_after (Begin turn instance configuration consumer callback chosen) may all = all
  uses_after (End turn outcome) may all = all
  uses_after (Drained instance) may all = all
  uses_after (Got bundle service) may all = got_stand bundle service ByToken w.uses all (get_stands w bundle service may)
  uses_after (Released place) may all = released_stand w.uses (find (λ (t : Token). t.place == place) w.tokens) all

  abbrev pub TokensStand : List Token → Type 0
  TokensStand ts = (t : Token) → Contains ts t → stands_for w t.service t.bundle ≡ true

  pub tokens_after : (step : Step) → MayCome w step → TokensStand w.tokens → TokensStand (tokens_by step w.entries w.tokens)
  tokens_after (Commanded command) may all t h = all t h
  tokens_after (Begin turn instance configuration consumer callback chosen) may all t h = all t h
  tokens_after (End turn outcome) may all t h = all t h
  tokens_after (Drained instance) may all t h = all t h
  tokens_after (Got bundle service) may all t h =
      let new : Token = record { place = w.entries; bundle = bundle; service = service } in
      elim (in_either w.tokens (new ∷ []) t h) [
        | inl old ↦ all t old
        | inr added ↦ subst (λ (x : Token). stands_for w x.service x.bundle ≡ true) (alone new t added) (get_stands w bundle service may)
      ]
  tokens_after (Released place) may all t h = all t (kept_was (λ (x : Token). not (x.place == place)) w.tokens t h).0

-- ---- an entry without consequences leaves which services are registered, and which bundles are active

module _ (service : ℕ) where
  abbrev has_id : ServiceRow → Bool
  has_id r = r.id == service

  kept_id : (r : ServiceRow) (properties : List Property) → (row_with_properties r properties).id ≡ r.id
  kept_id r properties = go (same_properties properties r.properties)
    where
      go : (b : Bool) → (cond b r (record r { properties = properties; revision = r.revision + 1 })).id ≡ r.id
      go true = refl
      go false = refl

  period_id : (cs : List Component) (p : OpenPeriod) → (with_present_properties cs p).row.id ≡ p.row.id
  period_id cs p = go (component_of cs p.configuration)
    where
      go : (o : Option Component) → (option_map_or (period_with_properties p) o p).row.id ≡ p.row.id
      go None = refl
      go (Some c) = kept_id p.row (published_by c p.row.id)

  any_row : (p q : OpenPeriod) (rest more : List ServiceRow) → q.row.id ≡ p.row.id → list_any has_id more ≡ list_any has_id rest
      → list_any has_id (cond (not (q.row.id == 0)) (q.row ∷ more) more) ≡ list_any has_id (cond (not (p.row.id == 0)) (p.row ∷ rest) rest)
  any_row p q rest more same later = ap (λ n. list_any has_id (cond (not (n == 0)) (q.row ∷ more) more)) same ∙ go (p.row.id == 0)
    where
      go : (b : Bool) → list_any has_id (cond (not b) (q.row ∷ more) more) ≡ list_any has_id (cond (not b) (p.row ∷ rest) rest)
      go true = later
      go false = ap (λ n. (n == service) || list_any has_id more) same ∙ ap (λ b. (p.row.id == service) || b) later

  any_period : (cs : List Component) (ps : List OpenPeriod) → list_any has_id (rows_of (map (with_present_properties cs) ps)) ≡ list_any has_id (rows_of ps)
  any_period cs [] = refl
  any_period cs (p ∷ ps) = any_row p (with_present_properties cs p) (rows_of ps) (rows_of (map (with_present_properties cs) ps)) (period_id cs p) (any_period cs ps)

  any_by : (step : Step) (cs : List Component) (ps : List OpenPeriod) → list_any has_id (rows_of (periods_with step cs ps)) ≡ list_any has_id (rows_of ps)
  any_by (Commanded command) cs ps = any_period cs ps
  any_by (Begin turn instance configuration consumer callback chosen) cs ps = refl
  any_by (End turn outcome) cs ps = refl
  any_by (Drained instance) cs ps = refl
  any_by (Got bundle service_got) cs ps = refl
  any_by (Released place) cs ps = refl

registry_still : (step : Step) (w : World) → is_still_step step w ≡ true → (registry_by step w.registry).rows ≡ w.registry.rows
registry_still (Commanded (Get bundle service)) w is = refl
registry_still (Commanded (Unget bundle service)) w is = refl
registry_still (Commanded (Listen bundle filter)) w is = refl
registry_still (Commanded (Unlisten listener)) w is = refl
registry_still (Commanded command) w is = absurd cc
registry_still (Begin turn instance configuration consumer callback chosen) w is = refl
registry_still (End turn outcome) w is = refl
registry_still (Drained instance) w is = refl
registry_still (Got bundle service) w is = refl
registry_still (Released place) w is = refl

bundles_still : (step : Step) (w : World) → is_still_step step w ≡ true → (bundles_by step w.bundles).rows ≡ w.bundles.rows
bundles_still (Commanded (Get bundle service)) w is = refl
bundles_still (Commanded (Unget bundle service)) w is = refl
bundles_still (Commanded (Listen bundle filter)) w is = refl
bundles_still (Commanded (Unlisten listener)) w is = refl
bundles_still (Commanded command) w is = absurd cc
bundles_still (Begin turn instance configuration consumer callback chosen) w is = refl
bundles_still (End turn outcome) w is = refl
bundles_still (Drained instance) w is = refl
bundles_still (Got bundle service) w is = refl
bundles_still (Released place) w is = refl

none_resolved : (rows : List BundleLife) (stopped : List ℕ) → stopped ≡ [] → map (resolved_among stopped) rows ≡ rows
none_resolved rows stopped none = ap (λ ns. map (resolved_among ns) rows) none ∙ map_same (resolved_among []) rows (λ b h. refl)

none_opened : (place : ℕ) (cs : List Component) (entry : Entry Step) (before : List OpenPeriod) → entry.closed ≡ [] → entry.opened ≡ [] → open_after place cs entry.closed entry.opened before ≡ before
none_opened place cs entry before closed opened =
    ap (λ ns. open_after place cs ns entry.opened before) closed ∙ ap (λ os. open_after place cs [] os before) opened ∙ none_added (filter (λ (p : OpenPeriod). true) before) ∙ all_kept before

module _ (limit : ℕ) (entry : Entry Step) (past : History) (legal : IsLegal limit (entry ∷ past)) (is : is_still_step entry.step (world_of past) ≡ true) where
  abbrev w : World
  w = world_of past

  lists : (entry.closed ≡ []) × (entry.opened ≡ []) × (entry.stopped ≡ [])
  lists = legal_still limit entry past legal is

  active_then : (bundle : ℕ) → is_active_bundle (world_after_entry entry (world_of past)) bundle ≡ is_active_bundle (world_of past) bundle
  unfolding world_after_entry world_after_step
  active_then bundle = ap (λ rows. state_is is_active rows bundle) (none_resolved (bundles_by entry.step w.bundles).rows entry.stopped lists.2 ∙ bundles_still entry.step w is)

  registered_then : (service : ℕ) → is_registered (world_after_entry entry (world_of past)) service ≡ is_registered (world_of past) service
  unfolding world_after_entry world_after_step
  registered_then service =
      let periods = none_opened w.entries (components_by entry.step w) entry (periods_with entry.step (components_by entry.step w) w.open_periods) lists.0 lists.1 in
      ap (λ ps. list_any (has_id service) (direct_services (world_after_entry entry w) ++ rows_of ps)) periods
      ∙ list_any-append (has_id service) (direct_services (world_after_entry entry w)) (rows_of (periods_with entry.step (components_by entry.step w) w.open_periods))
      ∙ ap (λ b. list_any (has_id service) (direct_services (world_after_entry entry w)) || b) (any_by service entry.step (components_by entry.step w) w.open_periods)
      ∙ sym (list_any-append (has_id service) (direct_services (world_after_entry entry w)) (rows_of w.open_periods))
      ∙ ap (λ rows. list_any (has_id service) (rows ++ rows_of w.open_periods)) direct
    where
      direct : direct_services (world_after_entry entry w) ≡ direct_services w
      direct = ap (λ rows. platform_rows ++ rows) (registry_still entry.step w is)

  stands_then : (service bundle : ℕ) → stands_for (world_after_entry entry (world_of past)) service bundle ≡ stands_for (world_of past) service bundle
  stands_then service bundle = ap (λ b. b && is_active_bundle (world_after_entry entry w) bundle) (registered_then service) ∙ ap (λ b. is_registered w service && b) (active_then bundle)

  -- it drops no get by token
  pub none_dropped : tokens_dropped entry (world_of past) ≡ []
  none_dropped = none_kept (λ (t : Token). not (stands_in (world_after_entry entry w) t)) (tokens_by entry.step w.entries w.tokens)
      (λ t h. ap not (stands_then t.service t.bundle ∙ tokens_after w entry.step legal.0.step (tokens_stand past) t h))

  pub tokens_left : (world_after_entry entry (world_of past)).tokens ≡ tokens_by entry.step (world_of past).entries (world_of past).tokens
  unfolding world_after_entry world_after_step
  tokens_left = all_pass (stands_in (world_after_entry entry w)) (tokens_by entry.step w.entries w.tokens)
      (λ t h. stands_then t.service t.bundle ∙ tokens_after w entry.step legal.0.step (tokens_stand past) t h)

  pub uses_left : (world_after_entry entry (world_of past)).uses ≡ uses_by entry.step (world_of past).tokens (world_of past).uses
  unfolding world_after_entry world_after_step
  uses_left = all_pass (λ (u : UseRow). stands_for (world_after_entry entry w) u.service u.bundle) (uses_by entry.step w.tokens w.uses)
      (λ u h. stands_then u.service u.bundle ∙ uses_after w entry.step legal.0.step (uses_stand past) u h)
