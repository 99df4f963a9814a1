-- What a get and its release answer is so afterwards.
use Rattle.std.proofs.Common.{◌≡◌, ◌<◌, ◌≤◌, ◌⊎◌, ◌-◌, ℕ, suc, ◌+◌, List, [], ◌∷◌, ◌++◌, ap, sym, ◌∙◌, refl, subst, cond, arith, Bool, true, false, ◌&&◌, ◌||◌, inl, inr, Option, Some, None}
use Rattle.std.specs.Prelude.{filter, find, is_none, map, not, ◌==◌, count_by}
use Rattle.std.specs.Cmp.{Equal-is, nat_cmp_is, tied_then}
use Rattle.std.specs.List.{Contains, list_any}
use Rattle.std.specs.Option.{option_map_or}
use Rattle.std.specs.Ordering.{is_eq, nat_cmp, ordering_then}
use Rattle.std.specs.declared.cmp.Ordering.TheVariants.{Equal}
use Rattle.std.proofs.lemmas.Bool.{and_from, and_parts, both_ways, cases_lt, eq-eqb, eqb-true}
use Rattle.std.proofs.lemmas.Map.Lookups.{exact_unsigned}
use Rattle.bundle_life.specs.declared.bundle.BundleLife.{BundleLife}
use Rattle.bundle_life.specs.Lives.{bundle_of, is_active, resolved_among, state_is}
use Rattle.component_state.specs.declared.component.Component.{Component}
use Rattle.component_state.specs.declared.open_period.OpenPeriod.{OpenPeriod}
use Rattle.component_state.specs.Periods.{open_after}
use Rattle.component_state.specs.Rows.{rows_of, with_present_properties}
use Rattle.component_state.proofs.Apart.{in_first, in_rest, kept_was}
use Rattle.journal_core.specs.declared.entry.Entry.{Entry}
use Rattle.journal_core.specs.declared.entry.Opened.{Opened}
use Rattle.scr_laws.specs.Entries.{IsCalm, is_still_step}
use Rattle.scr_laws.proofs.Described.{none_first, not_refused, second}
use Rattle.scr_laws.proofs.Histories.{asking_leaves}
use Rattle.scr_laws.proofs.Listed.{found_was, map_same}
use Rattle.scr_laws.proofs.StillLaw.{legal_calm, legal_still}
use Rattle.scr_laws.proofs.Stillness.{all_kept, none_added}
use Rattle.scr_laws.specs.Owners.{HaveActiveOwners}
use Rattle.scr_laws.proofs.LimitLaws.{not_full, third}
use Rattle.scr_laws.proofs.OwnerLaws.{active_asked, active_owners}
use Rattle.scr_world.specs.Legal.{IsLegal, MayCome}
use Rattle.scr_world.specs.Lists.{is_active_bundle, with_lists_of, world_after_entry, world_of}
use Rattle.scr_world.specs.Refusals.{activation_failed, no_bundle, no_service, not_active, refuse_if}
use Rattle.scr_world.specs.Steps.{History}
use Rattle.scr_world.specs.Stepping.{components_by, counted_components, periods_with, world_after_step}
use Rattle.scr_world.specs.Tables.{bundles_by, registry_by, uses_by}
use Rattle.scr_world.specs.Whiteboard.{platform_rows}
use Rattle.scr_world.specs.Worlds.{is_registered}
use Rattle.scr_world.specs.declared.command.Command.{Command}
use Rattle.scr_world.specs.declared.command.Command.TheVariants.{Get, Unget}
use Rattle.scr_world.specs.declared.reply.CoreFault.TheVariants.{NoService, NotUsing}
use Rattle.scr_world.specs.declared.step.Step.{Step}
use Rattle.scr_world.specs.declared.step.Step.TheVariants.{Command as Commanded}
use Rattle.scr_world.specs.declared.world.World.{World}
use Rattle.service_registry.specs.declared.row.ServiceRow.{ServiceRow}
use Rattle.use_counts.specs.declared.uses.Holder.TheVariants.{Shell}
use Rattle.use_counts.specs.declared.uses.UseRow.{UseRow}
use Rattle.use_counts.specs.Uses.{after_get, after_unget, holder_count, is_use, no_use, one_less, one_more, total, use_before, use_count, use_of, with_use, without_use}
use Rattle.prop_map.specs.Words.{first_some, insert_by}

-- ---- the table of uses

own_number : (x : ℕ) → is_eq (nat_cmp x x) ≡ true
own_number x = (Equal-is (nat_cmp x x)).1 (sym (nat_cmp_is x x Equal refl))

same_number : (x y : ℕ) → is_eq (nat_cmp x y) ≡ true → x ≡ y
same_number x y is = exact_unsigned x y ((Equal-is (nat_cmp x y)).0 is)

module _ (bundle service : ℕ) where
  use_is : (u : UseRow) → is_use bundle service u ≡ true → (u.service ≡ service) × (u.bundle ≡ bundle)
  use_is u is =
      let both = and_parts (is_eq (nat_cmp u.service service)) (is_eq (nat_cmp u.bundle bundle)) (tied_then (nat_cmp u.service service) (nat_cmp u.bundle bundle) ∙ is) in
      (same_number u.service service both.0, same_number u.bundle bundle both.1)

  no_use_is : is_use bundle service (no_use bundle service) ≡ true
  no_use_is = sym (tied_then (nat_cmp service service) (nat_cmp bundle bundle)) ∙ and_from (is_eq (nat_cmp service service)) (is_eq (nat_cmp bundle bundle)) (own_number service) (own_number bundle)

  found_use : (us : List UseRow) → is_use bundle service (use_of bundle service us) ≡ true
  found_use us = go (find (is_use bundle service) us) refl
    where
      go : (o : Option UseRow) → find (is_use bundle service) us ≡ o → is_use bundle service (option_map_or (λ (u : UseRow). u) o (no_use bundle service)) ≡ true
      go None is = no_use_is
      go (Some u) is = (found_was (is_use bundle service) us u is).1

  none_without : (us : List UseRow) (u : UseRow) → Contains (without_use bundle service us) u → is_use bundle service u ≡ false
  none_without us u h = not_use (is_use bundle service u) (kept_was (λ (x : UseRow). not (is_use bundle service x)) us u h).1
    where
      not_use : (b : Bool) → not b ≡ true → b ≡ false
      not_use true is = cc
      not_use false is = refl

module _ {X : Type 0} (p : X → Bool) where
  -- what is put into a list where nothing passes is found there
  found_put : (before : X → X → Bool) (x : X) (xs : List X) → p x ≡ true → ((y : X) → Contains xs y → p y ≡ false) → find p (insert_by before x xs) ≡ Some x
  found_put before x [] on none = ap (λ b. cond b (Some x) None) on
  found_put before x (y ∷ ys) on none = go (before x y) (found_put before x ys on (λ z h. none z (in_rest y ys z h)))
    where
      go : (b : Bool) → find p (insert_by before x ys) ≡ Some x → find p (cond b (x ∷ y ∷ ys) (y ∷ insert_by before x ys)) ≡ Some x
      go true rest = ap (λ b. cond b (Some x) (find p (y ∷ ys))) on
      go false rest = ap (λ b. cond b (Some y) (find p (insert_by before x ys))) (none y (in_first y ys)) ∙ rest

  not_found : (xs : List X) → ((y : X) → Contains xs y → p y ≡ false) → find p xs ≡ None
  not_found [] none = refl
  not_found (x ∷ xs) none = ap (λ b. cond b (Some x) (find p xs)) (none x (in_first x xs)) ∙ not_found xs (λ y h. none y (in_rest x xs y h))

  -- the first one that passes is still the first where it is kept
  found_still : (t : X → Bool) (xs : List X) (x : X) → find p xs ≡ Some x → t x ≡ true → find p (filter t xs) ≡ Some x
  found_still t [] x is on = cc
  found_still t (y ∷ ys) x is on = go (p y) (t y) refl refl is (found_still t ys x)
    where
      go : (a b : Bool) → p y ≡ a → t y ≡ b → cond a (Some y) (find p ys) ≡ Some x → (find p ys ≡ Some x → t x ≡ true → find p (filter t ys) ≡ Some x) → find p (cond b (y ∷ filter t ys) (filter t ys)) ≡ Some x
      go true true here kept found later = ap (λ c. cond c (Some y) (find p (filter t ys))) here ∙ found
      go true false here gone found later = (let same : y ≡ x = cc in absurd (both_ways (t y) gone (ap t same ∙ on)))
      go false true other kept found later = ap (λ c. cond c (Some y) (find p (filter t ys))) other ∙ later found on
      go false false other gone found later = later found on

  none_still : (t : X → Bool) (xs : List X) → find p xs ≡ None → find p (filter t xs) ≡ None
  none_still t [] is = refl
  none_still t (y ∷ ys) is = go (p y) (t y) refl is (none_still t ys)
    where
      go : (a b : Bool) → p y ≡ a → cond a (Some y) (find p ys) ≡ None → (find p ys ≡ None → find p (filter t ys) ≡ None) → find p (cond b (y ∷ filter t ys) (filter t ys)) ≡ None
      go true b here found later = cc
      go false true other found later = ap (λ c. cond c (Some y) (find p (filter t ys))) other ∙ later found
      go false false other found later = later found

-- ---- a get and its release leave services, bundles and open periods

-- a command that asks for what is asked for leaves component configurations, and is still
record LeavesWorld (command : Command) (w : World) : Type 0 where
  still : is_still_step (Commanded command) w ≡ true
  bundles : bundles_by (Commanded command) w.bundles ≡ w.bundles
  registry : registry_by (Commanded command) w.registry ≡ w.registry
  components : components_by (Commanded command) w ≡ counted_components w

module _ (limit : ℕ) (entry : Entry Step) (past : History) (legal : IsLegal limit (entry ∷ past)) (command : Command) (is : entry.step ≡ Commanded command) (leaves : LeavesWorld command (world_of past)) where
  lists : (entry.closed ≡ []) × (entry.opened ≡ []) × (entry.stopped ≡ [])
  lists = legal_still limit entry past legal (ap (λ (s : Step). is_still_step s (world_of past)) is ∙ leaves.still)

  abbrev now : World
  now = with_lists_of entry (world_after_step entry.step (world_of past))

  none_resolved : (rows : List BundleLife) (stopped : List ℕ) → stopped ≡ [] → map (resolved_among stopped) rows ≡ rows
  none_resolved rows stopped none = ap (λ ns. map (resolved_among ns) rows) none ∙ map_same (resolved_among []) rows (λ b h. refl)

  rows_same : now.bundles.rows ≡ (world_of past).bundles.rows
  unfolding world_after_step
  rows_same = ap (λ (s : Step). map (resolved_among entry.stopped) (bundles_by s (world_of past).bundles).rows) is
      ∙ none_resolved (bundles_by (Commanded command) (world_of past).bundles).rows entry.stopped lists.2
      ∙ ap (λ t. t.rows) leaves.bundles

  registry_same : now.registry.rows ≡ (world_of past).registry.rows
  unfolding world_after_step
  registry_same = ap (λ (s : Step). (registry_by s (world_of past).registry).rows) is ∙ ap (λ t. t.rows) leaves.registry

  periods_same : now.open_periods ≡ (world_of past).open_periods
  unfolding world_after_step
  periods_same =
      let w = world_of past in
      ap (λ (s : Step). open_after w.entries (components_by s w) entry.closed entry.opened (periods_with s (components_by s w) w.open_periods)) is
      ∙ ap (λ ns. open_after w.entries (components_by (Commanded command) w) ns entry.opened (map (with_present_properties (components_by (Commanded command) w)) w.open_periods)) lists.0
      ∙ ap (λ os. open_after w.entries (components_by (Commanded command) w) [] os (map (with_present_properties (components_by (Commanded command) w)) w.open_periods)) lists.1
      ∙ none_added (filter (λ (p : OpenPeriod). true) (map (with_present_properties (components_by (Commanded command) w)) w.open_periods))
      ∙ all_kept (map (with_present_properties (components_by (Commanded command) w)) w.open_periods)
      ∙ ap (λ cs. map (with_present_properties cs) w.open_periods) leaves.components
      ∙ map_same (with_present_properties (counted_components w)) w.open_periods (legal_calm limit past legal.1).renewed_all

  registered_same : (service : ℕ) → is_registered now service ≡ is_registered (world_of past) service
  registered_same service =
      ap (λ rows. list_any (λ (r : ServiceRow). r.id == service) ((platform_rows ++ rows) ++ rows_of now.open_periods)) registry_same
      ∙ ap (λ ps. list_any (λ (r : ServiceRow). r.id == service) ((platform_rows ++ (world_of past).registry.rows) ++ rows_of ps)) periods_same

  active_same : (bundle : ℕ) → is_active_bundle now bundle ≡ is_active_bundle (world_of past) bundle
  active_same bundle = ap (λ rows. state_is is_active rows bundle) rows_same

  -- a row of a registered service and an active bundle is kept
  uses_then : (bundle service : ℕ) (u : UseRow) → is_registered (world_of past) service ≡ true → is_active_bundle (world_of past) bundle ≡ true → is_use bundle service u ≡ true
      → find (is_use bundle service) (uses_by (Commanded command) (world_of past).tokens (world_of past).uses) ≡ Some u → find (is_use bundle service) (world_of (entry ∷ past)).uses ≡ Some u
  unfolding world_of world_after_entry world_after_step
  uses_then bundle service u registered active its found =
      found_still (is_use bundle service) (λ (x : UseRow). is_registered now x.service && is_active_bundle now x.bundle) now.uses u
      (ap (λ (s : Step). find (is_use bundle service) (uses_by s (world_of past).tokens (world_of past).uses)) is ∙ found)
      (let same = use_is bundle service u its in
      and_from (is_registered now u.service) (is_active_bundle now u.bundle) (ap (is_registered now) same.0 ∙ registered_same service ∙ registered) (ap (is_active_bundle now) same.1 ∙ active_same bundle ∙ active))

  no_use_then : (bundle service : ℕ) → find (is_use bundle service) (uses_by (Commanded command) (world_of past).tokens (world_of past).uses) ≡ None → find (is_use bundle service) (world_of (entry ∷ past)).uses ≡ None
  unfolding world_of world_after_entry world_after_step
  no_use_then bundle service none =
      none_still (is_use bundle service) (λ (x : UseRow). is_registered now x.service && is_active_bundle now x.bundle) now.uses
      (ap (λ (s : Step). find (is_use bundle service) (uses_by s (world_of past).tokens (world_of past).uses)) is ∙ none)

-- ---- answers

registered_asked : (w : World) (service : ℕ) → no_service w service ≡ None → is_registered w service ≡ true
registered_asked w service is = go (service == 0) (is_registered w service) (not_full ((service == 0) || not (is_registered w service)) (NoService service) is)
  where
    go : (a b : Bool) → (a || not b) ≡ false → b ≡ true
    go true b e = cc
    go false true e = refl
    go false false e = cc

more_is_use : (bundle service : ℕ) (u : UseRow) → is_use bundle service u ≡ true → is_use bundle service (one_more Shell u) ≡ true
more_is_use bundle service u is = is

less_is_use : (bundle service : ℕ) (u : UseRow) → is_use bundle service u ≡ true → is_use bundle service (one_less Shell u) ≡ true
less_is_use bundle service u is = is

module _ (limit : ℕ) (entry : Entry Step) (past : History) (legal : IsLegal limit (entry ∷ past)) (bundle service : ℕ) where
  pub got : entry.step ≡ Commanded (Get bundle service) → use_count bundle service (world_of (entry ∷ past)).uses ≡ use_count bundle service (world_of past).uses + 1
  got is =
      let w = world_of past in
      let may = subst (λ (s : Step). MayCome w s) is legal.0.step in
      let free = (not_refused w (Get bundle service) may).0 in
      let a = no_bundle w bundle in let b = not_active w bundle in let c = activation_failed w service in let d = no_service w service in
      let active = active_asked w bundle (none_first (a ∷ b ∷ c ∷ d ∷ []) free a (in_first a (b ∷ c ∷ d ∷ []))) (none_first (a ∷ b ∷ c ∷ d ∷ []) free b (second a b (c ∷ d ∷ []))) in
      let registered = registered_asked w service (none_first (a ∷ b ∷ c ∷ d ∷ []) free d (in_rest a (b ∷ c ∷ d ∷ []) d (third b c d []))) in
      let row = one_more Shell (use_of bundle service w.uses) in
      let own = more_is_use bundle service (use_of bundle service w.uses) (found_use bundle service w.uses) in
      let found = uses_then limit entry past legal (Get bundle service) is (record { still = refl; bundles = refl; registry = refl; components = asking_leaves w (legal_calm limit past legal.1).asked w.entries w.components_numbered }) bundle service row registered active own
      (found_put (is_use bundle service) use_before row (without_use bundle service w.uses) own (none_without bundle service w.uses)) in
      ap (λ o. total (option_map_or (λ (u : UseRow). u) o (no_use bundle service))) found ∙ omega arith

  pub ungot : entry.step ≡ Commanded (Unget bundle service) → use_count bundle service (world_of (entry ∷ past)).uses ≡ use_count bundle service (world_of past).uses - 1
  ungot is = go (total (one_less Shell (use_of bundle service (world_of past).uses)) == 0) refl
    where
      leaves : LeavesWorld (Unget bundle service) (world_of past)
      leaves = record { still = refl; bundles = refl; registry = refl; components = asking_leaves (world_of past) (legal_calm limit past legal.1).asked (world_of past).entries (world_of past).components_numbered }

      may : MayCome (world_of past) (Commanded (Unget bundle service))
      may = subst (λ (s : Step). MayCome (world_of past) s) is legal.0.step

      free : is_none (first_some (no_bundle (world_of past) bundle ∷ no_service (world_of past) service ∷ refuse_if (holder_count Shell bundle service (world_of past).uses == 0) NotUsing ∷ [])) ≡ true
      free = (not_refused (world_of past) (Unget bundle service) may).0

      registered : is_registered (world_of past) service ≡ true
      registered = registered_asked (world_of past) service (none_first (no_bundle (world_of past) bundle ∷ no_service (world_of past) service ∷ refuse_if (holder_count Shell bundle service (world_of past).uses == 0) NotUsing ∷ []) free
          (no_service (world_of past) service) (second (no_bundle (world_of past) bundle) (no_service (world_of past) service) (refuse_if (holder_count Shell bundle service (world_of past).uses == 0) NotUsing ∷ [])))

      holds : (holder_count Shell bundle service (world_of past).uses == 0) ≡ false
      holds = not_full (holder_count Shell bundle service (world_of past).uses == 0) NotUsing (none_first (no_bundle (world_of past) bundle ∷ no_service (world_of past) service ∷ refuse_if (holder_count Shell bundle service (world_of past).uses == 0) NotUsing ∷ []) free
          (refuse_if (holder_count Shell bundle service (world_of past).uses == 0) NotUsing) (third (no_bundle (world_of past) bundle) (no_service (world_of past) service) (refuse_if (holder_count Shell bundle service (world_of past).uses == 0) NotUsing) []))

      -- who holds has a row, and so is active
      active : is_active_bundle (world_of past) bundle ≡ true
      active = by (find (is_use bundle service) (world_of past).uses) refl holds
        where
          by : (o : Option UseRow) → find (is_use bundle service) (world_of past).uses ≡ o → ((option_map_or (λ (u : UseRow). u) o (no_use bundle service)).shell == 0) ≡ false → is_active_bundle (world_of past) bundle ≡ true
          by None none h = cc
          by (Some u) some h = let found = found_was (is_use bundle service) (world_of past).uses u some in
              ap (is_active_bundle (world_of past)) (sym (use_is bundle service u found.1).1) ∙ (active_owners limit past legal.1).uses u found.0

      own : is_use bundle service (one_less Shell (use_of bundle service (world_of past).uses)) ≡ true
      own = less_is_use bundle service (use_of bundle service (world_of past).uses) (found_use bundle service (world_of past).uses)

      some_held : (n : ℕ) → (n == 0) ≡ false → 1 ≤ n
      some_held n off = elim (cases_lt 0 n) [
        | inl high ↦ omega (arith, high)
        | inr none ↦ absurd (both_ways (n == 0) off (eq-eqb n 0 (omega (arith, none))))
      ]

      fewer : total (one_less Shell (use_of bundle service (world_of past).uses)) ≡ use_count bundle service (world_of past).uses - 1
      fewer = (let some = some_held (use_of bundle service (world_of past).uses).shell holds in omega (arith, some))

      go : (b : Bool) → (total (one_less Shell (use_of bundle service (world_of past).uses)) == 0) ≡ b → use_count bundle service (world_of (entry ∷ past)).uses ≡ use_count bundle service (world_of past).uses - 1
      go true none = ap (λ o. total (option_map_or (λ (u : UseRow). u) o (no_use bundle service)))
          (no_use_then limit entry past legal (Unget bundle service) is leaves bundle service
          (ap (λ b. find (is_use bundle service) (cond b (without_use bundle service (world_of past).uses) (insert_by use_before (one_less Shell (use_of bundle service (world_of past).uses)) (without_use bundle service (world_of past).uses)))) none
          ∙ not_found (is_use bundle service) (without_use bundle service (world_of past).uses) (none_without bundle service (world_of past).uses)))
          ∙ sym (eqb-true (total (one_less Shell (use_of bundle service (world_of past).uses))) 0 none) ∙ fewer
      go false some = ap (λ o. total (option_map_or (λ (u : UseRow). u) o (no_use bundle service)))
          (uses_then limit entry past legal (Unget bundle service) is leaves bundle service (one_less Shell (use_of bundle service (world_of past).uses)) registered active own
          (ap (λ b. find (is_use bundle service) (cond b (without_use bundle service (world_of past).uses) (insert_by use_before (one_less Shell (use_of bundle service (world_of past).uses)) (without_use bundle service (world_of past).uses)))) some
          ∙ found_put (is_use bundle service) use_before (one_less Shell (use_of bundle service (world_of past).uses)) (without_use bundle service (world_of past).uses) own (none_without bundle service (world_of past).uses)))
          ∙ fewer
