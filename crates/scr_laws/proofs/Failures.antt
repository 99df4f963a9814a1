-- The failed ones of a legal journal are those whose last period was closed by a failure, and that have stayed satisfied with equal properties since then.
use Rattle.std.proofs.Common.{◌≡◌, ℕ, zero, suc, ◌+◌, ◌<◌, List, [], ◌∷◌, ◌++◌, ap, sym, ◌∙◌, refl, subst, cond, arith, Bool, true, false, ◌&&◌, ◌||◌, inl, inr, ◌⊎◌, Option, Some, None}
use Rattle.std.specs.Prelude.{filter, find, map, nat_lt, not, ◌==◌}
use Rattle.std.specs.List.{Contains, list_any}
use Rattle.std.specs.Option.{option_map_or}
use Rattle.std.proofs.lemmas.Bool.{and_from, and_parts, both_ways, cases_Bool, cases_eq, eq-eqb, eqb-true}
use Rattle.callback_orders.specs.declared.callback.Outcome.{Outcome}
use Rattle.callback_orders.specs.Grammar.{is_activate, is_create}
use Rattle.callback_orders.specs.Sequences.{is_failed}
use Rattle.component_dto.specs.declared.description.Description.{Description}
use Rattle.component_state.specs.declared.component.Component.{Component}
use Rattle.component_state.specs.declared.open_period.OpenPeriod.{OpenPeriod}
use Rattle.component_state.specs.ComponentConfigurations.{as_configured, component_after, is_same_component, new_components, with_number, with_numbers}
use Rattle.component_state.specs.Components.{are_numbered, component_of, exists, is_changed_at, level_count, level_of, numbers_of, of_level, pass_order, pass_order_below, properties_of}
use Rattle.component_state.specs.Marks.{exists_unchanged}
use Rattle.component_state.specs.Passes.{closing, pass_order_of, satisfied_where, services_in}
use Rattle.component_state.specs.Periods.{is_current, is_open}
use Rattle.component_state.specs.Reasons.{has_reason, has_untold_change, is_of, is_of_open, lost_a_choice, would_choose_others}
use Rattle.component_state.specs.declared.origin.Origin.{Origin}
use Rattle.service_registry.specs.declared.row.ServiceRow.{ServiceRow}
use Rattle.journal_core.specs.declared.entry.Entry.{Entry}
use Rattle.prop_map.specs.declared.properties.Property.{Property}
use Rattle.prop_map.specs.Sameness.{properties_decide, same_properties}
use Rattle.prop_map.specs.Words.{has}
use Rattle.scr_world.specs.declared.instance.Instance.{Instance}
use Rattle.scr_world.specs.declared.step.Step.{Step}
use Rattle.scr_world.specs.declared.step.Step.TheVariants.{Command as Commanded, Begin, End, Drained, Got, Released}
use Rattle.scr_world.specs.declared.world.World.{World}
use Rattle.scr_world.specs.Consequences.{stage_in, stage_of}
use Rattle.scr_world.specs.Instances.{has_turn, last_is}
use Rattle.scr_world.specs.Legal.{Follows, IsLegal, IsOpenFromScratch}
use Rattle.scr_world.specs.Lists.{world_after_entry, world_of}
use Rattle.scr_world.specs.Steps.{History}
use Rattle.scr_world.specs.Stepping.{component_configurations_by, components_by, counted_components, ending_in, failing, is_counted, periods_with, world_after_step}
use Rattle.scr_world.specs.Worlds.{satisfied_in}
use Rattle.scr_laws.specs.Journals.{FailedSince, IsClosedByFailure, StaysSatisfied, fails_by, makes_or_activates}
use Rattle.component_state.proofs.Apart.{any_found, any_from, has_both, in_left, in_right, keyed, kept_from, kept_was, key_in, or_true}
use Rattle.component_state.proofs.Numbering.{apart_numbered, kept_name}
use Rattle.component_state.proofs.Ranks.{below_top}
use Rattle.scr_laws.proofs.Calm.{found_of, legal_is_behind, not_changed_now, one_of_number}
use Rattle.scr_laws.proofs.Legal.{in_map, legal_scratch, legal_well, step_well}
use Rattle.scr_laws.proofs.ReadyStages.{open_current_one, open_same}

-- ---- what fails

fails_from : (step : Step) (w : World) (n : ℕ) → has (failing step w) n ≡ true → (fails_by step w n ≡ true) × (is_open w.open_periods n ≡ true)
fails_from (Commanded command) w n is = cc
fails_from (Begin turn instance configuration consumer callback chosen) w n is = cc
fails_from (Drained instance) w n is = cc
fails_from (Got bundle service) w n is = cc
fails_from (Released place) w n is = cc
fails_from (End turn outcome) w n is = go (is_failed (Some outcome)) is
  where
    go : (b : Bool) → has (cond b (map (λ (i : Instance). i.origin.configuration) (ending_in turn w)) []) n ≡ true → ((b && list_any (makes_or_activates turn n) w.instances) ≡ true) × (is_open w.open_periods n ≡ true)
    go false k = cc
    go true k =
        let i = keyed (λ (j : Instance). j.origin.configuration) (ending_in turn w) n k in
        let kept = kept_was (λ (j : Instance). has_turn turn j && ((last_is is_create j.callbacks || last_is is_activate j.callbacks) && is_current w.open_periods j.origin)) w.instances i.0 i.1 in
        let turned = and_parts (has_turn turn i.0) ((last_is is_create i.0.callbacks || last_is is_activate i.0.callbacks) && is_current w.open_periods i.0.origin) kept.1 in
        let parts = and_parts (last_is is_create i.0.callbacks || last_is is_activate i.0.callbacks) (is_current w.open_periods i.0.origin) turned.1 in
        let p = any_found (λ (q : OpenPeriod). (q.configuration == i.0.origin.configuration) && nat_lt q.opened i.0.origin.created) w.open_periods parts.1 in
        let same = and_parts (p.0.configuration == i.0.origin.configuration) (nat_lt p.0.opened i.0.origin.created) p.2 in (
          any_from (makes_or_activates turn n) w.instances i.0 kept.0
              (and_from (has_turn turn i.0 && (last_is is_create i.0.callbacks || last_is is_activate i.0.callbacks)) (i.0.origin.configuration == n) (and_from (has_turn turn i.0) (last_is is_create i.0.callbacks || last_is is_activate i.0.callbacks) turned.0 parts.0)
              (eq-eqb i.0.origin.configuration n i.2)),
          any_from (λ (q : OpenPeriod). q.configuration == n) w.open_periods p.0 p.1 (ap (λ m. p.0.configuration == m) (sym i.2) ∙ same.0),
        )

fails_to : (step : Step) (w : World) → IsOpenFromScratch w → (n : ℕ) → fails_by step w n ≡ true → is_open w.open_periods n ≡ true → has (failing step w) n ≡ true
fails_to (Commanded command) w scratch n is opened = cc
fails_to (Begin turn instance configuration consumer callback chosen) w scratch n is opened = cc
fails_to (Drained instance) w scratch n is opened = cc
fails_to (Got bundle service) w scratch n is opened = cc
fails_to (Released place) w scratch n is opened = cc
fails_to (End turn outcome) w scratch n is opened = go (is_failed (Some outcome)) is
  where
    go : (b : Bool) → (b && list_any (makes_or_activates turn n) w.instances) ≡ true → has (cond b (map (λ (i : Instance). i.origin.configuration) (ending_in turn w)) []) n ≡ true
    go false k = cc
    go true k =
        let i = any_found (makes_or_activates turn n) w.instances k in
        let parts = and_parts (has_turn turn i.0 && (last_is is_create i.0.callbacks || last_is is_activate i.0.callbacks)) (i.0.origin.configuration == n) i.2 in
        let turned = and_parts (has_turn turn i.0) (last_is is_create i.0.callbacks || last_is is_activate i.0.callbacks) parts.0 in
        let same = eqb-true i.0.origin.configuration n parts.1 in
        let current = open_current_one w scratch i.0 i.1 (ap (is_open w.open_periods) same ∙ opened) in
        ap (has (map (λ (j : Instance). j.origin.configuration) (ending_in turn w))) (sym same)
        ∙ key_in (λ (j : Instance). j.origin.configuration) (ending_in turn w) i.0
        (kept_from (λ (j : Instance). has_turn turn j && ((last_is is_create j.callbacks || last_is is_activate j.callbacks) && is_current w.open_periods j.origin)) w.instances i.0 i.1
        (and_from (has_turn turn i.0) ((last_is is_create i.0.callbacks || last_is is_activate i.0.callbacks) && is_current w.open_periods i.0.origin) turned.0 (and_from (last_is is_create i.0.callbacks || last_is is_activate i.0.callbacks) (is_current w.open_periods i.0.origin) turned.1 current)))

-- ---- the order of a pass has each

module _ (ds : List Description) (levels : List ℕ) (cs : List Component) (c : Component) (here : Contains cs c) where
  in_below : (k : ℕ) → level_of ds levels c < k → Contains (pass_order_below ds levels cs k) c
  in_below zero low = absurd (omega (arith, low))
  in_below (suc k) low = elim (cases_eq (level_of ds levels c) k) [
    | inl same ↦ in_right (pass_order_below ds levels cs k) (of_level ds levels cs k) c (kept_from (λ d. level_of ds levels d == k) cs c here (eq-eqb (level_of ds levels c) k same))
    | inr other ↦ in_left (pass_order_below ds levels cs k) (of_level ds levels cs k) c (in_below k (omega (arith, low, other)))
  ]

  in_order : Contains (pass_order ds levels cs) c
  in_order = let low = below_top c.description ds levels in in_below (suc (level_count levels)) (omega (arith, low))

-- ---- one component configuration, before and after an entry

record Goes (place : ℕ) (before after : Component) : Type 0 where
  number : after.number ≡ before.number
  equal : after.exists ≡ true → is_changed_at place after ≡ false → after.properties ≡ before.properties
  unchanged : after.exists ≡ true → after.properties ≡ before.properties → is_changed_at place after ≡ false

goes_on_so : (place : ℕ) (these : List Component) (c : Component) → c.exists ≡ true → is_changed_at place c ≡ false → Goes place c (component_after place these c)
goes_on_so place these c on behind = record { number = (kept_name place these c).number; equal = equal c.exists on (find (is_same_component c) these); unchanged = unchanged c.exists on (find (is_same_component c) these) }
  where
    changed_at : (p : List Property) → Option ℕ
    changed_at p = cond (same_properties p c.properties) c.changed (Some place)

    equal : (b : Bool) → b ≡ true → (o : Option Component) → (cond b (option_map_or (as_configured place c) o (record c { exists = false })) c).exists ≡ true
        → is_changed_at place (cond b (option_map_or (as_configured place c) o (record c { exists = false })) c) ≡ false → (cond b (option_map_or (as_configured place c) o (record c { exists = false })) c).properties ≡ c.properties
    equal false is o live off = cc
    equal true is None live off = refl
    equal true is (Some a) live off = go (same_properties (with_number c.number a.properties) c.properties) refl off
      where
        go : (b : Bool) → same_properties (with_number c.number a.properties) c.properties ≡ b → option_map_or (λ p. p == place) (cond b c.changed (Some place)) false ≡ false → with_number c.number a.properties ≡ c.properties
        go true same k = (properties_decide (with_number c.number a.properties) c.properties).0 same
        go false same k = absurd (both_ways (place == place) k (eq-eqb place place refl))

    unchanged : (b : Bool) → b ≡ true → (o : Option Component) → (cond b (option_map_or (as_configured place c) o (record c { exists = false })) c).exists ≡ true
        → (cond b (option_map_or (as_configured place c) o (record c { exists = false })) c).properties ≡ c.properties → is_changed_at place (cond b (option_map_or (as_configured place c) o (record c { exists = false })) c) ≡ false
    unchanged false is o live same = cc
    unchanged true is None live same = behind
    unchanged true is (Some a) live same =
        ap (λ b. option_map_or (λ p. p == place) (cond b c.changed (Some place)) false) ((properties_decide (with_number c.number a.properties) c.properties).1 same) ∙ behind

stays_so : (place : ℕ) (c : Component) → is_changed_at place c ≡ false → Goes place c c
stays_so place c behind = record { number = refl; equal = λ live off. refl; unchanged = λ live same. behind }

goes : (step : Step) (w : World) (c : Component) → Contains w.components c → c.exists ≡ true → is_changed_at w.entries c ≡ false → (k : Component) × (Contains (components_by step w) k × Goes w.entries c k)
goes (Commanded command) w c here on behind = let these = component_configurations_by (Commanded command) w in (
  component_after w.entries these c,
  (
    in_left (map (component_after w.entries these) (counted_components w)) (with_numbers (w.components_numbered + 1) (new_components (counted_components w) these)) (component_after w.entries these c)
        (in_map (component_after w.entries these) (counted_components w) c (kept_from (is_counted w.instances) w.components c here (ap (λ b. b || list_any (λ (i : Instance). i.origin.configuration == c.number) w.instances) on))),
    goes_on_so w.entries these c on behind,
  ),
)
goes (Begin turn instance configuration consumer callback chosen) w c here on behind = (c, (here, stays_so w.entries c behind))
goes (End turn outcome) w c here on behind = (c, (here, stays_so w.entries c behind))
goes (Drained instance) w c here on behind = (c, (here, stays_so w.entries c behind))
goes (Got bundle service) w c here on behind = (c, (here, stays_so w.entries c behind))
goes (Released place) w c here on behind = (c, (here, stays_so w.entries c behind))

-- one that fails has a reason to close
fails_reason : (place : ℕ) (before : List OpenPeriod) (rows : List ServiceRow) (satisfied : List ℕ) (all : List Origin) (failing : List ℕ) (c : Component) → has failing c.number ≡ true → has_reason place before rows satisfied all failing c ≡ true
fails_reason place before rows satisfied all failing c fails =
    let others = not c.exists
    || not (has satisfied c.number)
    || (has_untold_change place c && list_any (is_of c) all)
    || list_any (λ o. is_of_open before c o && lost_a_choice rows c o) all
    || list_any (λ o. is_of_open before c o && would_choose_others rows c o) all in
    ap (λ b. others || b) fails ∙ or_true others

-- ---- by an entry

failed_is : (entry : Entry Step) (past : History) → (world_of (entry ∷ past)).failed
    ≡ filter (λ n. has (satisfied_in (world_of past)) n && exists_unchanged (world_of past).entries (components_by entry.step (world_of past)) n) (world_of past).failed ++ filter (exists (components_by entry.step (world_of past))) (failing entry.step (world_of past))
unfolding world_of world_after_entry world_after_step
failed_is entry past = refl

components_are : (entry : Entry Step) (past : History) → (world_of (entry ∷ past)).components ≡ components_by entry.step (world_of past)
unfolding world_of world_after_entry world_after_step
components_are entry past = refl

present_one : (cs : List Component) (n : ℕ) → exists cs n ≡ true → (c : Component) × (Contains cs c × ((c.number ≡ n) × (c.exists ≡ true)))
present_one cs n is = let found = any_found (λ (c : Component). (c.number == n) && c.exists) cs is in
    let parts = and_parts (found.0.number == n) found.0.exists found.2 in (found.0, (found.1, (eqb-true found.0.number n parts.0, parts.1)))

properties_by : (cs : List Component) → are_numbered cs ≡ true → (c : Component) → Contains cs c → (n : ℕ) → c.number ≡ n → properties_of cs n ≡ c.properties
properties_by cs numbered c here n is = ap (properties_of cs) (sym is) ∙ ap (λ o. option_map_or (λ (d : Component). d.properties) o []) (found_of cs numbered c here)

has_kept : (t : ℕ → Bool) (ns : List ℕ) (n : ℕ) → has (filter t ns) n ≡ true → (has ns n ≡ true) × (t n ≡ true)
has_kept t ns n is = let found = any_found (λ m. m == n) (filter t ns) is in
    let kept = kept_was t ns found.0 found.1 in (any_from (λ m. m == n) ns found.0 kept.0 found.2, ap t (sym (eqb-true found.0 n found.2)) ∙ kept.1)

kept_has : (t : ℕ → Bool) (ns : List ℕ) (n : ℕ) → has ns n ≡ true → t n ≡ true → has (filter t ns) n ≡ true
kept_has t ns n is on = let found = any_found (λ m. m == n) ns is in any_from (λ m. m == n) (filter t ns) found.0 (kept_from t ns found.0 found.1 (ap t (eqb-true found.0 n found.2) ∙ on)) found.2

module _ (limit : ℕ) (past : History) (legal : IsLegal limit past) (entry : Entry Step) (follows : Follows limit entry past) (n : ℕ) where
  abbrev w : World
  w = world_of past

  abbrev cs : List Component
  cs = components_by entry.step w

  numbered_before : are_numbered w.components ≡ true
  numbered_before = apart_numbered w.components (legal_well limit past legal).apart

  numbered_now : are_numbered cs ≡ true
  numbered_now = apart_numbered cs (step_well entry.step w (legal_scratch limit past legal) (legal_well limit past legal)).apart

  -- what fails while it is open closes
  closes_failing : has (failing entry.step w) n ≡ true → exists cs n ≡ true → is_open w.open_periods n ≡ true → has entry.closed n ≡ true
  unfolding stage_of stage_in world_after_step
  closes_failing fails there opened =
      let s = stage_of entry.step w in
      let now = (world_of (entry ∷ past)).open_periods in
      let c = present_one cs n there in
      ap (λ ns. has ns n) follows.closed
      ∙ ap (has (closing s now)) (sym c.1.1.0)
      ∙ key_in (λ (d : Component). d.number) (filter (λ (d : Component). is_open s.open_before d.number && has_reason s.place s.open_before (services_in s now) (satisfied_where s now) s.origins s.failing d) (pass_order_of s)) c.0
      (kept_from (λ (d : Component). is_open s.open_before d.number && has_reason s.place s.open_before (services_in s now) (satisfied_where s now) s.origins s.failing d) (pass_order_of s) c.0 (in_order s.descriptions s.levels cs c.0 c.1.0)
      (and_from (is_open s.open_before c.0.number) (has_reason s.place s.open_before (services_in s now) (satisfied_where s now) s.origins s.failing c.0)
      (open_same entry.step cs w.open_periods c.0.number ∙ ap (is_open w.open_periods) c.1.1.0 ∙ opened) (fails_reason s.place s.open_before (services_in s now) (satisfied_where s now) s.origins s.failing c.0 (ap (has (failing entry.step w)) c.1.1.0 ∙ fails))))

  -- and what closes was open
  closed_open : has entry.closed n ≡ true → is_open w.open_periods n ≡ true
  unfolding stage_of stage_in world_after_step
  closed_open is =
      let s = stage_of entry.step w in
      let now = (world_of (entry ∷ past)).open_periods in
      let test = λ (d : Component). is_open s.open_before d.number && has_reason s.place s.open_before (services_in s now) (satisfied_where s now) s.origins s.failing d in
      let c = keyed (λ (d : Component). d.number) (filter test (pass_order_of s)) n (sym (ap (λ ns. has ns n) follows.closed) ∙ is) in
      let parts = and_parts (is_open s.open_before c.0.number) (has_reason s.place s.open_before (services_in s now) (satisfied_where s now) s.origins s.failing c.0) (kept_was test (pass_order_of s) c.0 c.1).1 in
      sym (open_same entry.step cs w.open_periods n) ∙ ap (is_open (periods_with entry.step cs w.open_periods)) (sym c.2) ∙ parts.0

  stays_from : exists w.components n ≡ true → (has (satisfied_in w) n && exists_unchanged w.entries cs n) ≡ true → StaysSatisfied entry past n
  stays_from was test =
      let both = and_parts (has (satisfied_in w) n) (exists_unchanged w.entries cs n) test in
      let c = present_one w.components n was in
      let k = goes entry.step w c.0 c.1.0 c.1.1.1 (not_changed_now w (legal_is_behind limit past legal) c.0 c.1.0) in
      let found = any_found (λ (d : Component). (d.number == n) && (d.exists && not (is_changed_at w.entries d))) cs both.1 in
      let parts = and_parts (found.0.number == n) (found.0.exists && not (is_changed_at w.entries found.0)) found.2 in
      let two = and_parts found.0.exists (not (is_changed_at w.entries found.0)) parts.1 in
      let number = eqb-true found.0.number n parts.0 in
      let same = one_of_number cs numbered_now found.0 k.0 found.1 k.1.0 (number ∙ sym c.1.1.0 ∙ sym k.1.1.number) in record {
        satisfied = both.0;
        present = ap (λ ds. exists ds n) (components_are entry past) ∙ any_from (λ (d : Component). (d.number == n) && d.exists) cs found.0 found.1 (and_from (found.0.number == n) found.0.exists parts.0 two.0);
        properties = ap (λ ds. properties_of ds n) (components_are entry past) ∙ properties_by cs numbered_now k.0 k.1.0 n (k.1.1.number ∙ c.1.1.0)
            ∙ k.1.1.equal (ap (λ (d : Component). d.exists) (sym same) ∙ two.0) (ap (is_changed_at w.entries) (sym same) ∙ off (is_changed_at w.entries found.0) two.1)
            ∙ sym (properties_by w.components numbered_before c.0 c.1.0 n c.1.1.0);
      }
    where
      off : (b : Bool) → not b ≡ true → b ≡ false
      off true e = cc
      off false e = refl

  stays_to : exists w.components n ≡ true → StaysSatisfied entry past n → (has (satisfied_in w) n && exists_unchanged w.entries cs n) ≡ true
  stays_to was stay =
      let c = present_one w.components n was in
      let k = goes entry.step w c.0 c.1.0 c.1.1.1 (not_changed_now w (legal_is_behind limit past legal) c.0 c.1.0) in
      let d = present_one cs n (sym (ap (λ ds. exists ds n) (components_are entry past)) ∙ stay.present) in
      let same = one_of_number cs numbered_now d.0 k.0 d.1.0 k.1.0 (d.1.1.0 ∙ sym c.1.1.0 ∙ sym k.1.1.number) in
      let live = ap (λ (x : Component). x.exists) (sym same) ∙ d.1.1.1 in
      let equal = sym (properties_by cs numbered_now k.0 k.1.0 n (k.1.1.number ∙ c.1.1.0)) ∙ sym (ap (λ ds. properties_of ds n) (components_are entry past)) ∙ stay.properties ∙ properties_by w.components numbered_before c.0 c.1.0 n c.1.1.0 in
      let unchanged = k.1.1.unchanged live equal in
      and_from (has (satisfied_in w) n) (exists_unchanged w.entries cs n) stay.satisfied
      (any_from (λ (x : Component). (x.number == n) && (x.exists && not (is_changed_at w.entries x))) cs k.0 k.1.0
      (and_from (k.0.number == n) (k.0.exists && not (is_changed_at w.entries k.0)) (eq-eqb k.0.number n (k.1.1.number ∙ c.1.1.0)) (and_from k.0.exists (not (is_changed_at w.entries k.0)) live (ap not unchanged))))

-- what failed is there
since_present : (past : History) (n : ℕ) → FailedSince past n → exists (world_of past).components n ≡ true
since_present [] n since = absurd since
since_present (entry ∷ past) n (inl closed) = closed.present
since_present (entry ∷ past) n (inr stay) = stay.1.present

none_failed : (n : ℕ) → has (world_of []).failed n ≡ true → ⊥
unfolding world_of
none_failed n e = cc

pub failed_from : (limit : ℕ) (past : History) → IsLegal limit past → (n : ℕ) → has (world_of past).failed n ≡ true → FailedSince past n
failed_from limit [] legal n is = none_failed n is
failed_from limit (entry ∷ past) legal n is = go (has still n) refl (failed_from limit past legal.1 n) (sym (has_both still new n) ∙ sym (ap (λ ns. has ns n) (failed_is entry past)) ∙ is)
  where
    still : List ℕ
    still = filter (λ m. has (satisfied_in (world_of past)) m && exists_unchanged (world_of past).entries (components_by entry.step (world_of past)) m) (world_of past).failed

    new : List ℕ
    new = filter (exists (components_by entry.step (world_of past))) (failing entry.step (world_of past))

    go : (b : Bool) → has still n ≡ b → (has (world_of past).failed n ≡ true → FailedSince past n) → (has still n || has new n) ≡ true → FailedSince (entry ∷ past) n
    go true on before either =
        let kept = has_kept (λ m. has (satisfied_in (world_of past)) m && exists_unchanged (world_of past).entries (components_by entry.step (world_of past)) m) (world_of past).failed n on in
        let since = before kept.0 in
        inr (since, stays_from limit past legal.1 entry legal.0 n (since_present past n since) kept.1)
    go false off before either =
        let kept = has_kept (exists (components_by entry.step (world_of past))) (failing entry.step (world_of past)) n (sym (ap (λ b. b || has new n) off) ∙ either) in
        let fails = fails_from entry.step (world_of past) n kept.0 in
        inl (record {
          closed = closes_failing limit past legal.1 entry legal.0 n kept.0 kept.1 fails.1;
          fails = fails.0;
          present = ap (λ ds. exists ds n) (components_are entry past) ∙ kept.1;
        })

pub failed_to : (limit : ℕ) (past : History) → IsLegal limit past → (n : ℕ) → FailedSince past n → has (world_of past).failed n ≡ true
failed_to limit [] legal n since = absurd since
failed_to limit (entry ∷ past) legal n (inl closed) =
    let there = sym (ap (λ ds. exists ds n) (components_are entry past)) ∙ closed.present in
    let fails = fails_to entry.step (world_of past) (legal_scratch limit past legal.1) n closed.fails (closed_open limit past legal.1 entry legal.0 n closed.closed) in
    let still = filter (λ m. has (satisfied_in (world_of past)) m && exists_unchanged (world_of past).entries (components_by entry.step (world_of past)) m) (world_of past).failed in
    ap (λ ns. has ns n) (failed_is entry past) ∙ has_both still (filter (exists (components_by entry.step (world_of past))) (failing entry.step (world_of past))) n
    ∙ ap (λ b. has still n || b) (kept_has (exists (components_by entry.step (world_of past))) (failing entry.step (world_of past)) n fails there) ∙ or_true (has still n)
failed_to limit (entry ∷ past) legal n (inr stay) =
    ap (λ ns. has ns n) (failed_is entry past)
    ∙ has_both (filter (λ m. has (satisfied_in (world_of past)) m && exists_unchanged (world_of past).entries (components_by entry.step (world_of past)) m) (world_of past).failed) (filter (exists (components_by entry.step (world_of past))) (failing entry.step (world_of past))) n
    ∙ ap (λ b. b || has (filter (exists (components_by entry.step (world_of past))) (failing entry.step (world_of past))) n)
    (kept_has (λ m. has (satisfied_in (world_of past)) m && exists_unchanged (world_of past).entries (components_by entry.step (world_of past)) m) (world_of past).failed n (failed_to limit past legal.1 n stay.0)
    (stays_to limit past legal.1 entry legal.0 n (since_present past n stay.0) stay.1))
