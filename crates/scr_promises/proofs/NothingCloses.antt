-- A calm platform that settles closes nothing: below a level what is open only grows, so each open component configuration keeps its targets and its choices.
use Rattle.std.proofs.Common.{◌≡◌, ◌<◌, ℕ, zero, suc, ◌+◌, List, [], ◌∷◌, ◌++◌, ap, sym, ◌∙◌, refl, subst, arith, Bool, true, false, ◌&&◌, inl, inr, ◌⊎◌}
use Rattle.std.specs.Prelude.{filter, map, not, ◌==◌}
use Rattle.std.specs.List.{Contains, list_all, list_any}
use Rattle.std.specs.Option.{option_map_or}
use Rattle.std.proofs.lemmas.Bool.{and_from, and_parts, both_ways, cases_Bool, eq-eqb}
use Rattle.callback_orders.specs.declared.callback.Outcome.{Outcome}
use Rattle.component_dto.specs.TextLists.{has_text}
use Rattle.component_dto.specs.declared.description.Description.{Description}
use Rattle.component_dto.specs.declared.description.Reference.{Reference}
use Rattle.component_state.specs.declared.component.Component.{Component}
use Rattle.component_state.specs.declared.open_period.OpenPeriod.{OpenPeriod}
use Rattle.component_state.specs.Components.{lacks_configuration, needs_of, numbers_of}
use Rattle.component_state.specs.Inside.Misled.{is_misled}
use Rattle.component_state.specs.Inside.Ready.{IsPeriodOf}
use Rattle.component_state.specs.Passes.{Stage, closing, pass_order_of, satisfied_where}
use Rattle.component_state.specs.Periods.{is_open, open_after, opened_at}
use Rattle.component_state.specs.Reasons.{has_reason}
use Rattle.component_state.specs.Rows.{no_row, row_by, row_in, rows_of}
use Rattle.component_state.specs.Scratch.{is_satisfied}
use Rattle.component_state.proofs.Apart.{any_from, in_cases, in_none, keyed, kept_was, not_true, one_of}
use Rattle.component_state.proofs.Below.{number_of}
use Rattle.component_state.proofs.Plain.{pass_was}
use Rattle.component_state.proofs.ReasonLaws.{reasons_are}
use Rattle.component_state.proofs.Seen.{OfReferences, found_by, meets_direct, meets_interface, numbered_apart, of_references}
use Rattle.journal_core.specs.declared.entry.Entry.{Entry}
use Rattle.level_order.specs.Levels.{provides}
use Rattle.prop_map.specs.Words.{has, with_places}
use Rattle.reference_match.specs.declared.need.Need.{Need}
use Rattle.reference_match.specs.Needs.{need_of}
use Rattle.reference_match.specs.Targets.{is_greedy, is_met, is_static, meets}
use Rattle.scr_promises.proofs.ViewedReferences.{placed_was}
use Rattle.scr_laws.specs.Entries.{is_still_step}
use Rattle.scr_laws.specs.Opens.{has_leaving, meets_all}
use Rattle.scr_laws.specs.Sound.{IsSound}
use Rattle.scr_laws.proofs.Described.{legal_in_order}
use Rattle.scr_laws.proofs.Legal.{legal_scratch}
use Rattle.scr_laws.proofs.Listed.{none_kept}
use Rattle.scr_laws.proofs.Opening.{opens_each, satisfied_is}
use Rattle.scr_laws.proofs.Sounding.{legal_sound}
use Rattle.scr_laws.proofs.StillLaw.{legal_calm, legal_still}
use Rattle.scr_promises.proofs.Heights.{height, height_bound, provider_lower, top_of}
use Rattle.scr_promises.proofs.Waits.{all_from, all_to}
use Rattle.scr_promises.specs.Settlings.{NothingCloses, OnlySettles, ends_well, is_settling}
use Rattle.scr_promises.proofs.GrowingChoices.{SeesFine, misled_later, none_from, none_to}
use Rattle.scr_promises.proofs.GrowingServices.{SeesMore, met_later, sees_direct, sees_more}
use Rattle.scr_promises.proofs.SettlingEnds.{none_failing, origin_was}
use Rattle.scr_world.specs.Bounds.{has_static_greedy_on_component, is_calm}
use Rattle.scr_world.specs.Consequences.{stage_in, stage_of}
use Rattle.scr_world.specs.Legal.{IsLegal}
use Rattle.scr_world.specs.Lists.{world_after_entry, world_of}
use Rattle.scr_world.specs.Steps.{History}
use Rattle.scr_world.specs.Stepping.{components_by, failing, instances_by, periods_with, world_after_step}
use Rattle.scr_world.specs.Tables.{descriptions_of, documents_by, registry_by}
use Rattle.scr_world.specs.Whiteboard.{platform_rows}
use Rattle.scr_world.specs.Worlds.{direct_services, origins_of, registered_services, satisfied_in}
use Rattle.scr_world.specs.declared.contents.Contents.{Contents}
use Rattle.scr_world.specs.declared.step.Step.{Step}
use Rattle.scr_world.specs.declared.step.Step.TheVariants.{Command as Commanded, Begin, End, Drained, Got, Released}
use Rattle.scr_world.specs.declared.world.World.{World}
use Rattle.service_registry.specs.declared.row.ServiceRow.{ServiceRow}

-- ---- the service of an open period

-- the component configuration of an open period, whose service it offers
pub record IsOffered (cs : List Component) (p : OpenPeriod) : Type 0 where
  pub by : Component
  pub there : Contains cs by
  pub number : by.number ≡ p.configuration
  pub row : p.row ≡ row_by by p.row.id p.row.revision

pub is_offered : (w : World) → IsSound w → (p : OpenPeriod) → IsPeriodOf w.components p → IsOffered w.components p
is_offered w sound p is =
    let found = keyed number_of w.components p.configuration is.known in
    let c = found.0 in record {
      by = c;
      there = found.1;
      number = found.2;
      row = is.row ∙ ap (λ k. row_in w.components k p.row.id p.row.revision) (sym found.2)
          ∙ ap (λ o. option_map_or (λ d. row_by d p.row.id p.row.revision) o (no_row p.row.id p.row.revision)) (found_by number_of w.components (numbered_apart w.components sound.numbered) c found.1);
    }

-- ---- the end of a turn

module _ (limit : ℕ) (entry : Entry Step) (past : History) (legal : IsLegal limit (entry ∷ past)) (turn : ℕ) (outcome : Outcome) (is_end : entry.step ≡ End turn outcome) where
  abbrev w : World
  w = world_of past

  abbrev later : World
  later = world_of (entry ∷ past)

  abbrev now : List OpenPeriod
  now = later.open_periods

  abbrev s : Stage
  s = stage_of (End turn outcome) w

  sound : IsSound w
  sound = legal_sound limit past legal.1

  stays : OpenPeriod → Bool
  stays p = not (has entry.closed p.configuration)

  opened_now : List OpenPeriod
  opened_now = map (opened_at w.entries w.components) entry.opened

  now_is : now ≡ filter stays w.open_periods ++ opened_now
  unfolding world_of world_after_entry world_after_step stays opened_now
  now_is = ap (λ (st : Step). open_after w.entries (components_by st w) entry.closed entry.opened (periods_with st (components_by st w) w.open_periods)) is_end

  components_are : later.components ≡ w.components
  unfolding world_of world_after_entry world_after_step
  components_are = ap (λ (st : Step). components_by st w) is_end

  direct_are : direct_services later ≡ direct_services w
  unfolding world_of world_after_entry world_after_step
  direct_are = ap (λ (st : Step). platform_rows ++ (registry_by st w.registry).rows) is_end

  abbrev rows : List ServiceRow
  rows = direct_services w ++ rows_of now

  registered_are : registered_services later ≡ rows
  registered_are = ap (λ (ds : List ServiceRow). ds ++ rows_of now) direct_are

  satisfied_are : (number : ℕ) → has (satisfied_where s now) number ≡ has (satisfied_in later) number
  unfolding world_of world_after_entry stage_of stage_in satisfied_in
  satisfied_are number = ap (λ (st : Step). has (satisfied_where (stage_of st w) now) number) (sym is_end)

  reason : Component → Bool
  reason c = has_reason w.entries w.open_periods rows (satisfied_where s now) (origins_of (instances_by (End turn outcome) w)) (failing (End turn outcome) w) c

  closes : Component → Bool
  closes c = is_open w.open_periods c.number && reason c

  closed_are : entry.closed ≡ numbers_of (filter closes (pass_order_of s))
  unfolding world_of world_after_entry world_after_step stage_of stage_in closes reason
  closed_are = legal.0.closed ∙ ap (λ (st : Step). closing (stage_of st w) now) is_end

  ordered_was : (c : Component) → Contains (pass_order_of s) c → Contains w.components c
  unfolding stage_of stage_in world_after_step
  ordered_was c h = pass_was (descriptions_of w.documents) s.levels w.components (numbered_apart w.components sound.numbered) c h

  ordered_still : (c : Component) → Contains (pass_order_of s) c → Contains (pass_order_of (stage_in w [])) c
  unfolding stage_of stage_in world_after_step
  ordered_still c h = h

  module _ (well : list_all (ends_well turn outcome) w.instances ≡ true) (calm : is_calm w ≡ true) where
    module _ (c : Component) (ordered : Contains (pass_order_of s) c) (opened : is_open w.open_periods c.number ≡ true)
        (lower : (d : Component) → Contains w.components d → is_open w.open_periods d.number ≡ true → height w d < height w c → has entry.closed d.number ≡ false) where
      there : Contains w.components c
      there = ordered_was c ordered

      -- ---- its services stay

      provider_stays : (n : Need) → OfReferences c.description n → (p : OpenPeriod) → Contains w.open_periods p → meets n p.row ≡ true → stays p ≡ true
      unfolding stays
      provider_stays n of p h met =
          let by = is_offered w sound p (sound.periods p h) in
          let d = by.by in
          let row = row_by d p.row.id p.row.revision in
          let met_by : meets n row ≡ true = ap (meets n) (sym by.row) ∙ met in
          let open_by = any_from (λ (q : OpenPeriod). q.configuration == d.number) w.open_periods p h (eq-eqb p.configuration d.number (sym by.number)) in
          ap (λ k. not (has entry.closed k)) (sym by.number) ∙ ap not (lower d by.there open_by (stands_lower d by.there row refl refl met_by of))
        where
          stands_lower : (d : Component) → Contains w.components d → (row : ServiceRow) → row.interfaces ≡ d.description.service_interfaces → row.direct ≡ false → meets n row ≡ true
              → (n.direct_only ≡ true) ⊎ ((r : Reference) × Contains c.description.references r × (n.interface ≡ r.interface_name)) → height w d < height w c
          stands_lower d k row interfaces component met_by (inl only) = absurd (both_ways n.direct_only (meets_direct n row component met_by) only)
          stands_lower d k row interfaces component met_by (inr r) = provider_lower w sound d c k there r.0 r.1
              (ap (has_text d.description.service_interfaces) (sym r.2) ∙ ap (λ (is : List (List ℕ)). has_text is n.interface) (sym interfaces) ∙ meets_interface n row met_by)

      sees : (n : Need) → OfReferences c.description n → SeesMore n (registered_services w) rows
      sees n of = subst (λ (ps : List OpenPeriod). SeesMore n (registered_services w) (direct_services w ++ rows_of ps)) (sym now_is)
          (sees_more n (direct_services w) stays w.open_periods opened_now (provider_stays n of))

      -- ---- it stays satisfied

      met_before : meets_all w c ≡ true
      met_before = (and_parts (meets_all w c) (not (has w.failed c.number) && not (has_leaving w c.number))
          (sym (opens_each w (legal_in_order limit past legal.1) (legal_scratch limit past legal.1) c there) ∙ opened)).0

      exists_then : c.exists ≡ true
      exists_then = (and_parts c.exists (is_satisfied (registered_services w) c) met_before).0

      satisfied_now : is_satisfied rows c ≡ true
      satisfied_now =
          let was = and_parts (not (lacks_configuration c)) (list_all (is_met (registered_services w)) (needs_of c)) (and_parts c.exists (is_satisfied (registered_services w) c) met_before).1 in
          and_from (not (lacks_configuration c)) (list_all (is_met rows) (needs_of c)) was.0
          (all_from (is_met rows) (needs_of c) (λ n h.
          met_later n (registered_services w) rows (sees n (of_references c.description c.properties n h)) (all_to (is_met (registered_services w)) (needs_of c) was.1 n h)))

      satisfied_then : has (satisfied_where s now) c.number ≡ true
      satisfied_then =
          satisfied_are c.number
          ∙ satisfied_is later (legal_in_order limit (entry ∷ past) legal) (legal_scratch limit (entry ∷ past) legal) c.number
          ∙ any_from (λ (d : Component). (d.number == c.number) && meets_all later d) later.components c (subst (λ (cs : List Component). Contains cs c) (sym components_are) there)
          (and_from (c.number == c.number) (meets_all later c) (eq-eqb c.number c.number refl)
          (and_from c.exists (is_satisfied (registered_services later) c) exists_then (ap (λ (rs : List ServiceRow). is_satisfied rs c) registered_are ∙ satisfied_now)))

      -- ---- its choices stand

      none_provides : (r : Reference) → Contains c.description.references r → is_static r.policy ≡ true → is_greedy r.policy_option ≡ true → (d : Component) → Contains w.components d → provides d.description r.interface_name ≡ false
      none_provides r in_r static greedy d k =
          let ds = descriptions_of w.documents in
          let none = none_to (has_static_greedy_on_component ds) ds (not_true (list_any (has_static_greedy_on_component ds) ds) calm) c.description (sound.described c there) in
          let off = none_to (λ (q : Reference). is_static q.policy && (is_greedy q.policy_option && list_any (λ (e : Description). provides e q.interface_name) ds)) c.description.references none r in_r in
          none_to (λ (e : Description). provides e r.interface_name) ds (go (is_static r.policy) (is_greedy r.policy_option) (list_any (λ (e : Description). provides e r.interface_name) ds) static greedy off) d.description (sound.described d k)
        where
          go : (a b x : Bool) → a ≡ true → b ≡ true → (a && (b && x)) ≡ false → x ≡ false
          go true true x one two off = off
          go true false x one two off = cc
          go false b x one two off = cc

      none_meets : (r : Reference) → Contains c.description.references r → is_static r.policy ≡ true → is_greedy r.policy_option ≡ true → (p : OpenPeriod) → IsPeriodOf w.components p → meets (need_of c.properties r) p.row ≡ false
      none_meets r in_r static greedy p is =
          let by = is_offered w sound p is in
          let row = row_by by.by p.row.id p.row.revision in
          elim (cases_Bool (meets (need_of c.properties r) p.row)) [
            | inl on ↦ absurd (both_ways (provides by.by.description r.interface_name) (none_provides r in_r static greedy by.by by.there)
                (meets_interface (need_of c.properties r) row (ap (meets (need_of c.properties r)) (sym by.row) ∙ on)))
            | inr off ↦ off
          ]

      fine : (r : ℕ × Reference) → Contains (with_places 0 c.description.references) r → is_static r.1.policy ≡ true → SeesFine (need_of c.properties r.1) (registered_services w) rows
      fine r h static =
          let in_r = placed_was 0 c.description.references r.0 r.1 h in
          let n = need_of c.properties r.1 in record {
            sees = sees n (inr (r.1, in_r, refl));
            greedy = λ greedy.
                sees_direct n (direct_services w) now (λ p k. none_meets r.1 in_r static greedy p
                (subst (λ (cs : List Component). IsPeriodOf cs p) components_are ((legal_sound limit (entry ∷ past) legal).periods p k)))
                ∙ sym (sees_direct n (direct_services w) w.open_periods (λ p k. none_meets r.1 in_r static greedy p (sound.periods p k)));
          }

      led_before : list_any (is_misled w.entries w.open_periods (registered_services w) c) (origins_of w.instances) ≡ false
      unfolding stage_in
      led_before = (legal_calm limit past legal.1).rest.choices c opened (ordered_still c ordered)

      led : list_any (is_misled w.entries w.open_periods rows c) (origins_of (instances_by (End turn outcome) w)) ≡ false
      led = none_from (is_misled w.entries w.open_periods rows c) (origins_of (instances_by (End turn outcome) w)) (λ o h.
          misled_later c (registered_services w) rows fine w.entries w.open_periods o
          (none_to (is_misled w.entries w.open_periods (registered_services w) c) (origins_of w.instances) led_before o (origin_was turn outcome w o h)))

      -- ---- so it has no reason to close

      no_reason : reason c ≡ false
      unfolding reason
      no_reason =
          reasons_are w.entries w.open_periods rows (satisfied_where s now) (origins_of (instances_by (End turn outcome) w)) (failing (End turn outcome) w) c (λ met. exists_then)
          ∙ rw (satisfied_then, none_failing turn outcome w well, led) refl

    -- ---- level by level

    stays_open : (top : ℕ) (c : Component) → Contains w.components c → is_open w.open_periods c.number ≡ true → height w c < top → has entry.closed c.number ≡ false
    unfolding closes
    stays_open zero c h opened low = absurd (omega (arith, low))
    stays_open (suc top) c h opened low = elim (cases_Bool (has entry.closed c.number)) [
      | inr off ↦ off
      | inl on ↦ (
          let found = keyed number_of (filter closes (pass_order_of s)) c.number (ap (λ ns. has ns c.number) (sym closed_are) ∙ on) in
          let kept = kept_was closes (pass_order_of s) found.0 found.1 in
          let same : found.0 ≡ c = one_of number_of w.components (numbered_apart w.components sound.numbered) found.0 c (ordered_was found.0 kept.0) h found.2 in
          let both = and_parts (is_open w.open_periods found.0.number) (reason found.0) kept.1 in
          absurd (both_ways (reason found.0)
          (no_reason found.0 kept.0 both.0 (λ d k open_d lower. stays_open top d k open_d (let equal = ap (height w) same in omega (arith, low, lower, equal)))) both.1))
    ]

    pub closes_nothing : entry.closed ≡ []
    unfolding closes
    closes_nothing = closed_are ∙ ap numbers_of (none_kept closes (pass_order_of s) (λ c h. go c h (is_open w.open_periods c.number) refl))
      where
        go : (c : Component) → Contains (pass_order_of s) c → (b : Bool) → is_open w.open_periods c.number ≡ b → (b && reason c) ≡ false
        go c h false is = refl
        go c h true is = no_reason c h is (λ d k open_d lower. stays_open (top_of w + 1) d k open_d (height_bound w sound d k))

-- ---- an entry of a settling

calm_stays : (entry : Entry Step) (past : History) → is_settling entry.step (world_of past) ≡ true → is_calm (world_of past) ≡ true → is_calm (world_of (entry ∷ past)) ≡ true
unfolding world_of world_after_entry world_after_step
calm_stays entry past settles calm = ap (λ (ds : List Contents). is_calm_of ds) (go entry.step settles) ∙ calm
  where
    is_calm_of : List Contents → Bool
    is_calm_of = λ (cs : List Contents). let ds = descriptions_of cs in not (list_any (has_static_greedy_on_component ds) ds)

    go : (step : Step) → is_settling step (world_of past) ≡ true → documents_by step ((world_of past).bundles.numbered + 1) (world_of past).documents ≡ (world_of past).documents
    go (Commanded command) is = cc
    go (Begin turn instance configuration consumer callback chosen) is = refl
    go (End turn outcome) is = refl
    go (Drained instance) is = refl
    go (Got bundle service) is = refl
    go (Released place) is = refl

pub entry_closes_nothing : (limit : ℕ) (entry : Entry Step) (past : History) → IsLegal limit (entry ∷ past) → is_settling entry.step (world_of past) ≡ true → is_calm (world_of past) ≡ true → entry.closed ≡ []
entry_closes_nothing limit entry past legal settles calm = go entry.step refl settles
  where
    still : (step : Step) → entry.step ≡ step → is_still_step step (world_of past) ≡ true → entry.closed ≡ []
    still step is on = (legal_still limit entry past legal (ap (λ (st : Step). is_still_step st (world_of past)) is ∙ on)).0

    go : (step : Step) → entry.step ≡ step → is_settling step (world_of past) ≡ true → entry.closed ≡ []
    go (Commanded command) is on = cc
    go (Begin turn instance configuration consumer callback chosen) is on = still (Begin turn instance configuration consumer callback chosen) is refl
    go (End turn outcome) is on = closes_nothing limit entry past legal turn outcome is on calm
    go (Drained instance) is on = still (Drained instance) is refl
    go (Got bundle service) is on = cc
    go (Released place) is on = cc

-- ---- all of them

pub stays_calm : (past entries : History) → OnlySettles past entries → is_calm (world_of past) ≡ true → is_calm (world_of (entries ++ past)) ≡ true
stays_calm past [] settles calm = calm
stays_calm past (entry ∷ entries) settles calm = calm_stays entry (entries ++ past) settles.0 (stays_calm past entries settles.1 calm)

pub nothing_closes : (limit : ℕ) (past entries : History) → IsLegal limit (entries ++ past) → is_calm (world_of past) ≡ true → OnlySettles past entries → NothingCloses entries
nothing_closes limit past [] legal calm settles entry h = absurd (in_none entry h)
nothing_closes limit past (first ∷ entries) legal calm settles entry h = elim (in_cases first entries entry h) [
  | inl same ↦ ap (λ (e : Entry Step). e.closed) (sym same) ∙ entry_closes_nothing limit first (entries ++ past) legal settles.0 (stays_calm past entries settles.1 calm)
  | inr later ↦ nothing_closes limit past entries legal.1 calm settles.1 entry later
]
