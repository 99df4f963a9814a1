-- Worlds of legal histories are calm.
use Rattle.std.proofs.Common.{◌≡◌, ◌≤◌, ◌<◌, ℕ, zero, suc, ◌+◌, List, [], ◌∷◌, ◌++◌, ap, arith, sym, ◌∙◌, refl, subst, cond, Bool, true, false, ◌&&◌, ◌||◌, inl, inr, ◌⊎◌, Option, Some, None}
use Rattle.std.specs.Prelude.{filter, find, map, not, ◌==◌, is_none}
use Rattle.std.specs.List.{Contains, list_any}
use Rattle.std.specs.Option.{option_map_or}
use Rattle.std.proofs.lemmas.Bool.{and_parts, both_ways, cases_Bool, eq-eqb, eqb-true, not-true}
use Rattle.component_dto.specs.declared.description.Description.{Description}
use Rattle.component_state.specs.declared.component.Component.{Component}
use Rattle.component_state.specs.declared.origin.Origin.{Origin}
use Rattle.component_state.specs.declared.open_period.OpenPeriod.{OpenPeriod}
use Rattle.component_state.specs.ComponentConfigurations.{as_configured, is_same_component, component_after, new_components, with_numbers, with_number}
use Rattle.component_state.specs.Components.{are_numbered, component_of, pass_order_below, is_changed_at, existing, numbers_of, of_level, level_of, level_count}
use Rattle.component_state.specs.Marks.{held_back}
use Rattle.component_state.specs.Inside.Misled.{chose_outdated, is_misled}
use Rattle.component_state.specs.Passes.{pass_order_of, services_in}
use Rattle.component_state.specs.Inside.Ready.{IsPeriodOf}
use Rattle.component_state.specs.Periods.{is_current, is_open}
use Rattle.component_state.specs.Rows.{published_by, with_present_properties, period_with_properties, row_by, no_row}
use Rattle.component_state.specs.Scratch.{is_satisfied, offered, offering, satisfied, satisfied_below}
use Rattle.journal_core.specs.declared.entry.Entry.{Entry}
use Rattle.prop_map.specs.Sameness.{properties_decide, same_properties}
use Rattle.prop_map.specs.Words.{has}
use Rattle.scr_world.specs.declared.step.Step.{Step}
use Rattle.scr_world.specs.declared.step.Step.TheVariants.{Command as Commanded, Begin, End, Drained, Got, Released}
use Rattle.scr_world.specs.declared.instance.Instance.{Instance}
use Rattle.scr_world.specs.declared.world.World.{World}
use Rattle.scr_world.specs.Consequences.{stage_in, stage_of}
use Rattle.scr_world.specs.Legal.{Follows, IsLegal, IsOpenFromScratch}
use Rattle.scr_world.specs.Levels.{levels_of}
use Rattle.scr_world.specs.Lists.{world_after_entry, world_of}
use Rattle.scr_world.specs.Steps.{History}
use Rattle.scr_world.specs.Stepping.{component_configurations_by, components_by, is_counted, counted_components, world_after_step}
use Rattle.scr_world.specs.Tables.{bundle_rows, bundles_by, configurations_by, descriptions_of, documents_by}
use Rattle.scr_world.specs.Worlds.{direct_services, origins_of, satisfied_in as satisfied_at}
use Rattle.service_registry.specs.declared.row.ServiceRow.{ServiceRow}
use Rattle.scr_laws.specs.Stills.{IsKnown, is_misled_in}
use Rattle.scr_laws.proofs.ChoicesStand.{choices_stand}
use Rattle.component_state.proofs.Apart.{any_from, in_cases, in_either, in_first, in_none, in_rest, kept_was}
use Rattle.scr_laws.proofs.Stillness.{number_in}
use Rattle.scr_laws.specs.Askeds.{IsAsked}
use Rattle.scr_laws.specs.Calms.{AreBehind}
use Rattle.scr_laws.proofs.Distinct.{asked_unchanged}
use Rattle.scr_laws.proofs.Histories.{legal_is_asked}
use Rattle.scr_laws.proofs.Tables.{tables_apart}
use Rattle.scr_laws.specs.Entries.{passed_by}
use Rattle.scr_laws.proofs.Listed.{any_was, found_is, kept_in, mapped_was}
use Rattle.scr_laws.proofs.Passing.{follows_passes}
use Rattle.scr_laws.proofs.StoppingBundles.{any_within}

-- ---- numbers

pub one_of_number : (cs : List Component) → are_numbered cs ≡ true → (c d : Component) → Contains cs c → Contains cs d → c.number ≡ d.number → c ≡ d
one_of_number [] told c d h k same = absurd (in_none c h)
one_of_number (x ∷ xs) told c d h k same = let both = and_parts (not (has (numbers_of xs) x.number)) (are_numbered xs) told in go (not-true (has (numbers_of xs) x.number) both.0) (in_cases x xs c h) (in_cases x xs d k) (λ l r. one_of_number xs both.1 c d l r same)
  where
    go : has (numbers_of xs) x.number ≡ false → (x ≡ c) ⊎ Contains xs c → (x ≡ d) ⊎ Contains xs d → (Contains xs c → Contains xs d → c ≡ d) → c ≡ d
    go off (inl l) (inl r) later = sym l ∙ r
    go off (inl l) (inr r) later = absurd (both_ways (has (numbers_of xs) x.number) off (ap (has (numbers_of xs)) (ap (λ (e : Component). e.number) l ∙ same) ∙ number_in xs d r))
    go off (inr l) (inl r) later = absurd (both_ways (has (numbers_of xs) x.number) off (ap (has (numbers_of xs)) (ap (λ (e : Component). e.number) r ∙ sym same) ∙ number_in xs c l))
    go off (inr l) (inr r) later = later l r

pub found_of : (cs : List Component) → are_numbered cs ≡ true → (c : Component) → Contains cs c → component_of cs c.number ≡ Some c
found_of cs told c here = found_is (λ (d : Component). d.number == c.number) cs c here (eq-eqb c.number c.number refl) (λ d there e. one_of_number cs told d c there here (eqb-true d.number c.number e))

pub of_number : (cs : List Component) (n : ℕ) → has (numbers_of cs) n ≡ true → (c : Component) × (Contains cs c × (c.number ≡ n))
of_number cs n e =
    let number = any_was (λ m. m == n) (map (λ (c : Component). c.number) cs) e in
    let was = mapped_was (λ (c : Component). c.number) cs number.0 number.1.0 in
    (was.0, (was.1.0, was.1.1 ∙ eqb-true number.0 n number.1.1))

order_among : (ds : List Description) (levels : List ℕ) (cs : List Component) (n : ℕ) (c : Component) → Contains (pass_order_below ds levels cs n) c → Contains cs c
order_among ds levels cs zero c h = absurd (in_none c h)
order_among ds levels cs (suc n) c h = elim (in_either (pass_order_below ds levels cs n) (of_level ds levels cs n) c h) [
  | inl l ↦ order_among ds levels cs n c l
  | inr r ↦ (kept_was (λ d. level_of ds levels d == n) cs c r).0
]

pub known : (w : World) → are_numbered w.components ≡ true → IsKnown w
unfolding stage_in
known w told = let ds = descriptions_of w.documents in record {
  there = λ c h. order_among ds (levels_of ds) w.components (suc (level_count (levels_of ds))) c h;
  found = λ c h. found_of w.components told c (order_among ds (levels_of ds) w.components (suc (level_count (levels_of ds))) c h);
}

-- ---- what is open lives

satisfied_among : (ds : List Description) (levels : List ℕ) (direct : List ServiceRow) (open_ones : List OpenPeriod) (cs : List Component) (out : List ℕ) (n : ℕ) (c : Component) → Contains (satisfied_below ds levels direct open_ones cs out n) c → Contains cs c
satisfied_among ds levels direct open_ones cs out zero c h = absurd (in_none c h)
satisfied_among ds levels direct open_ones cs out (suc n) c h =
    elim (in_either (satisfied_below ds levels direct open_ones cs out n) (filter (is_satisfied (direct ++ map (offered open_ones) (offering out (satisfied_below ds levels direct open_ones cs out n)))) (of_level ds levels cs n)) c h) [
      | inl l ↦ satisfied_among ds levels direct open_ones cs out n c l
      | inr r ↦ (kept_was (λ c. level_of ds levels c == n) cs c (kept_was (is_satisfied (direct ++ map (offered open_ones) (offering out (satisfied_below ds levels direct open_ones cs out n)))) (of_level ds levels cs n) c r).0).0
    ]

satisfied_live : (w : World) (n : ℕ) → has (satisfied_at w) n ≡ true → (c : Component) × (Contains w.components c × ((c.number ≡ n) × (c.exists ≡ true)))
unfolding satisfied_at
satisfied_live w n e =
    let ds = descriptions_of w.documents in let out = held_back w.failed w.open_periods (origins_of w.instances) in
    let was = of_number (satisfied ds (levels_of ds) (direct_services w) w.open_periods w.components out) n e in
    let lives = kept_was (λ (c : Component). c.exists) w.components was.0 (satisfied_among ds (levels_of ds) (direct_services w) w.open_periods (existing w.components) out (suc (level_count (levels_of ds))) was.0 was.1.0) in
    (was.0, (lives.0, (was.1.1, lives.1)))

pub open_lives : (w : World) → IsOpenFromScratch w → are_numbered w.components ≡ true → (c : Component) → is_open w.open_periods c.number ≡ true → Contains w.components c → c.exists ≡ true
open_lives w scratch told c opened here =
    let was = satisfied_live w c.number (and_parts (has (satisfied_at w) c.number) (not (has (held_back w.failed w.open_periods (origins_of w.instances)) c.number)) (sym (scratch c.number) ∙ opened)).0 in
    subst (λ (d : Component). d.exists ≡ true) (one_of_number w.components told was.0 c was.1.0 here was.1.1.0) was.1.1.1

-- ---- each change lies behind

kept_behind : (place : ℕ) (these : List Component) (c : Component) → ((p : ℕ) → c.changed ≡ Some p → p < place) → (p : ℕ) → (component_after place these c).changed ≡ Some p → p < suc place
kept_behind place these c behind p e = go c.exists (find (is_same_component c) these) e
  where
    some_is : (a b : ℕ) → Some a ≡ Some b → a ≡ b
    some_is a b same = cc

    old : (q : ℕ) → c.changed ≡ Some q → q < suc place
    old q same = omega (arith, behind q same)

    renewed_or : (b : Bool) → cond b c.changed (Some place) ≡ Some p → p < suc place
    renewed_or true same = old p same
    renewed_or false same = omega (arith, some_is place p same)

    go : (b : Bool) (o : Option Component) → (cond b (option_map_or (as_configured place c) o (record c { exists = false })) c).changed ≡ Some p → p < suc place
    go false o same = old p same
    go true None same = old p same
    go true (Some a) same = renewed_or (same_properties (with_number c.number a.properties) c.properties) same

numbered_unchanged : (number : ℕ) (cs : List Component) → ((a : Component) → Contains cs a → a.changed ≡ None) → (c : Component) → Contains (with_numbers number cs) c → c.changed ≡ None
numbered_unchanged number [] each c h = absurd (in_none c h)
numbered_unchanged number (a ∷ cs) each c h = elim (in_cases (record a { number = number; properties = with_number number a.properties }) (with_numbers (number + 1) cs) c h) [
  | inl same ↦ ap (λ (d : Component). d.changed) (sym same) ∙ each a (in_first a cs)
  | inr later ↦ numbered_unchanged (number + 1) cs (λ b k. each b (in_rest a cs b k)) c later
]

-- ---- the services of component configurations have their properties

pub periods_renewed : (w : World) → IsOpenFromScratch w → are_numbered w.components ≡ true → ((p : OpenPeriod) → Contains w.open_periods p → IsPeriodOf w.components p) → (p : OpenPeriod) → Contains w.open_periods p → with_present_properties (counted_components w) p ≡ p
periods_renewed w scratch told periods p here =
    let was = of_number w.components p.configuration (periods p here).known in
    let open_now = any_from (λ (q : OpenPeriod). q.configuration == was.0.number) w.open_periods p here (eq-eqb p.configuration was.0.number (sym was.1.1)) in
    let lives = open_lives w scratch told was.0 open_now was.1.0 in
    let there = kept_in (is_counted w.instances) w.components was.0 was.1.0 (ap (λ b. b || list_any (λ (i : Instance). i.origin.configuration == was.0.number) w.instances) lives) in
    let found : component_of (counted_components w) p.configuration ≡ Some was.0 = found_is (λ (d : Component). d.number == p.configuration) (counted_components w) was.0 there (eq-eqb was.0.number p.configuration was.1.1)
    (λ d k e. one_of_number w.components told d was.0 (kept_was (is_counted w.instances) w.components d k).0 was.1.0 (eqb-true d.number p.configuration e ∙ sym was.1.1)) in
    let known_as : component_of w.components p.configuration ≡ Some was.0 = ap (component_of w.components) (sym was.1.1) ∙ found_of w.components told was.0 was.1.0 in
    let row = (periods p here).row ∙ ap (λ o. option_map_or (λ c. row_by c p.row.id p.row.revision) o (no_row p.row.id p.row.revision)) known_as in
    ap (λ o. option_map_or (period_with_properties p) o p) found
    ∙ ap (λ b. record p { row = cond b p.row (record p.row { properties = published_by was.0 p.row.id; revision = p.row.revision + 1 }) })
    ((properties_decide (published_by was.0 p.row.id) p.row.properties).1 (sym (ap (λ (r : ServiceRow). r.properties) row)))

-- ---- choices stand after an entry

module _ (limit : ℕ) (entry : Entry Step) (past : History) (follows : Follows limit entry past)
    (created : (l : Origin) → Contains (origins_of (world_after_step entry.step (world_of past)).instances) l → l.created ≤ (world_of past).entries)
    (behind : (c : Component) → Contains (world_after_entry entry (world_of past)).components c → is_changed_at (world_after_entry entry (world_of past)).entries c ≡ false) where
  then_w : World
  then_w = world_after_entry entry (world_of past)

  stood : (c : Component) → Contains (pass_order_of (stage_of entry.step (world_of past))) c → list_any (is_misled_in (stage_of entry.step (world_of past)) then_w.open_periods c) (origins_of (world_after_step entry.step (world_of past)).instances) ≡ false
  unfolding stage_of stage_in then_w world_after_step
  stood = choices_stand (stage_of entry.step (world_of past)) (passed_by entry (world_of past)) (follows_passes limit entry past follows) created

  one_stands : (c : Component) → Contains then_w.components c → (l : Origin) → is_misled then_w.entries then_w.open_periods (services_in (stage_in then_w []) then_w.open_periods) c l ≡ is_misled_in (stage_of entry.step (world_of past)) then_w.open_periods c l
  unfolding stage_of stage_in then_w world_after_entry world_after_step
  one_stands c here l = ap (λ b. (l.configuration == c.number) && ((b && is_none c.description.modified) || (is_current (world_after_entry entry (world_of past)).open_periods l && chose_outdated (services_in (stage_in (world_after_entry entry (world_of past)) []) (world_after_entry entry (world_of past)).open_periods) c l))) (behind c here)

  choices_then : (c : Component) → Contains (pass_order_of (stage_in then_w [])) c → list_any (is_misled then_w.entries then_w.open_periods (services_in (stage_in then_w []) then_w.open_periods) c) (origins_of then_w.instances) ≡ false
  unfolding stage_of stage_in then_w world_after_entry world_after_step
  choices_then c ordered = let ds = descriptions_of then_w.documents in
      any_within (is_misled then_w.entries then_w.open_periods (services_in (stage_in then_w []) then_w.open_periods) c) (is_misled_in (stage_of entry.step (world_of past)) then_w.open_periods c) (origins_of then_w.instances)
      (λ l h. one_stands c (order_among ds (levels_of ds) then_w.components (suc (level_count (levels_of ds))) c ordered) l)
      ∙ stood c ordered

pub choices_stand_then : (limit : ℕ) (entry : Entry Step) (past : History) → Follows limit entry past
    → ((l : Origin) → Contains (origins_of (world_after_step entry.step (world_of past)).instances) l → l.created ≤ (world_of past).entries)
    → ((c : Component) → Contains (world_after_entry entry (world_of past)).components c → is_changed_at (world_after_entry entry (world_of past)).entries c ≡ false)
    → (c : Component) → Contains (pass_order_of (stage_in (world_after_entry entry (world_of past)) [])) c
    → list_any (is_misled (world_after_entry entry (world_of past)).entries (world_after_entry entry (world_of past)).open_periods (services_in (stage_in (world_after_entry entry (world_of past)) []) (world_after_entry entry (world_of past)).open_periods) c) (origins_of (world_after_entry entry (world_of past)).instances) ≡ false
unfolding then_w world_after_entry
choices_stand_then limit entry past follows created behind c ordered = choices_then limit entry past follows created behind c ordered

-- ---- each change lies behind, in every world

module _ (w : World) (asked : IsAsked w) (behind : AreBehind w) where
  behind_by : (step : Step) (c : Component) → Contains (components_by step w) c → (p : ℕ) → c.changed ≡ Some p → p < suc w.entries
  behind_by (Commanded command) c h p e = elim (in_either (map (component_after w.entries these) (counted_components w)) (with_numbers (w.components_numbered + 1) (new_components (counted_components w) these)) c h) [
    | inl old ↦ (let was = mapped_was (component_after w.entries these) (counted_components w) c old in
        kept_behind w.entries these was.0 (behind was.0 (kept_was (is_counted w.instances) w.components was.0 was.1.0).0) p (ap (λ (d : Component). d.changed) was.1.1 ∙ e))
    | inr new ↦ (let none = numbered_unchanged (w.components_numbered + 1) (new_components (counted_components w) these) (λ a k. asked_unchanged (bundle_rows (bundles_by (Commanded command) w.bundles).rows (documents_by (Commanded command) (w.bundles.numbered + 1) w.documents)) (configurations_by (Commanded command) w.configurations)
        (tables_apart (Commanded command) w.bundles w.documents w.configurations asked.apart).one_configuration a (kept_was (λ (b : Component). not (list_any (λ (d : Component). d.exists && is_same_component b d) (counted_components w))) these a k).0) c new in absurd (never (sym none ∙ e)))
  ]
    where
      these : List Component
      these = component_configurations_by (Commanded command) w

      never : None ≡ Some p → ⊥
      never same = cc
  behind_by (Begin turn instance configuration consumer callback chosen) c h p e = omega (arith, behind c h p e)
  behind_by (End turn outcome) c h p e = omega (arith, behind c h p e)
  behind_by (Drained instance) c h p e = omega (arith, behind c h p e)
  behind_by (Got bundle service) c h p e = omega (arith, behind c h p e)
  behind_by (Released place) c h p e = omega (arith, behind c h p e)

  behind_after : (entry : Entry Step) → AreBehind (world_after_entry entry w)
  unfolding world_after_entry world_after_step
  behind_after entry c h p e = subst (λ n. p < n) (let one : suc w.entries ≡ w.entries + 1 = omega arith in one) (behind_by entry.step c h p e)

pub legal_is_behind : (limit : ℕ) (past : History) → IsLegal limit past → AreBehind (world_of past)
unfolding world_of
legal_is_behind limit [] legal c h = absurd (in_none c h)
legal_is_behind limit (entry ∷ past) legal c h = behind_after (world_of past) (legal_is_asked limit past legal.1) (legal_is_behind limit past legal.1) entry c h

pub not_changed_now : (w : World) → AreBehind w → (c : Component) → Contains w.components c → is_changed_at w.entries c ≡ false
not_changed_now w behind c here = go c.changed refl
  where
    apart : (p : ℕ) → p < w.entries → (p == w.entries) ≡ false
    apart p low = elim (cases_Bool (p == w.entries)) [
      | inl same ↦ (let e : p ≡ w.entries = eqb-true p w.entries same in absurd (omega (arith, low, e)))
      | inr other ↦ other
    ]

    go : (o : Option ℕ) → c.changed ≡ o → option_map_or (λ p. p == w.entries) o false ≡ false
    go None e = refl
    go (Some p) e = apart p (behind c here p e)
