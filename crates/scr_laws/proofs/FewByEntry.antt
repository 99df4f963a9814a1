-- An entry gives at most 512 numbers to component configurations, and 513 to services: as many as there are component configurations, and one.
use Rattle.std.proofs.Common.{◌≡◌, ◌≤◌, ◌+◌, ◌∙◌, ℕ, List, [], ◌∷◌, ◌++◌, Bool, true, false, cond, ap, arith, length, sym}
use Rattle.std.specs.List.{Contains, list_any}
use Rattle.std.specs.Prelude.{◌==◌, ◌&&◌, count_by, filter, map, not}
use Rattle.std.proofs.lemmas.List.Sums.{count_by-le-length}
use Rattle.component_state.specs.declared.component.Component.{Component}
use Rattle.component_state.specs.declared.open_period.OpenPeriod.{OpenPeriod}
use Rattle.component_state.specs.ComponentConfigurations.{component_after, is_same_component, new_components, with_number, with_numbers}
use Rattle.component_state.specs.Periods.{opened_at}
use Rattle.component_state.proofs.Apart.{in_first, in_rest, kept_from, kept_was, key_in, keyed, length_over, mapped_long, no_longer}
use Rattle.journal_core.specs.declared.entry.Entry.{Entry}
use Rattle.journal_core.specs.declared.entry.Opened.{Opened}
use Rattle.prop_map.specs.Words.{has}
use Rattle.scr_laws.specs.Askeds.{IsAsked}
use Rattle.scr_laws.proofs.ComponentLimits.{components_within}
use Rattle.scr_laws.proofs.Distinct.{world_live}
use Rattle.scr_laws.proofs.Histories.{legal_is_asked, remembers_living}
use Rattle.scr_laws.proofs.Legal.{open_lives}
use Rattle.scr_laws.proofs.Sounding.{legal_sound}
use Rattle.scr_laws.proofs.Tables.{tables_apart}
use Rattle.scr_laws.specs.Sound.{IsSound}
use Rattle.scr_world.specs.Legal.{IsLegal}
use Rattle.scr_world.specs.Lists.{world_after_entry, world_of}
use Rattle.scr_world.specs.Steps.{History}
use Rattle.scr_world.specs.Stepping.{component_configurations_by, components_added_by, components_by, counted_components, instances_by, is_counted, periods_with, world_after_step}
use Rattle.scr_world.specs.Tables.{bundles_by, configurations_by, documents_by, registry_by}
use Rattle.scr_world.specs.declared.command.Command.{Command}
use Rattle.scr_world.specs.declared.command.Command.TheVariants.{Register}
use Rattle.scr_world.specs.declared.instance.Instance.{Instance}
use Rattle.scr_world.specs.declared.step.Step.{Step}
use Rattle.scr_world.specs.declared.step.Step.TheVariants.{Command as Commanded}
use Rattle.scr_world.specs.declared.world.World.{World}
use Rattle.service_registry.specs.Registries.{Registered}

-- ---- component configurations: those that come are counted after it

kept_over : {X : Type 0} (t : X → Bool) (xs ys : List X) → length (filter t ys) ≤ length (filter t (xs ++ ys))
kept_over t [] ys = omega arith
kept_over t (x ∷ xs) ys = go (t x) (kept_over t xs ys)
  where
    go : (b : Bool) → length (filter t ys) ≤ length (filter t (xs ++ ys)) → length (filter t ys) ≤ length (cond b (x ∷ filter t (xs ++ ys)) (filter t (xs ++ ys)))
    go true rest = omega (arith, rest)
    go false rest = rest

-- those that exist are all counted, under whatever number
numbered_counted : (is : List Instance) (n : ℕ) (cs : List Component) → ((c : Component) → Contains cs c → c.exists ≡ true) → length cs ≤ length (filter (is_counted is) (with_numbers n cs))
numbered_counted is n [] live = omega arith
numbered_counted is n (c ∷ cs) live = go (is_counted is k) (remembers_living is k (live c (in_first c cs))) (numbered_counted is (n + 1) cs (λ d h. live d (in_rest c cs d h)))
  where
    k : Component
    k = record c { number = n; properties = with_number n c.properties }

    go : (b : Bool) → b ≡ true → length cs ≤ length (filter (is_counted is) (with_numbers (n + 1) cs)) → length (c ∷ cs) ≤ length (cond b (k ∷ filter (is_counted is) (with_numbers (n + 1) cs)) (filter (is_counted is) (with_numbers (n + 1) cs)))
    go true on rest = omega (arith, rest)
    go false off rest = cc

module _ (w : World) (asked : IsAsked w) (command : Command) where
  abbrev these : List Component
  these = component_configurations_by (Commanded command) w

  these_live : (a : Component) → Contains these a → a.exists ≡ true
  these_live =
      let apart = tables_apart (Commanded command) w.bundles w.documents w.configurations asked.apart in
      world_live (bundles_by (Commanded command) w.bundles).rows (documents_by (Commanded command) (w.bundles.numbered + 1) w.documents) (configurations_by (Commanded command) w.configurations) apart.one_configuration apart.one_document

  new_live : (a : Component) → Contains (new_components (counted_components w) these) a → a.exists ≡ true
  new_live a h = these_live a (kept_was (λ (b : Component). not (list_any (λ (c : Component). c.exists && is_same_component b c) (counted_components w))) these a h).0

  commanded_few : (is : List Instance) → components_added_by (Commanded command) w ≤ length (filter (is_counted is) (components_by (Commanded command) w))
  commanded_few is =
      let new = new_components (counted_components w) these in
      let all = numbered_counted is (w.components_numbered + 1) new new_live in
      let over = kept_over (is_counted is) (map (component_after w.entries these) (counted_components w)) (with_numbers (w.components_numbered + 1) new) in
      omega (arith, all, over)

added_few : (w : World) → IsAsked w → (is : List Instance) (step : Step) → length (filter (is_counted is) (components_by step w)) ≤ 512 → components_added_by step w ≤ 512
added_few w asked is (Commanded command) within = omega (arith, commanded_few w asked command is, within)
added_few w asked is step within = omega arith

pub components_more : (limit : ℕ) (entry : Entry Step) (past : History) → IsLegal limit (entry ∷ past) → components_added_by entry.step (world_of past) ≤ 512
unfolding world_of world_after_entry world_after_step
components_more limit entry past legal = added_few (world_of past) (legal_is_asked limit past legal.1) (instances_by entry.step (world_of past)) entry.step (components_within limit (entry ∷ past) legal)

-- ---- services: those of the component configurations that open, and one that a command registers

pub register_more : (step : Step) (r : Registered) → (registry_by step r).numbered ≤ r.numbered + 1
register_more (Commanded (Register bundle interfaces properties)) r = omega arith
register_more step r = omega arith

periods_few : (w : World) → IsSound w → length w.open_periods ≤ length (counted_components w)
periods_few w sound =
    let low = no_longer (map (λ (p : OpenPeriod). p.configuration) w.open_periods) (map (λ (c : Component). c.number) (counted_components w)) sound.plain.apart counted in
    let periods = mapped_long (λ (p : OpenPeriod). p.configuration) w.open_periods in
    let components = mapped_long (λ (c : Component). c.number) (counted_components w) in
    omega (arith, low, periods, components)
  where
    counted : (n : ℕ) → has (map (λ (p : OpenPeriod). p.configuration) w.open_periods) n ≡ true → has (map (λ (c : Component). c.number) (counted_components w)) n ≡ true
    counted n is =
        let p = keyed (λ (q : OpenPeriod). q.configuration) w.open_periods n is in
        let live = open_lives w sound.scratch p.0 p.1 in
        ap (has (map (λ (c : Component). c.number) (counted_components w))) (sym p.2 ∙ live.3)
        ∙ key_in (λ (c : Component). c.number) (counted_components w) live.0 (kept_from (is_counted w.instances) w.components live.0 live.1 (remembers_living w.instances live.0 live.2))

opened_are_open : (entry : Entry Step) (past : History) → length entry.opened ≤ length (world_of (entry ∷ past)).open_periods
unfolding world_of world_after_entry world_after_step
opened_are_open entry past =
    let w : World = world_of past in
    let cs = components_by entry.step w in
    let now = map (opened_at w.entries cs) entry.opened in
    let long = length_over (filter (λ (p : OpenPeriod). not (has entry.closed p.configuration)) (periods_with entry.step cs w.open_periods)) now in
    let same = mapped_long (opened_at w.entries cs) entry.opened in
    omega (arith, long, same)

opened_few : (limit : ℕ) (entry : Entry Step) (past : History) → IsLegal limit (entry ∷ past) → length entry.opened ≤ 512
opened_few limit entry past legal =
    let open_ones = opened_are_open entry past in
    let after = periods_few (world_of (entry ∷ past)) (legal_sound limit (entry ∷ past) legal) in
    let within = components_within limit (entry ∷ past) legal in
    omega (arith, open_ones, after, within)

pub services_more : (limit : ℕ) (entry : Entry Step) (past : History) → IsLegal limit (entry ∷ past)
    → (registry_by entry.step (world_of past).registry).numbered + count_by (λ (o : Opened). not (o.service == 0)) entry.opened ≤ (world_of past).registry.numbered + 513
services_more limit entry past legal =
    let one = register_more entry.step (world_of past).registry in
    let few = opened_few limit entry past legal in
    let counted = count_by-le-length (λ (o : Opened). not (o.service == 0)) entry.opened in
    omega (arith, one, few, counted)
