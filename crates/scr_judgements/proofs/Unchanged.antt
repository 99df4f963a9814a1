-- What is open where a command changed the properties of no component configuration.
use Rattle.std.proofs.Common.{◌≡◌, ◌+◌, ◌^◌, ◌<◌, ◌∙◌, ℕ, List, [], ◌∷◌, ◌++◌, ap, cond, refl, subst, sym, Bool, true, false, ◌||◌, Option, Some, None}
use Rattle.std.specs.Prelude.{◌==◌, find, map}
use Rattle.std.specs.List.{Contains, list_any}
use Rattle.std.specs.Option.{option_map_or}
use Rattle.std.proofs.lemmas.Bool.{both_ways, eq-eqb, eqb-true}
use Rattle.component_state.proofs.Apart.{any_from, in_left, kept_was}
use Rattle.component_state.specs.ComponentConfigurations.{as_configured, component_after, components_after, is_same_component, new_components, with_number, with_numbers}
use Rattle.component_state.specs.Components.{component_of, is_changed_at}
use Rattle.component_state.specs.Rows.{period_with_properties, published_by, row_with_properties, with_present_properties}
use Rattle.component_state.specs.declared.component.Component.{Component}
use Rattle.component_state.specs.declared.open_period.OpenPeriod.{OpenPeriod}
use Rattle.prop_map.specs.Sameness.{properties_decide, same_properties}
use Rattle.scr_judgements.specs.Asked.{IsOfLegal, is_command}
use Rattle.scr_laws.proofs.Calm.{of_number, one_of_number, open_lives}
use Rattle.scr_laws.proofs.Described.{legal_in_order}
use Rattle.scr_laws.proofs.Legal.{legal_scratch}
use Rattle.scr_laws.proofs.Listed.{found_is, in_mapped, kept_in, map_same}
use Rattle.scr_laws.proofs.NextNumbers.{few_components}
use Rattle.scr_laws.proofs.StillLaw.{legal_calm}
use Rattle.scr_laws.specs.Opens.{IsInOrder}
use Rattle.scr_state.specs.Keeps.{IsKept}
use Rattle.scr_state.specs.declared.state.State.{State}
use Rattle.scr_world.specs.Legal.{IsLegal}
use Rattle.scr_world.specs.Lists.{world_of}
use Rattle.scr_world.specs.Steps.{History, history_of}
use Rattle.scr_world.specs.Stepping.{component_configurations_by, components_by, counted_components, is_counted, periods_with}
use Rattle.scr_world.specs.declared.command.Command.{Command}
use Rattle.scr_world.specs.declared.instance.Instance.{Instance}
use Rattle.scr_world.specs.declared.step.Step.{Step}
use Rattle.scr_world.specs.declared.step.Step.TheVariants.{Command as Commanded, Begin, End, Drained, Got, Released}
use Rattle.scr_world.specs.declared.world.World.{World}

-- ---- one whose properties the entry at a place leaves publishes what it published

module _ (place : ℕ) (these : List Component) (c : Component) where
  same_number : (component_after place these c).number ≡ c.number
  same_number = go c.exists (find (is_same_component c) these)
    where
      go : (b : Bool) (o : Option Component) → (cond b (option_map_or (as_configured place c) o (record c { exists = false })) c).number ≡ c.number
      go false o = refl
      go true None = refl
      go true (Some a) = refl

  same_row : is_changed_at place (component_after place these c) ≡ false → (service : ℕ) → published_by (component_after place these c) service ≡ published_by c service
  same_row stays service = go c.exists (find (is_same_component c) these) stays
    where
      renewed : (a : Component) (b : Bool) → same_properties (with_number c.number a.properties) c.properties ≡ b → option_map_or (λ p. p == place) (cond b c.changed (Some place)) false ≡ false
          → with_number c.number a.properties ≡ c.properties
      renewed a true same still = (properties_decide (with_number c.number a.properties) c.properties).0 same
      renewed a false other still = absurd (both_ways (place == place) still (eq-eqb place place refl))

      go : (b : Bool) (o : Option Component) → is_changed_at place (cond b (option_map_or (as_configured place c) o (record c { exists = false })) c) ≡ false
          → published_by (cond b (option_map_or (as_configured place c) o (record c { exists = false })) c) service ≡ published_by c service
      go false o still = refl
      go true None still = refl
      go true (Some a) still = ap (λ properties. published_by (record c { properties = properties }) service) (renewed a (same_properties (with_number c.number a.properties) c.properties) refl still)

-- ---- the one of a number is that which it was

found_then : (f : Component → Component) → ((c : Component) → (f c).number ≡ c.number) → (n : ℕ) (cs news : List Component) (c : Component) → component_of cs n ≡ Some c → component_of (map f cs ++ news) n ≡ Some (f c)
found_then f same n [] news c is = absurd cc
found_then f same n (d ∷ cs) news c is = ap (λ k. cond (k == n) (Some (f d)) (component_of (map f cs ++ news) n)) (same d) ∙ go (λ later. found_then f same n cs news c later) (d.number == n) is
  where
    go : (component_of cs n ≡ Some c → component_of (map f cs ++ news) n ≡ Some (f c)) → (v : Bool) → cond v (Some d) (component_of cs n) ≡ Some c → cond v (Some (f d)) (component_of (map f cs ++ news) n) ≡ Some (f c)
    go rest true here = ap (λ (o : Option Component). option_map_or (λ x. Some (f x)) o None) here
    go rest false later = rest later

none_of : {X : Type 0} (t : X → Bool) (xs : List X) → list_any t xs ≡ false → (x : X) → Contains xs x → t x ≡ false
none_of t xs none x h = go (t x) refl
  where
    go : (b : Bool) → t x ≡ b → t x ≡ false
    go true is = absurd (both_ways (list_any t xs) none (any_from t xs x h is))
    go false is = is

module _ (limit : ℕ) (past : History) (legal : IsLegal limit past) (came : ℕ) (these : List Component)
    (none : list_any (is_changed_at (world_of past).entries) (components_after (world_of past).entries came these (counted_components (world_of past))) ≡ false) where
  abbrev w : World
  w = world_of past

  order : IsInOrder (world_of past)
  order = legal_in_order limit past legal

  abbrev after : List Component
  after = components_after (world_of past).entries came these (counted_components (world_of past))

  period_stays : (p : OpenPeriod) → Contains (world_of past).open_periods p → with_present_properties after p ≡ p
  period_stays p here =
      let was = of_number w.components p.configuration (order.periods p here).known in
      let open_now = any_from (λ (q : OpenPeriod). q.configuration == was.0.number) w.open_periods p here (eq-eqb p.configuration was.0.number (sym was.1.1)) in
      let lives = open_lives w (legal_scratch limit past legal) order.numbered was.0 open_now was.1.0 in
      let there = kept_in (is_counted w.instances) w.components was.0 was.1.0 (ap (λ b. b || list_any (λ (i : Instance). i.origin.configuration == was.0.number) w.instances) lives) in
      let found : component_of (counted_components w) p.configuration ≡ Some was.0 = found_is (λ (d : Component). d.number == p.configuration) (counted_components w) was.0 there (eq-eqb was.0.number p.configuration was.1.1)
      (λ d k e. one_of_number w.components order.numbered d was.0 (kept_was (is_counted w.instances) w.components d k).0 was.1.0 (eqb-true d.number p.configuration e ∙ sym was.1.1)) in
      let now = component_after w.entries these was.0 in
      let found_now : component_of after p.configuration ≡ Some (component_after w.entries these was.0) =
      found_then (component_after w.entries these) (same_number w.entries these) p.configuration (counted_components w) (with_numbers (came + 1) (new_components (counted_components w) these)) was.0 found in
      let stays = none_of (is_changed_at w.entries) after none (component_after w.entries these was.0)
      (in_left (map (component_after w.entries these) (counted_components w)) (with_numbers (came + 1) (new_components (counted_components w) these)) (component_after w.entries these was.0)
      (in_mapped (component_after w.entries these) (counted_components w) was.0 there)) in
      ap (λ o. option_map_or (period_with_properties p) o p) found_now
      ∙ ap (λ properties. record p { row = row_with_properties p.row properties }) (same_row w.entries these was.0 stays p.row.id)
      ∙ sym (ap (λ o. option_map_or (period_with_properties p) o p) found)
      ∙ (legal_calm limit past legal).renewed_all p here

  all_stay : map (with_present_properties after) (world_of past).open_periods ≡ (world_of past).open_periods
  all_stay = map_same (with_present_properties after) (world_of past).open_periods period_stays

-- ---- of a command

of_legal : (limit : ℕ) (past : History) → IsLegal limit past → (w : World) → w ≡ world_of past → (command : Command) → list_any (is_changed_at w.entries) (components_by (Commanded command) w) ≡ false
    → w.open_periods ≡ periods_with (Commanded command) (components_by (Commanded command) w) w.open_periods
of_legal limit past legal w is command =
    subst (λ (v : World). list_any (is_changed_at v.entries) (components_by (Commanded command) v) ≡ false → v.open_periods ≡ periods_with (Commanded command) (components_by (Commanded command) v) v.open_periods) (sym is)
    (λ none. sym (all_stay limit past legal (world_of past).components_numbered (component_configurations_by (Commanded command) (world_of past)) none))

by_command : (step : Step) (w : World) → is_command step ≡ true → IsOfLegal w → list_any (is_changed_at w.entries) (components_by step w) ≡ false → w.open_periods ≡ periods_with step (components_by step w) w.open_periods
by_command (Commanded command) w e legal none = of_legal legal.limit legal.past legal.legal w legal.is command none
by_command (Begin turn instance configuration consumer callback chosen) w e legal none = absurd cc
by_command (End turn outcome) w e legal none = absurd cc
by_command (Drained instance) w e legal none = absurd cc
by_command (Got bundle service) w e legal none = absurd cc
by_command (Released place) w e legal none = absurd cc

-- where these are the component configurations after it
pub periods_last : (step : Step) (w : World) (cs : List Component) → is_command step ≡ true → IsOfLegal w → cs ≡ components_by step w → list_any (is_changed_at w.entries) cs ≡ false → w.open_periods ≡ periods_with step cs w.open_periods
periods_last step w cs e legal are none =
    subst (λ (xs : List Component). list_any (is_changed_at w.entries) xs ≡ false → w.open_periods ≡ periods_with step xs w.open_periods) (sym are) (λ off. by_command step w e legal off) none

pub kept_legal : (s : State) → IsKept s → IsOfLegal s.world
kept_legal s kept = record {
  limit = kept.journal.limit;
  past = history_of kept.journal.entries;
  legal = kept.keeps.legal;
  small = kept.keeps.small;
  is = kept.keeps.world;
}

-- it has given few numbers to component configurations
pub few_of_legal : (w : World) → IsOfLegal w → w.components_numbered < 2 ^ 63
few_of_legal w legal = subst (λ (v : World). v.components_numbered < 2 ^ 63) (sym legal.is) (few_components legal.limit legal.past legal.legal legal.small)
