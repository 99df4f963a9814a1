-- A command that leaves bundles, documents, services and configurations looks to its pass as a quiet step of the world without those that it forgets.
use Rattle.std.proofs.Common.{◌≡◌, ℕ, zero, suc, ◌+◌, List, [], ◌∷◌, ap, sym, ◌∙◌, refl, subst, cond, Bool, true, false, ◌&&◌, ◌||◌, inl, inr}
use Rattle.std.specs.Prelude.{filter, map, not, ◌==◌}
use Rattle.std.specs.List.{Contains, list_any}
use Rattle.std.proofs.lemmas.Bool.{both_ways}
use Rattle.component_dto.specs.declared.description.Description.{Description}
use Rattle.component_state.specs.declared.component.Component.{Component}
use Rattle.component_state.specs.declared.open_period.OpenPeriod.{OpenPeriod}
use Rattle.component_state.specs.ComponentConfigurations.{components_after}
use Rattle.component_state.specs.Components.{pass_order_below, existing, numbers_of, of_level, level_of, level_count}
use Rattle.component_state.specs.Marks.{failed_after, held_back}
use Rattle.component_state.specs.Passes.{Stage}
use Rattle.component_state.specs.Rows.{with_present_properties}
use Rattle.component_state.specs.Scratch.{satisfied_below}
use Rattle.prop_map.specs.Words.{has}
use Rattle.scr_world.specs.declared.step.Step.TheVariants.{Command as Commanded, Got}
use Rattle.scr_world.specs.declared.command.Command.TheVariants.{Get, Unget, Listen, Unlisten}
use Rattle.scr_world.specs.declared.instance.Instance.{Instance}
use Rattle.scr_world.specs.declared.world.World.{World}
use Rattle.scr_world.specs.Consequences.{stage_in, stage_of}
use Rattle.scr_world.specs.Levels.{levels_of}
use Rattle.scr_world.specs.Stepping.{is_counted, counted_components, world_after_step}
use Rattle.scr_world.specs.Tables.{descriptions_of}
use Rattle.scr_world.specs.Worlds.{direct_services, origins_of, satisfied_in as satisfied_at}
use Rattle.scr_laws.specs.Stills.{IsAtRest, IsStill}
use Rattle.scr_laws.proofs.QuietSteps.{leaves_stage}
use Rattle.component_state.proofs.Apart.{in_either, in_none, kept_was}
use Rattle.scr_laws.proofs.Stillness.{is_still, same_lives}
use Rattle.ldap_filter.specs.declared.filter.Filter.{Filter}
use Rattle.scr_laws.specs.Askeds.{IsAsked, asked_in}
use Rattle.scr_laws.proofs.Histories.{asking_leaves}
use Rattle.scr_laws.proofs.Listed.{in_left, in_right, kept_in, map_same}

kept_among : {X : Type 0} (p t : X → Bool) (xs : List X) → ((x : X) → p x ≡ true → t x ≡ true) → filter p (filter t xs) ≡ filter p xs
kept_among p t [] each = refl
kept_among p t (x ∷ xs) each = go (p x) (t x) refl refl (kept_among p t xs each)
  where
    go : (a b : Bool) → p x ≡ a → t x ≡ b → filter p (filter t xs) ≡ filter p xs → filter p (cond b (x ∷ filter t xs) (filter t xs)) ≡ cond a (x ∷ filter p xs) (filter p xs)
    go true true on kept rest = ap (λ k. cond k (x ∷ filter p (filter t xs)) (filter p (filter t xs))) on ∙ ap (λ ys. x ∷ ys) rest
    go false true off kept rest = ap (λ k. cond k (x ∷ filter p (filter t xs)) (filter p (filter t xs))) off ∙ rest
    go true false on gone rest = absurd (both_ways (t x) gone (each x on))
    go false false off gone rest = rest

order_within : (ds : List Description) (levels : List ℕ) (t : Component → Bool) (cs : List Component) (n : ℕ) (c : Component) → Contains (pass_order_below ds levels (filter t cs) n) c → Contains (pass_order_below ds levels cs n) c
order_within ds levels t cs zero c h = absurd (in_none c h)
order_within ds levels t cs (suc n) c h = elim (in_either (pass_order_below ds levels (filter t cs) n) (of_level ds levels (filter t cs) n) c h) [
  | inl l ↦ in_left (pass_order_below ds levels cs n) (of_level ds levels cs n) c (order_within ds levels t cs n c l)
  | inr r ↦ (let was = kept_was (λ d. level_of ds levels d == n) (filter t cs) c r in in_right (pass_order_below ds levels cs n) (of_level ds levels cs n) c (kept_in (λ d. level_of ds levels d == n) cs c (kept_was t cs c was.0).0 was.1))
]

-- a world without those that the next command forgets
without_forgotten : World → World
without_forgotten w = record w { components = counted_components w }

living_remain : (w : World) → existing (counted_components w) ≡ existing w.components
living_remain w = kept_among (λ (c : Component). c.exists) (is_counted w.instances) w.components (λ c on. ap (λ b. b || list_any (λ (i : Instance). i.origin.configuration == c.number) w.instances) on)

satisfied_remain : (w : World) → satisfied_at (without_forgotten w) ≡ satisfied_at w
unfolding satisfied_at without_forgotten
satisfied_remain w = let ds = descriptions_of w.documents in
    ap (λ cs. numbers_of (satisfied_below ds (levels_of ds) (direct_services w) w.open_periods cs (held_back w.failed w.open_periods (origins_of w.instances)) (suc (level_count (levels_of ds))))) (living_remain w)

rest_remains : (w : World) → IsAtRest w → IsAtRest (without_forgotten w)
unfolding without_forgotten stage_in
rest_remains w rest = let ds = descriptions_of w.documents in record {
  scratch = λ n. rest.scratch n ∙ ap (λ ns. has ns n && not (has (held_back w.failed w.open_periods (origins_of w.instances)) n)) (sym (satisfied_remain w));
  living = λ c was here. rest.living c was (order_within ds (levels_of ds) (is_counted w.instances) w.components (suc (level_count (levels_of ds))) c here);
  choices = λ c was here. rest.choices c was (order_within ds (levels_of ds) (is_counted w.instances) w.components (suc (level_count (levels_of ds))) c here);
  behind = λ c here. rest.behind c (kept_was (is_counted w.instances) w.components c here).0;
}

stage_with : World → List Component → List OpenPeriod → List ℕ → Stage
stage_with w cs open_ones satisfied = let ds = descriptions_of w.documents in record {
  place = w.entries;
  next = w.registry.numbered + 1;
  descriptions = ds;
  levels = levels_of ds;
  direct = direct_services w;
  components = cs;
  open_before = open_ones;
  origins = origins_of w.instances;
  failed = failed_after w.entries satisfied cs [] w.failed;
  failing = [];
}

quiet_stage : (w : World) → stage_of (Got 0 0) (without_forgotten w) ≡ stage_with w (counted_components w) w.open_periods (satisfied_at (without_forgotten w))
unfolding stage_of stage_in world_after_step without_forgotten stage_with
quiet_stage w = refl

module _ (w : World) (rest : IsAtRest w) (asked : IsAsked w) (same : (p : OpenPeriod) → Contains w.open_periods p → with_present_properties (counted_components w) p ≡ p) where
  asked_stay : components_after w.entries w.components_numbered (asked_in w) (counted_components w) ≡ counted_components w
  asked_stay = asking_leaves w asked w.entries w.components_numbered

  remaining_still : IsStill (stage_with w (counted_components w) w.open_periods (satisfied_at (without_forgotten w)))
  remaining_still = subst IsStill (quiet_stage w) (is_still (Got 0 0) (without_forgotten w) (rest_remains w rest) (same_lives (Got 0 0) (without_forgotten w) (rest_remains w rest) (leaves_stage (Got 0 0) (without_forgotten w) refl)))

  asked_still : IsStill (stage_with w (components_after w.entries w.components_numbered (asked_in w) (counted_components w)) (map (with_present_properties (components_after w.entries w.components_numbered (asked_in w) (counted_components w))) w.open_periods) (satisfied_at w))
  asked_still = subst IsStill (sym (
      ap (λ cs. stage_with w cs (map (with_present_properties cs) w.open_periods) (satisfied_at w)) asked_stay
      ∙ ap (λ ps. stage_with w (counted_components w) ps (satisfied_at w)) (map_same (with_present_properties (counted_components w)) w.open_periods same)
      ∙ ap (λ ns. stage_with w (counted_components w) w.open_periods ns) (sym (satisfied_remain w)))) remaining_still

  pub get_still : (bundle service : ℕ) → IsStill (stage_of (Commanded (Get bundle service)) w)
  unfolding stage_of stage_in world_after_step stage_with
  get_still bundle service = asked_still

  pub unget_still : (bundle service : ℕ) → IsStill (stage_of (Commanded (Unget bundle service)) w)
  unfolding stage_of stage_in world_after_step stage_with
  unget_still bundle service = asked_still

  pub listen_still : (bundle : ℕ) (filter : Filter) → IsStill (stage_of (Commanded (Listen bundle filter)) w)
  unfolding stage_of stage_in world_after_step stage_with
  listen_still bundle filter = asked_still

  pub unlisten_still : (listener : ℕ) → IsStill (stage_of (Commanded (Unlisten listener)) w)
  unfolding stage_of stage_in world_after_step stage_with
  unlisten_still listener = asked_still
