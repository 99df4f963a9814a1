-- The stage of every step that may come after a legal journal is ready for a pass.
use Rattle.std.proofs.Common.{◌≡◌, ◌<◌, ◌≤◌, ℕ, ◌+◌, List, [], ◌∷◌, ◌++◌, ap, sym, ◌∙◌, refl, subst, cond, arith, Bool, true, false, ◌&&◌, ◌||◌, inl, inr, ◌⊎◌, Option, Some, None}
use Rattle.std.specs.Prelude.{filter, map, nat_lt, not, ◌==◌}
use Rattle.std.specs.List.{Contains, list_any}
use Rattle.std.specs.Option.{option_map_or}
use Rattle.std.proofs.lemmas.Bool.{and_parts, both_ways, cases_Bool, eq-eqb, eqb-true}
use Rattle.callback_orders.specs.declared.callback.Callback.TheVariants.{Create}
use Rattle.component_state.specs.declared.component.Component.{Component}
use Rattle.component_state.specs.declared.open_period.OpenPeriod.{OpenPeriod}
use Rattle.component_state.specs.declared.origin.Choice.{Choice}
use Rattle.component_state.specs.declared.origin.Origin.{Origin}
use Rattle.component_state.specs.Components.{component_of, exists}
use Rattle.component_state.specs.Inside.Ready.{IsReady}
use Rattle.component_state.specs.Marks.{exists_unchanged, held_back, with_leaving}
use Rattle.component_state.specs.Periods.{is_current, is_open}
use Rattle.component_state.specs.Rows.{period_with_properties, with_present_properties}
use Rattle.prop_map.specs.Words.{has}
use Rattle.scr_world.specs.declared.contents.Contents.{Contents}
use Rattle.scr_world.specs.declared.instance.Instance.{Instance}
use Rattle.scr_world.specs.declared.step.Step.{Step}
use Rattle.scr_world.specs.declared.step.Step.TheVariants.{Command as Commanded, Begin, End, Drained, Got, Released}
use Rattle.scr_world.specs.declared.world.World.{World}
use Rattle.scr_world.specs.Consequences.{stage_in, stage_of}
use Rattle.scr_world.specs.Dues.{due_in, next_begin}
use Rattle.scr_world.specs.Legal.{IsLegal, IsOpenFromScratch, MayCome}
use Rattle.scr_world.specs.Lists.{world_of}
use Rattle.scr_world.specs.Steps.{History}
use Rattle.scr_world.specs.Stepping.{components_by, failing, instances_by, periods_with, world_after_step}
use Rattle.scr_world.specs.Worlds.{origins_of, satisfied_in}
use Rattle.component_state.proofs.Apart.{any_found, any_from, has_both, in_left, in_right, keyed, kept_from, kept_was, key_in, not_true, or_true}
use Rattle.component_state.proofs.Numbering.{apart_numbered}
use Rattle.scr_laws.proofs.Described.{into_flat, right_after}
use Rattle.scr_laws.proofs.Histories.{legal_is_asked}
use Rattle.scr_laws.proofs.Legal.{in_map, legal_scratch, legal_well, step_well}
use Rattle.scr_laws.proofs.LegalCalm.{begun_so}
use Rattle.scr_laws.proofs.Listed.{mapped_was}
use Rattle.scr_laws.proofs.OpensFirst.{opens_first}
use Rattle.scr_laws.proofs.Sounding.{Came, came, created_by, legal_created, legal_earlier, legal_housed, step_housed}

-- ---- a step leaves which are open, and since when

period_same : (cs : List Component) (p : OpenPeriod) → ((with_present_properties cs p).configuration ≡ p.configuration) × ((with_present_properties cs p).opened ≡ p.opened)
period_same cs p = go (component_of cs p.configuration)
  where
    go : (o : Option Component) → ((option_map_or (period_with_properties p) o p).configuration ≡ p.configuration) × ((option_map_or (period_with_properties p) o p).opened ≡ p.opened)
    go None = (refl, refl)
    go (Some c) = (refl, refl)

mapped_open : (cs : List Component) (ps : List OpenPeriod) (n : ℕ) → is_open (map (with_present_properties cs) ps) n ≡ is_open ps n
mapped_open cs [] n = refl
mapped_open cs (p ∷ ps) n = ap (λ k. (k == n) || is_open (map (with_present_properties cs) ps) n) (period_same cs p).0 ∙ ap (λ b. (p.configuration == n) || b) (mapped_open cs ps n)

mapped_current : (cs : List Component) (ps : List OpenPeriod) (o : Origin) → is_current (map (with_present_properties cs) ps) o ≡ is_current ps o
mapped_current cs [] o = refl
mapped_current cs (p ∷ ps) o =
    ap (λ k. ((k == o.configuration) && nat_lt (with_present_properties cs p).opened o.created) || is_current (map (with_present_properties cs) ps) o) (period_same cs p).0
    ∙ ap (λ k. ((p.configuration == o.configuration) && nat_lt k o.created) || is_current (map (with_present_properties cs) ps) o) (period_same cs p).1
    ∙ ap (λ b. ((p.configuration == o.configuration) && nat_lt p.opened o.created) || b) (mapped_current cs ps o)

pub open_same : (step : Step) (cs : List Component) (ps : List OpenPeriod) (n : ℕ) → is_open (periods_with step cs ps) n ≡ is_open ps n
open_same (Commanded command) cs ps n = mapped_open cs ps n
open_same (Begin turn instance configuration consumer callback chosen) cs ps n = refl
open_same (End turn outcome) cs ps n = refl
open_same (Drained instance) cs ps n = refl
open_same (Got bundle service) cs ps n = refl
open_same (Released place) cs ps n = refl

pub current_same : (step : Step) (cs : List Component) (ps : List OpenPeriod) (o : Origin) → is_current (periods_with step cs ps) o ≡ is_current ps o
current_same (Commanded command) cs ps o = mapped_current cs ps o
current_same (Begin turn instance configuration consumer callback chosen) cs ps o = refl
current_same (End turn outcome) cs ps o = refl
current_same (Drained instance) cs ps o = refl
current_same (Got bundle service) cs ps o = refl
current_same (Released place) cs ps o = refl

-- ---- in a world where open is what is satisfied from scratch

module _ (w : World) (scratch : IsOpenFromScratch w) where
  pub open_is_free : (n : ℕ) → is_open w.open_periods n ≡ true → has (held_back w.failed w.open_periods (origins_of w.instances)) n ≡ false
  open_is_free n opened = not_true (has (held_back w.failed w.open_periods (origins_of w.instances)) n) (and_parts (has (satisfied_in w) n) (not (has (held_back w.failed w.open_periods (origins_of w.instances)) n)) (sym (scratch n) ∙ opened)).1

  pub open_unmarked : (n : ℕ) → is_open w.open_periods n ≡ true → has w.failed n ≡ false
  open_unmarked n opened = elim (cases_Bool (has w.failed n)) [
    | inl on ↦ absurd (both_ways (has (held_back w.failed w.open_periods (origins_of w.instances)) n) (open_is_free n opened) (has_both w.failed (with_leaving w.open_periods (origins_of w.instances)) n ∙ ap (λ b. b || has (with_leaving w.open_periods (origins_of w.instances)) n) on))
    | inr off ↦ off
  ]

  pub open_current_one : (i : Instance) → Contains w.instances i → is_open w.open_periods i.origin.configuration ≡ true → is_current w.open_periods i.origin ≡ true
  open_current_one i here opened = elim (cases_Bool (is_current w.open_periods i.origin)) [
    | inl on ↦ on
    | inr off ↦ absurd (both_ways (has (held_back w.failed w.open_periods (origins_of w.instances)) i.origin.configuration) (open_is_free i.origin.configuration opened) (held off))
  ]
    where
      there : Contains (origins_of w.instances) i.origin
      there = in_map (λ (k : Instance). k.origin) w.instances i here

      held : is_current w.open_periods i.origin ≡ false → has (held_back w.failed w.open_periods (origins_of w.instances)) i.origin.configuration ≡ true
      held off =
          has_both w.failed (with_leaving w.open_periods (origins_of w.instances)) i.origin.configuration
          ∙ ap (λ b. has w.failed i.origin.configuration || b)
          (key_in (λ (o : Origin). o.configuration) (filter (λ (o : Origin). not (is_current w.open_periods o)) (origins_of w.instances)) i.origin
          (kept_from (λ (o : Origin). not (is_current w.open_periods o)) (origins_of w.instances) i.origin there (ap not off)))
          ∙ or_true (has w.failed i.origin.configuration)

or_none : (a b : Bool) → b ≡ false → (a || b) ≡ a
or_none true b e = refl
or_none false b e = e

-- ---- the stage

module _ (limit : ℕ) (past : History) (legal : IsLegal limit past) (step : Step) (may : MayCome (world_of past) step) where
  abbrev w : World
  w = world_of past

  scratch : IsOpenFromScratch w
  scratch = legal_scratch limit past legal

  made_current : (i : Instance) (configuration : ℕ) → i.origin.configuration ≡ configuration → i.origin.created ≡ w.entries → (turn instance consumer : ℕ) (chosen : List Choice) → next_begin w ≡ Some (Begin turn instance configuration consumer Create chosen) → is_current w.open_periods i.origin ≡ true
  made_current i configuration of_one at turn instance consumer chosen e =
      ap (λ n. list_any (λ (p : OpenPeriod). (p.configuration == n) && nat_lt p.opened i.origin.created) w.open_periods) of_one
      ∙ ap (λ n. list_any (λ (p : OpenPeriod). (p.configuration == configuration) && nat_lt p.opened n) w.open_periods) at
      ∙ (begun_so w turn instance configuration consumer chosen (opens_first w) (legal_earlier limit past legal) (due_in w) refl e).1

  one_current : (i : Instance) → Came step w i → is_open w.open_periods i.origin.configuration ≡ true → is_current w.open_periods i.origin ≡ true
  one_current i (inl old) opened = subst (λ (o : Origin). is_open w.open_periods o.configuration ≡ true → is_current w.open_periods o ≡ true) old.1.1 (open_current_one w scratch old.0 old.1.0) opened
  one_current i (inr new) opened = made_current i new.2 new.4.1.1.0 new.4.1.1.1 new.0 new.1 new.3 new.4.0 (subst (λ s. MayCome w s) new.4.1.0 may)

  current : (o : Origin) → Contains (origins_of (instances_by step w)) o → is_open (periods_with step (components_by step w) w.open_periods) o.configuration ≡ true → is_current (periods_with step (components_by step w) w.open_periods) o ≡ true
  current o h opened =
      let was = mapped_was (λ (i : Instance). i.origin) (instances_by step w) o h in
      current_same step (components_by step w) w.open_periods o
      ∙ subst (λ (x : Origin). is_open w.open_periods x.configuration ≡ true → is_current w.open_periods x ≡ true) was.1.1 (one_current was.0 (came w step was.0 was.1.0)) (sym (open_same step (components_by step w) w.open_periods o.configuration) ∙ opened)

  has_kept : (t : ℕ → Bool) (ns : List ℕ) (n : ℕ) → has (filter t ns) n ≡ true → (has ns n ≡ true) × (t n ≡ true)
  has_kept t ns n is = let found = any_found (λ m. m == n) (filter t ns) is in
      let kept = kept_was t ns found.0 found.1 in
      (any_from (λ m. m == n) ns found.0 kept.0 found.2, ap t (sym (eqb-true found.0 n found.2)) ∙ kept.1)

  kept_has : (t : ℕ → Bool) (ns : List ℕ) (n : ℕ) → has ns n ≡ true → t n ≡ true → has (filter t ns) n ≡ true
  kept_has t ns n is on = let found = any_found (λ m. m == n) ns is in
      any_from (λ m. m == n) (filter t ns) found.0 (kept_from t ns found.0 found.1 (ap t (eqb-true found.0 n found.2) ∙ on)) found.2

  abbrev still_marked : ℕ → Bool
  still_marked n = has (satisfied_in w) n && exists_unchanged w.entries (components_by step w) n

  unmarked : (n : ℕ) → is_open (periods_with step (components_by step w) w.open_periods) n ≡ true → has (filter still_marked w.failed ++ filter (exists (components_by step w)) (failing step w)) n ≡ true → has (failing step w) n ≡ true
  unmarked n opened marked = go (cases_Bool (has (filter (exists (components_by step w)) (failing step w)) n))
    where
      go : (has (filter (exists (components_by step w)) (failing step w)) n ≡ true) ⊎ (has (filter (exists (components_by step w)) (failing step w)) n ≡ false) → has (failing step w) n ≡ true
      go (inl on) = (has_kept (exists (components_by step w)) (failing step w) n on).0
      go (inr off) = absurd (both_ways (has w.failed n) (open_unmarked w scratch n (sym (open_same step (components_by step w) w.open_periods n) ∙ opened))
          (has_kept still_marked w.failed n (sym (or_none (has (filter still_marked w.failed) n) _ off) ∙ sym (has_both (filter still_marked w.failed) (filter (exists (components_by step w)) (failing step w)) n) ∙ marked)).0)

  marked : (n : ℕ) → has (failing step w) n ≡ true → exists (components_by step w) n ≡ true → has (filter still_marked w.failed ++ filter (exists (components_by step w)) (failing step w)) n ≡ true
  marked n fails there = has_both (filter still_marked w.failed) (filter (exists (components_by step w)) (failing step w)) n ∙ ap (λ b. has (filter still_marked w.failed) n || b) (kept_has (exists (components_by step w)) (failing step w) n fails there) ∙ or_true (has (filter still_marked w.failed) n)

  pub legal_ready : IsReady (stage_of step (world_of past))
  unfolding stage_of stage_in world_after_step
  legal_ready = let well = legal_well limit past legal in
      let after = step_well step w scratch well in
      let housed = step_housed w (apart_numbered w.components well.apart) (legal_is_asked limit past legal) scratch well (legal_earlier limit past legal) (legal_housed limit past legal) step may in record {
        next = omega arith;
        levels = right_after limit past legal step may;
        numbered = apart_numbered (components_by step w) after.apart;
        described = λ c h. (let is = housed.documented c h in into_flat (λ (t : Contents). t.document.descriptions) _ is.0 c.description is.1 is.3);
        periods = after.periods;
        plain = after.plain;
        current = current;
        unmarked = unmarked;
        marked = marked;
      }

  -- and each instance was made no later
  pub legal_begun : (o : Origin) → Contains (stage_of step (world_of past)).origins o → o.created ≤ (stage_of step (world_of past)).place
  unfolding stage_of stage_in world_after_step
  legal_begun o h = let was = mapped_was (λ (i : Instance). i.origin) (instances_by step w) o h in
      let low = created_by step w (legal_created limit past legal) was.0 was.1.0 in
      subst (λ (x : Origin). x.created ≤ w.entries) was.1.1 (omega (arith, low))
