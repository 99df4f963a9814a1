-- The services before and behind an entry, in pairs, with the changes of each that are told.
use Rattle.std.proofs.Common.{◌≡◌, ◌<◌, ◌⊎◌, ℕ, ◌+◌, List, ◌∷◌, ap, sym, ◌∙◌, refl, subst, arith, Bool, true, false, ◌||◌, ◌&&◌, inl, inr, Option, Some, None}
use Rattle.std.specs.Prelude.{filter, flat_map, map, not, ◌==◌}
use Rattle.std.specs.List.{Contains, list_any}
use Rattle.std.proofs.lemmas.Bool.{and_parts, both_ways, cases_Bool, eq-eqb, eqb-true}
use Rattle.component_state.specs.declared.component.Component.{Component}
use Rattle.component_state.specs.declared.open_period.OpenPeriod.{OpenPeriod}
use Rattle.component_state.specs.ComponentConfigurations.{component_after, new_components, with_numbers}
use Rattle.component_state.specs.Components.{pass_order}
use Rattle.component_state.specs.Passes.{held_back_in, opening, pass_order_of, satisfied_where}
use Rattle.component_state.specs.Periods.{is_open}
use Rattle.component_state.specs.Rows.{with_present_properties}
use Rattle.component_state.proofs.Apart.{any_from, in_either, in_left, in_right, kept_from, kept_was, keyed, not_true, one_of}
use Rattle.component_state.proofs.Numbering.{kept_name}
use Rattle.journal_core.specs.declared.entry.Entry.{Entry}
use Rattle.journal_core.specs.declared.entry.Opened.{Opened}
use Rattle.prop_map.specs.Words.{has}
use Rattle.scr_laws.proofs.Described.{into_flat}
use Rattle.scr_laws.proofs.Legal.{in_map, legal_scratch, open_lives}
use Rattle.scr_laws.proofs.Listed.{joined_was}
use Rattle.scr_laws.proofs.Sounding.{legal_sound}
use Rattle.scr_promises.specs.Events.{is_commanded}
use Rattle.scr_promises.specs.Services.{IsSameService, known_services}
use Rattle.scr_promises.proofs.ChangeLaws.{IsPair}
use Rattle.scr_promises.proofs.PassOrders.{in_pass_order}
use Rattle.scr_promises.proofs.PeriodSteps.{IsOpened, renewed_is}
use Rattle.scr_promises.proofs.RowsAt.{IsListed, commanded, commanded_listed, component, component_indirect, component_listed, listed_kind, numbered_is, numbered_was, row_at_is, row_at_was}
use Rattle.scr_promises.proofs.ServiceLaws.{AreServices, Period, are_services, component_in, direct_in, given_so_far, goes_up, known_given, known_one, new_number, opened_is, registered_known, stay_services, then_was}
use Rattle.scr_promises.proofs.SilentServices.{opened_by}
use Rattle.scr_world.specs.Consequences.{stage_in, stage_of}
use Rattle.scr_world.specs.Legal.{IsLegal}
use Rattle.scr_world.specs.Levels.{levels_of}
use Rattle.scr_world.specs.Lists.{change_between, changes_between, direct_between, row_at, world_after_entry, world_of}
use Rattle.scr_world.specs.Readers.{listed}
use Rattle.scr_world.specs.Steps.{History}
use Rattle.scr_world.specs.Stepping.{component_configurations_by, components_by, counted_components, is_counted, periods_with, world_after_step}
use Rattle.scr_world.specs.Tables.{descriptions_of}
use Rattle.scr_world.specs.declared.instance.Instance.{Instance}
use Rattle.scr_world.specs.declared.step.Step.{Step}
use Rattle.scr_world.specs.declared.step.Step.TheVariants.{Command as Commanded, Begin, End, Drained, Got, Released}
use Rattle.scr_world.specs.declared.world.World.{World}
use Rattle.service_listeners.specs.Listening.{Change}
use Rattle.service_registry.specs.declared.row.ServiceRow.{ServiceRow}
use Rattle.service_registry.specs.Registries.{row_of}
use Rattle.service_registry.specs.Services.{ids}

-- a service before and behind an entry, whose changes are told
pub record ArePaired (was now : World) (before after : Option ServiceRow) : Type 0 where
  pub pair : IsPair was now before after
  pub within : (c : Change) → Contains (change_between before after) c → Contains (changes_between was now) c

some_same : (a b : ServiceRow) → Some a ≡ Some b → a ≡ b
some_same a b e = cc

-- what is open stays so in a step
still_open : (step : Step) (cs : List Component) (before : List OpenPeriod) (p : OpenPeriod) → Contains before p
    → is_open (periods_with step cs before) p.configuration ≡ true
still_open (Commanded command) cs before p h = any_from (λ (q : OpenPeriod). q.configuration == p.configuration)
    (map (with_present_properties cs) before) (with_present_properties cs p)
    (in_map (with_present_properties cs) before p h)
    (eq-eqb (with_present_properties cs p).configuration p.configuration
    (renewed_is (Commanded command) cs p).configuration)
still_open (Begin turn instance configuration consumer callback chosen) cs before p h = any_from
    (λ (q : OpenPeriod). q.configuration == p.configuration) before p h (eq-eqb p.configuration p.configuration refl)
still_open (End turn outcome) cs before p h = any_from (λ (q : OpenPeriod). q.configuration == p.configuration) before
    p h (eq-eqb p.configuration p.configuration refl)
still_open (Drained instance) cs before p h = any_from (λ (q : OpenPeriod). q.configuration == p.configuration) before
    p h (eq-eqb p.configuration p.configuration refl)
still_open (Got bundle service) cs before p h = any_from (λ (q : OpenPeriod). q.configuration == p.configuration)
    before p h (eq-eqb p.configuration p.configuration refl)
still_open (Released place) cs before p h = any_from (λ (q : OpenPeriod). q.configuration == p.configuration) before p
    h (eq-eqb p.configuration p.configuration refl)

abbrev number_of : ServiceRow → ℕ
number_of r = r.id

-- ---- what is listed is known

module _ (w : World) (are : AreServices w) where
  kind_known : (x : ServiceRow) → IsListed w x → Contains (known_services w) x
  kind_known x (commanded h) = registered_known w are x (direct_in w x h)
  kind_known x (component p h is some) = subst (λ (r : ServiceRow). Contains (known_services w) r) is
      (registered_known w are p.row (component_in w p h (subst (λ n. 0 < n) (ap number_of (sym is)) some)))

  pub listed_known : (x : ServiceRow) → Contains (listed w) x → Contains (known_services w) x
  listed_known x h = kind_known x (listed_kind w x h)

  pub listed_one : (a b : ServiceRow) → Contains (listed w) a → Contains (listed w) b → a.id ≡ b.id → a ≡ b
  listed_one a b h k same = known_one w are a b (listed_known a h) (listed_known b k) same

-- ---- over an entry

module _ (limit : ℕ) (entry : Entry Step) (past : History) (legal : IsLegal limit (entry ∷ past)) where
  abbrev w : World
  w = world_of past

  abbrev then : World
  then = world_of (entry ∷ past)

  pub are : AreServices (world_of past)
  are = are_services limit past legal.1

  pub are_then : AreServices (world_of (entry ∷ past))
  are_then = are_services limit (entry ∷ past) legal

  pub same_service : (old x : ServiceRow) → Contains (listed w) old → Contains (listed then) x → x.id ≡ old.id
      → IsSameService old x
  same_service old x h k same = stay_services limit entry past legal old x (listed_known w are old h)
      (listed_known then are_then x k) same

  mixed : (b : Bool) → b ≡ true → b ≡ false → ⊥
  mixed true on off = cc
  mixed false on off = cc

  -- ---- services of commands

  pub direct_pair : (n : ℕ) → IsPair w then (row_of w.registry.rows n) (row_of then.registry.rows n)
  direct_pair n = record {
    old_listed = λ old is. commanded_listed w old (numbered_was w.registry.rows n old is).0;
    new_listed = λ fresh is. commanded_listed then fresh (numbered_was then.registry.rows n fresh is).0;
    gone = λ old is other x h same. gone old (numbered_was w.registry.rows n old is) other x h (listed_kind then x h)
        same;
    came = λ fresh is other x h same. came fresh (numbered_was then.registry.rows n fresh is) other x h
        (listed_kind w x h) same;
  }
    where
      gone : (old : ServiceRow) → Contains (world_of past).registry.rows old × (old.id ≡ n)
          → ((fresh : ServiceRow) → row_of (world_of (entry ∷ past)).registry.rows n ≡ Some fresh → fresh.id ≡ old.id
          → ⊥)
          → (x : ServiceRow) → Contains (listed (world_of (entry ∷ past))) x → IsListed (world_of (entry ∷ past)) x
          → x.id ≡ old.id → ⊥
      gone old was other x h (commanded k) same = other x
          (numbered_is (world_of (entry ∷ past)) are_then x k n (same ∙ was.1)) same
      gone old was other x h (component p k is some) same =
          let one = same_service old x (commanded_listed (world_of past) old was.0) h same in
          mixed x.direct (one.direct ∙ are.direct_flag old was.0)
          (ap (λ (r : ServiceRow). r.direct) (sym is) ∙ component_indirect limit (entry ∷ past) legal p k)

      came : (fresh : ServiceRow) → Contains (world_of (entry ∷ past)).registry.rows fresh × (fresh.id ≡ n)
          → ((old : ServiceRow) → row_of (world_of past).registry.rows n ≡ Some old → old.id ≡ fresh.id → ⊥)
          → (x : ServiceRow) → Contains (listed (world_of past)) x → IsListed (world_of past) x → x.id ≡ fresh.id → ⊥
      came fresh now other x h (commanded k) same = other x (numbered_is (world_of past) are x k n (same ∙ now.1)) same
      came fresh now other x h (component p k is some) same =
          let one = same_service x fresh h (commanded_listed (world_of (entry ∷ past)) fresh now.0) (sym same) in
          mixed fresh.direct (are_then.direct_flag fresh now.0)
          (one.direct ∙ ap (λ (r : ServiceRow). r.direct) (sym is) ∙ component_indirect limit past legal.1 p k)

  -- ---- services of component configurations

  pub component_pair : (n : ℕ) → IsPair w then (row_at w.open_periods n) (row_at then.open_periods n)
  component_pair n = record {
    old_listed = λ old is. old_there w old (row_at_was w.open_periods n old is);
    new_listed = λ fresh is. old_there then fresh (row_at_was then.open_periods n fresh is);
    gone = λ old is other x h same. gone old (row_at_was w.open_periods n old is) other x h (listed_kind then x h) same;
    came = λ fresh is other x h same. came fresh (row_at_was then.open_periods n fresh is) other x h
        (listed_kind w x h) same;
  }
    where
      old_there : (v : World) (old : ServiceRow)
          → (p : OpenPeriod) × Contains v.open_periods p × (p.configuration ≡ n) × (p.row ≡ old) × (0 < old.id)
          → Contains (listed v) old
      old_there v old p = subst (λ (r : ServiceRow). Contains (listed v) r) p.3
          (component_listed v p.0 p.1 (subst (λ m. 0 < m) (ap number_of (sym p.3)) p.4))

      of_period : (old : ServiceRow)
          → (p : OpenPeriod) × Contains (world_of past).open_periods p × (p.configuration ≡ n) × (p.row ≡ old) ×
          (0 < old.id) →
          ((fresh : ServiceRow) → row_at (world_of (entry ∷ past)).open_periods n ≡ Some fresh → fresh.id ≡ old.id → ⊥)
          → (q : OpenPeriod) → Contains (world_of (entry ∷ past)).open_periods q → q.row.id ≡ old.id
          → Period limit entry past legal are q → ⊥
      of_period old p other q k same (inl a) =
          let some = subst (λ m. 0 < m) (sym same) p.4 in
          let it = are.period_one a.was p.0 a.there p.1 (sym a.same.service.number ∙ same ∙ ap number_of (sym p.3))
          (subst (λ m. 0 < m) a.same.service.number some) in
          other q.row (row_at_is (world_of (entry ∷ past)).open_periods
          (legal_sound limit (entry ∷ past) legal).plain.apart q k some n
          (a.same.configuration ∙ ap (λ (o : OpenPeriod). o.configuration) it ∙ p.2)) same
      of_period old p other q k same (inr a) =
          let some = subst (λ m. 0 < m) (sym same) p.4 in
          let high = new_number limit entry past legal are q a some in
          let more = goes_up limit entry past legal are in
          let low = known_given (world_of past) are old
          (listed_known (world_of past) are old (old_there (world_of past) old p)) in
          omega (arith, high, more, low, same)

      gone : (old : ServiceRow)
          → (p : OpenPeriod) × Contains (world_of past).open_periods p × (p.configuration ≡ n) × (p.row ≡ old) ×
          (0 < old.id) →
          ((fresh : ServiceRow) → row_at (world_of (entry ∷ past)).open_periods n ≡ Some fresh → fresh.id ≡ old.id → ⊥)
          → (x : ServiceRow) → Contains (listed (world_of (entry ∷ past))) x → IsListed (world_of (entry ∷ past)) x
          → x.id ≡ old.id → ⊥
      gone old p other x h (commanded k) same =
          let one = same_service old x (old_there (world_of past) old p) h same in
          mixed x.direct (are_then.direct_flag x k)
          (one.direct ∙ ap (λ (r : ServiceRow). r.direct) (sym p.3) ∙ component_indirect limit past legal.1 p.0 p.1)
      gone old p other x h (component q k is some) same = of_period old p other q k (ap number_of is ∙ same)
          (then_was limit entry past legal are q k)

      came_period : (fresh : ServiceRow)
          → (found : ((q : OpenPeriod) × Contains (world_of (entry ∷ past)).open_periods q × (q.configuration ≡ n) ×
          (q.row ≡ fresh) × (0 < fresh.id)))
          → ((old : ServiceRow) → row_at (world_of past).open_periods n ≡ Some old → old.id ≡ fresh.id → ⊥)
          → (p : OpenPeriod) → Contains (world_of past).open_periods p → p.row.id ≡ fresh.id
          → Period limit entry past legal are found.0 → ⊥
      came_period fresh q other p k same (inl a) =
          let some = subst (λ m. 0 < m) (sym same) q.4 in
          let it = are.period_one a.was p a.there k (sym a.same.service.number ∙ ap number_of q.3 ∙ sym same)
          (subst (λ m. 0 < m) (sym (ap number_of q.3) ∙ a.same.service.number) q.4) in
          other p.row (row_at_is (world_of past).open_periods (legal_sound limit past legal.1).plain.apart p k some n
          (ap (λ (o : OpenPeriod). o.configuration) (sym it) ∙ sym a.same.configuration ∙ q.2)) same
      came_period fresh q other p k same (inr a) =
          let high = new_number limit entry past legal are q.0 a (subst (λ m. 0 < m) (sym (ap number_of q.3)) q.4) in
          let more = goes_up limit entry past legal are in
          let low = are.period_given p k in
          let is = ap number_of q.3 in
          omega (arith, high, more, low, same, is)

      came : (fresh : ServiceRow)
          → (q : OpenPeriod) × Contains (world_of (entry ∷ past)).open_periods q × (q.configuration ≡ n) ×
          (q.row ≡ fresh) × (0 < fresh.id) →
          ((old : ServiceRow) → row_at (world_of past).open_periods n ≡ Some old → old.id ≡ fresh.id → ⊥)
          → (x : ServiceRow) → Contains (listed (world_of past)) x → IsListed (world_of past) x → x.id ≡ fresh.id → ⊥
      came fresh q other x h (commanded k) same =
          let one = same_service x fresh h (old_there (world_of (entry ∷ past)) fresh q) (sym same) in
          mixed fresh.direct (one.direct ∙ are.direct_flag x k)
          (ap (λ (r : ServiceRow). r.direct) (sym q.3) ∙ component_indirect limit (entry ∷ past) legal q.0 q.1)
      came fresh q other x h (component p k is some) same = came_period fresh q other p k (ap number_of is ∙ same)
          (then_was limit entry past legal are q.0 q.1)

  -- a component configuration that exists stays, if only until the next command
  stays_by : (step : Step) (c : Component) → Contains w.components c → c.exists ≡ true
      → (k : Component) × Contains (components_by step w) k × (k.number ≡ c.number)
  stays_by (Commanded command) c h on =
      let these = component_configurations_by (Commanded command) w in (
        component_after w.entries these c,
        in_left (map (component_after w.entries these) (counted_components w))
            (with_numbers (w.components_numbered + 1) (new_components (counted_components w) these))
            (component_after w.entries these c)
            (in_map (component_after w.entries these) (counted_components w) c
            (kept_from (is_counted w.instances) w.components c h
            (ap (λ b. b || list_any (λ (i : Instance). i.origin.configuration == c.number) w.instances) on))),
        (kept_name w.entries these c).number,
      )
  stays_by (Begin turn instance configuration consumer callback chosen) c h on = (c, h, refl)
  stays_by (End turn outcome) c h on = (c, h, refl)
  stays_by (Drained instance) c h on = (c, h, refl)
  stays_by (Got bundle service) c h on = (c, h, refl)
  stays_by (Released place) c h on = (c, h, refl)

  stays_then : (c : Component) → Contains w.components c → c.exists ≡ true
      → (k : Component) × Contains then.components k × (k.number ≡ c.number)
  unfolding world_of world_after_entry world_after_step
  stays_then c h on = stays_by entry.step c h on

  -- the component configuration of a period that was open, and of one that is
  pub was_in : (p : OpenPeriod) → Contains w.open_periods p
      → (c : Component) × Contains then.components c × (c.number ≡ p.configuration)
  was_in p h =
      let c = open_lives w (legal_scratch limit past legal.1) p h in
      let k = stays_then c.0 c.1 c.2 in
      (k.0, k.1, k.2 ∙ sym c.3)

  pub is_in : (p : OpenPeriod) → Contains then.open_periods p
      → (c : Component) × Contains then.components c × (c.number ≡ p.configuration)
  is_in p h = let c = open_lives then (legal_scratch limit (entry ∷ past) legal) p h in (c.0, c.1, sym c.3)

  -- ---- all changes

  abbrev pub by_number : ℕ → List Change
  by_number n = change_between (row_of w.registry.rows n) (row_of then.registry.rows n)

  abbrev pub by_component : Component → List Change
  by_component c = change_between (row_at w.open_periods c.number) (row_at then.open_periods c.number)

  abbrev pub in_turn : List Component
  in_turn = let ds = descriptions_of then.documents in pass_order ds (levels_of ds) then.components

  pub number_changes : (n : ℕ) → Contains (direct_between w then) n → (c : Change) → Contains (by_number n) c
      → Contains (changes_between w then) c
  number_changes n h c k = in_left (flat_map by_number (direct_between w then)) (flat_map by_component in_turn) c
      (into_flat by_number (direct_between w then) n c h k)

  pub component_changes : (d : Component) → Contains then.components d → (c : Change) → Contains (by_component d) c
      → Contains (changes_between w then) c
  component_changes d h c k = let ds = descriptions_of then.documents in
      in_right (flat_map by_number (direct_between w then)) (flat_map by_component in_turn) c
      (into_flat by_component in_turn d c (in_pass_order ds (levels_of ds) then.components d h) k)

  -- ---- the pair of each change, and of each service

  pub pair_of_change : (c : Change) → Contains (changes_between w then) c
      → (before : Option ServiceRow) × (after : Option ServiceRow) × IsPair w then before after × Contains
      (change_between before after) c
  pair_of_change c h = elim
      (in_either (flat_map by_number (direct_between w then)) (flat_map by_component in_turn) c h) [
        | inl direct ↦
            (let n = joined_was by_number (direct_between w then) c direct in
            (row_of w.registry.rows n.0, row_of then.registry.rows n.0, direct_pair n.0, n.1.1))
        | inr other ↦
            (let d = joined_was by_component in_turn c other in
            (row_at w.open_periods d.0.number, row_at then.open_periods d.0.number, component_pair d.0.number, d.1.1))
      ]

  abbrev PairOfOld : ServiceRow → Type 0
  PairOfOld old = (after : Option ServiceRow) × ArePaired w then (Some old) after

  abbrev PairOfNew : ServiceRow → Type 0
  PairOfNew fresh = (before : Option ServiceRow) × ArePaired w then before (Some fresh)

  from_old : (old : ServiceRow) (before after : Option ServiceRow) → before ≡ Some old → ArePaired w then before after
      → PairOfOld old
  from_old old before after is paired = (after, subst (λ (o : Option ServiceRow). ArePaired w then o after) is paired)

  from_new : (fresh : ServiceRow) (before after : Option ServiceRow) → after ≡ Some fresh
      → ArePaired w then before after → PairOfNew fresh
  from_new fresh before after is paired =
      (before, subst (λ (o : Option ServiceRow). ArePaired w then before o) is paired)

  old_number : (n : ℕ) → Contains (ids w.registry.rows) n → Contains (direct_between w then) n
  old_number n h = in_left (ids w.registry.rows)
      (filter (λ m. not (has (ids w.registry.rows) m)) (ids then.registry.rows)) n h

  new_number_of : (n : ℕ) → Contains (ids then.registry.rows) n → Contains (direct_between w then) n
  new_number_of n h = elim (cases_Bool (has (ids w.registry.rows) n)) [
    | inl on ↦ (let r = keyed number_of w.registry.rows n on in old_number n
        (subst (λ m. Contains (ids w.registry.rows) m) r.2 (in_map number_of w.registry.rows r.0 r.1)))
    | inr off ↦ in_right (ids w.registry.rows)
        (filter (λ m. not (has (ids w.registry.rows) m)) (ids then.registry.rows)) n
        (kept_from (λ m. not (has (ids w.registry.rows) m)) (ids then.registry.rows) n h (ap not off))
  ]

  kind_of_old : (old : ServiceRow) → IsListed w old → PairOfOld old
  kind_of_old old (commanded k) =
      from_old old (row_of w.registry.rows old.id) (row_of then.registry.rows old.id)
      (numbered_is w are old k old.id refl)
      (record {
        pair = direct_pair old.id;
        within = number_changes old.id
            (old_number old.id (in_map number_of w.registry.rows old k));
      })
  kind_of_old old (component p k its some) =
      let d = was_in p k in
      let n = d.0.number in
      from_old old (row_at w.open_periods n) (row_at then.open_periods n)
      (row_at_is w.open_periods (legal_sound limit past legal.1).plain.apart p k
      (subst (λ m. 0 < m) (ap number_of (sym its)) some) n (sym d.2) ∙ ap Some its)
      (record { pair = component_pair n; within = component_changes d.0 d.1 })

  kind_of_new : (fresh : ServiceRow) → IsListed then fresh → PairOfNew fresh
  kind_of_new fresh (commanded k) =
      from_new fresh (row_of w.registry.rows fresh.id) (row_of then.registry.rows fresh.id)
      (numbered_is then are_then fresh k fresh.id refl)
      (record {
        pair = direct_pair fresh.id;
        within = number_changes fresh.id
            (new_number_of fresh.id (in_map number_of then.registry.rows fresh k));
      })
  kind_of_new fresh (component q k its some) =
      let d = is_in q k in
      let n = d.0.number in
      from_new fresh (row_at w.open_periods n) (row_at then.open_periods n)
      (row_at_is then.open_periods (legal_sound limit (entry ∷ past) legal).plain.apart q k
      (subst (λ m. 0 < m) (ap number_of (sym its)) some) n (sym d.2) ∙ ap Some its)
      (record { pair = component_pair n; within = component_changes d.0 d.1 })

  -- that of a service that was listed
  pub pair_of_old : (old : ServiceRow) → Contains (listed w) old
      → (after : Option ServiceRow) × ArePaired w then (Some old) after
  pair_of_old old h = kind_of_old old (listed_kind w old h)

  -- and of one that is
  pub pair_of_new : (fresh : ServiceRow) → Contains (listed then) fresh
      → (before : Option ServiceRow) × ArePaired w then before (Some fresh)
  pair_of_new fresh h = kind_of_new fresh (listed_kind then fresh h)

  -- one that stays is what it is paired with
  pub after_is : (old : ServiceRow) (after : Option ServiceRow) → IsPair w then (Some old) after → (x : ServiceRow)
      → Contains (listed then) x → x.id ≡ old.id → after ≡ Some x
  after_is old None pair x h same = absurd (pair.gone old refl (λ fresh none. absurd cc) x h same)
  after_is old (Some y) pair x h same = elim (cases_Bool (y.id == old.id)) [
    | inl is ↦ ap Some (listed_one then are_then y x (pair.new_listed y refl) h (eqb-true y.id old.id is ∙ sym same))
    | inr off ↦ absurd
        (pair.gone old refl
        (λ fresh is k. both_ways (y.id == old.id) off (eq-eqb y.id old.id (ap number_of (some_same y fresh is) ∙ k))) x
        h same)
  ]

  -- ---- the services of a component configuration

  -- what opens wasn't open
  opening_fresh : (c : Component) → Contains (opening (stage_of entry.step w) then.open_periods) c
      → is_open (periods_with entry.step (components_by entry.step w) w.open_periods) c.number ≡ false
  unfolding world_after_step stage_of stage_in
  opening_fresh c h =
      let s = stage_of entry.step w in
      let test = (kept_was
      (λ (d : Component). has (satisfied_where (stage_of entry.step w) then.open_periods) d.number &&
      (not (has (held_back_in (stage_of entry.step w) then.open_periods) d.number) && not
      (is_open (stage_of entry.step w).open_before d.number)))
      (pass_order_of (stage_of entry.step w)) c h).1 in
      not_true (is_open s.open_before c.number)
      (and_parts (not (has (held_back_in s then.open_periods) c.number)) (not (is_open s.open_before c.number))
      (and_parts (has (satisfied_where s then.open_periods) c.number)
      (not (has (held_back_in s then.open_periods) c.number) && not (is_open s.open_before c.number)) test).1).1

  not_reopened : (p : OpenPeriod) → Contains w.open_periods p → (q : OpenPeriod)
      → IsOpened w.entries (components_by entry.step w) entry.opened q → q.configuration ≡ p.configuration → ⊥
  not_reopened p h q is same =
      let by = opened_by (given_so_far limit entry past legal are + 1)
      (opening (stage_of entry.step w) then.open_periods) is.one
      (subst (λ (os : List Opened). Contains os is.one) (opened_is limit entry past legal are) is.there) in
      let number : by.1.number ≡ p.configuration = sym (ap (λ (o : Opened). o.configuration) by.3) ∙ ap
      (λ (o : OpenPeriod). o.configuration) is.made ∙ same in
      let periods = periods_with entry.step (components_by entry.step w) w.open_periods in
      both_ways (is_open periods p.configuration) (ap (is_open periods) (sym number) ∙ opening_fresh by.1 by.2)
      (still_open entry.step (components_by entry.step w) w.open_periods p h)

  -- no entry closes and opens one
  pub same_at : (n : ℕ) (old fresh : ServiceRow) → row_at w.open_periods n ≡ Some old
      → row_at then.open_periods n ≡ Some fresh → old.id ≡ fresh.id
  same_at n old fresh before after =
      let p = row_at_was w.open_periods n old before in
      let q = row_at_was then.open_periods n fresh after in
      elim (then_was limit entry past legal are q.0 q.1) [
        | inl a ↦ (
            let it = one_of (λ (o : OpenPeriod). o.configuration) w.open_periods
            (legal_sound limit past legal.1).plain.apart p.0 a.was p.1 a.there
            (p.2 ∙ sym q.2 ∙ a.same.configuration) in
            ap number_of (sym p.3) ∙ ap (λ (o : OpenPeriod). o.row.id) it ∙ sym a.same.service.number ∙ ap number_of
            q.3)
        | inr a ↦ absurd (not_reopened p.0 p.1 q.0 a (q.2 ∙ sym p.2))
      ]

  -- a period that is open before the entry, or behind it
  abbrev pub InEither : OpenPeriod → Type 0
  InEither p = Contains w.open_periods p ⊎ Contains then.open_periods p

  one_over : (p q : OpenPeriod) → Contains w.open_periods p → Contains then.open_periods q → p.row.id ≡ q.row.id
      → 0 < p.row.id → p.configuration ≡ q.configuration
  one_over p q h k same some = elim (then_was limit entry past legal are q k) [
    | inl a ↦ ap (λ (o : OpenPeriod). o.configuration)
        (are.period_one p a.was h a.there (same ∙ a.same.service.number) some) ∙ sym a.same.configuration
    | inr a ↦ (
        let high = new_number limit entry past legal are q a (subst (λ m. 0 < m) same some) in
        let more = goes_up limit entry past legal are in
        let low = are.period_given p h in
        absurd (omega (arith, high, more, low, same)))
  ]

  -- a service is of one component configuration
  pub one_configuration : (p q : OpenPeriod) → InEither p → InEither q → p.row.id ≡ q.row.id → 0 < p.row.id
      → p.configuration ≡ q.configuration
  one_configuration p q (inl h) (inl k) same some = ap (λ (o : OpenPeriod). o.configuration)
      (are.period_one p q h k same some)
  one_configuration p q (inl h) (inr k) same some = one_over p q h k same some
  one_configuration p q (inr h) (inl k) same some = sym (one_over q p k h (sym same) (subst (λ m. 0 < m) same some))
  one_configuration p q (inr h) (inr k) same some = ap (λ (o : OpenPeriod). o.configuration)
      (are_then.period_one p q h k same some)

  abbrev OfCommand : ServiceRow → Type 0
  OfCommand r = Contains w.registry.rows r ⊎ Contains then.registry.rows r

  two_kinds : (r : ServiceRow) (p : OpenPeriod) → OfCommand r → InEither p → r.id ≡ p.row.id → 0 < p.row.id → ⊥
  two_kinds r p (inl h) (inl k) same some = are.kinds r p h k same
  two_kinds r p (inr h) (inr k) same some = are_then.kinds r p h k same
  two_kinds r p (inl h) (inr k) same some =
      let one = same_service r p.row (commanded_listed w r h) (component_listed then p k some) (sym same) in
      mixed p.row.direct (one.direct ∙ are.direct_flag r h) (component_indirect limit (entry ∷ past) legal p k)
  two_kinds r p (inr h) (inl k) same some =
      let one = same_service p.row r (component_listed w p k some) (commanded_listed then r h) same in
      mixed r.direct (are_then.direct_flag r h) (one.direct ∙ component_indirect limit past legal.1 p k)

  -- the service of a component isn't one that a command registered
  pub not_commanded : (p : OpenPeriod) → InEither p → 0 < p.row.id → is_commanded w then p.row.id ≡ false
  not_commanded p h some = elim (cases_Bool (has (ids w.registry.rows) p.row.id)) [
    | inl on ↦ (let r = keyed number_of w.registry.rows p.row.id on in absurd (two_kinds r.0 p (inl r.1) h r.2 some))
    | inr off ↦ elim (cases_Bool (has (ids then.registry.rows) p.row.id)) [
      | inl on ↦ (let r = keyed number_of then.registry.rows p.row.id on in absurd
          (two_kinds r.0 p (inr r.1) h r.2 some))
      | inr none ↦ ap (λ b. b || has (ids then.registry.rows) p.row.id) off ∙ none
    ]
  ]
