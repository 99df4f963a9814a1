-- What stays in a settling: tables, names and active bundles; what instances hold is accounted for; and an instance that is made in it doesn't end.
use Rattle.std.proofs.Common.{◌≡◌, ◌≤◌, ◌<◌, ℕ, ◌+◌, List, [], ◌∷◌, ap, sym, ◌∙◌, refl, subst, cond, arith, Bool, true, false, ◌&&◌, ◌||◌, inl, inr, ◌⊎◌, Option, Some, None}
use Rattle.std.specs.Prelude.{map, nat_lt, not, option_map, ◌==◌}
use Rattle.std.specs.List.{Contains}
use Rattle.std.specs.Option.{option_map_or}
use Rattle.std.proofs.lemmas.Bool.{both_ways, cases_Bool, eq-eqb}
use Rattle.bundle_life.specs.declared.bundle.BundleLife.{BundleLife}
use Rattle.bundle_life.specs.declared.bundle.BundleState.TheVariants.{Resolved}
use Rattle.bundle_life.specs.Lives.{bundle_of, is_active as is_active_state, resolved_among, state_is}
use Rattle.callback_orders.specs.declared.due.DueRef.{DueRef}
use Rattle.callback_orders.specs.declared.due.DueRef.TheVariants.{Create as CreateDue, Bind as BindDue, Updated as UpdatedDue, Unbind as UnbindDue, Activate as ActivateDue, Modified as ModifiedDue, Deactivate as DeactivateDue, Destroy as DestroyDue}
use Rattle.callback_orders.specs.declared.instance_view.InstanceView.{InstanceView}
use Rattle.callback_orders.specs.Due.{due_of}
use Rattle.callback_orders.specs.Grammar.{is_destroy}
use Rattle.callback_orders.specs.Lives.{callback_of, held_for}
use Rattle.component_dto.specs.declared.description.Reference.{Reference}
use Rattle.component_state.specs.declared.component.Component.{Component}
use Rattle.component_state.specs.declared.open_period.OpenPeriod.{OpenPeriod}
use Rattle.component_state.specs.declared.origin.Origin.{Origin}
use Rattle.component_state.specs.Periods.{is_current}
use Rattle.component_state.proofs.Apart.{any_found, any_from, in_cases, in_first, in_left, in_rest}
use Rattle.journal_core.specs.declared.entry.Entry.{Entry}
use Rattle.prop_map.specs.Words.{has, with_places}
use Rattle.scr_promises.specs.Endings.{outlives_consumer}
use Rattle.scr_promises.proofs.Comings.{IsNext, IsSeen, WasBefore, board_comes, closes, gains, keeps, not_board, one_made, whiteboard}
use Rattle.scr_promises.proofs.EndingLaws.{board_number, comes, failed_are_past}
use Rattle.scr_laws.proofs.TurnCallbacks.{are_told_apart}
use Rattle.scr_promises.proofs.HeldSteps.{held_next}
use Rattle.scr_promises.proofs.KnownLaws.{IsRegisteredWith, bound_row}
use Rattle.scr_laws.proofs.StillLaw.{legal_calm}
use Rattle.scr_laws.proofs.InstanceLemmas.{IsMade, ended_same, told_same}
use Rattle.scr_promises.specs.Names.{HaveOwnNames}
use Rattle.scr_promises.specs.Settlings.{is_settling}
use Rattle.scr_promises.proofs.CallbackKinds.{told_begun, told_ended, was_told}
use Rattle.scr_promises.proofs.Covers.{AreAccounted, HasTables, IsAccounted}
use Rattle.scr_promises.proofs.DueReasons.{due_says}
use Rattle.scr_promises.proofs.EntryGrowth.{components_stay, direct_stay, opened_now, periods_stay, registered_then}
use Rattle.scr_promises.proofs.InstanceSteps.{Reaches}
use Rattle.scr_promises.proofs.NewKeys.{key_counted}
use Rattle.scr_promises.proofs.OwnNames.{instance_names}
use Rattle.scr_promises.proofs.Potentials.{held_at}
use Rattle.scr_laws.proofs.AnswerLaws.{found_map, resolved_number}
use Rattle.scr_laws.proofs.KeyLaws.{key_made}
use Rattle.scr_laws.proofs.OwnerLaws.{active_rests}
use Rattle.scr_laws.proofs.Histories.{legal_is_asked}
use Rattle.scr_laws.specs.Askeds.{HasOneOfEach}
use Rattle.scr_world.specs.Dues.{names_of}
use Rattle.scr_world.specs.Instances.{has_failed}
use Rattle.scr_world.specs.Legal.{IsLegal, MayCome}
use Rattle.scr_world.specs.Lists.{is_active_bundle, world_after_entry, world_of}
use Rattle.scr_world.specs.Steps.{History}
use Rattle.scr_world.specs.Stepping.{before_turn, whiteboard_by, world_after_step}
use Rattle.scr_world.specs.Tables.{bundles_by, documents_by, registry_by}
use Rattle.scr_world.specs.Views.{ends, references_in}
use Rattle.scr_world.specs.Whiteboard.{component_in}
use Rattle.scr_world.specs.Worlds.{all_instances}
use Rattle.scr_world.specs.declared.instance.Instance.{Instance}
use Rattle.scr_world.specs.declared.step.Step.{Step}
use Rattle.scr_world.specs.declared.step.Step.TheVariants.{Command as Commanded, Begin, End, Drained, Got, Released}
use Rattle.scr_world.specs.declared.world.World.{World}

-- an instance doesn't end, and was told of no Destroy
abbrev pub IsFresh : World → Instance → Type 0
IsFresh w i = (ends w i ≡ false) × (was_told is_destroy i.callbacks ≡ false)

-- a world of a settling that began in another one
pub record IsSettled (start w : World) : Type 0 where
  pub tables : HasTables start w
  pub documents : w.documents ≡ start.documents
  pub reaches : Reaches start w
  pub accounted : AreAccounted start w
  pub fresh : (i : Instance) → Contains w.instances i → start.instances_numbered < i.number → IsFresh w i
  pub made : start.instances_numbered ≤ w.instances_numbered
  pub active : (n : ℕ) → is_active_bundle w n ≡ true → is_active_bundle start n ≡ true

three_off : (a b c : Bool) → a ≡ true → b ≡ false → c ≡ false → (not a || b || c) ≡ false
three_off true false false x y z = refl
three_off false b c x y z = cc
three_off true true c x y z = cc
three_off true false true x y z = cc

off_parts : (a b c : Bool) → (not a || b || c) ≡ false → (a ≡ true) × (b ≡ false)
off_parts true false c off = (refl, refl)
off_parts true true c off = cc
off_parts false b c off = cc

module _ (start : World) (limit : ℕ) (entry : Entry Step) (past : History) (legal : IsLegal limit (entry ∷ past)) (settles : is_settling entry.step (world_of past) ≡ true) (closed : entry.closed ≡ [])
    (names : HaveOwnNames (world_of past)) (is : IsSettled start (world_of past)) where
  abbrev w : World
  w = world_of past

  abbrev then : World
  then = world_of (entry ∷ past)

  -- ---- tables

  documents_stay : then.documents ≡ w.documents
  unfolding world_of world_after_entry world_after_step
  documents_stay = go entry.step settles
    where
      go : (step : Step) → is_settling step (world_of past) ≡ true → documents_by step ((world_of past).bundles.numbered + 1) (world_of past).documents ≡ (world_of past).documents
      go (Commanded command) on = cc
      go (Begin turn instance configuration consumer callback chosen) on = refl
      go (End turn outcome) on = refl
      go (Drained instance) on = refl
      go (Got bundle service) on = refl
      go (Released place) on = refl

  bundles_are : (bundles_by entry.step w.bundles).rows ≡ w.bundles.rows
  bundles_are = go entry.step settles
    where
      go : (step : Step) → is_settling step (world_of past) ≡ true → (bundles_by step (world_of past).bundles).rows ≡ (world_of past).bundles.rows
      go (Commanded command) on = cc
      go (Begin turn instance configuration consumer callback chosen) on = refl
      go (End turn outcome) on = refl
      go (Drained instance) on = refl
      go (Got bundle service) on = refl
      go (Released place) on = refl

  rows_then : then.bundles.rows ≡ map (resolved_among entry.stopped) (bundles_by entry.step w.bundles).rows
  unfolding world_of world_after_entry world_after_step
  rows_then = refl

  -- an active bundle stays active, and no other one becomes so
  active_then : (n : ℕ) → is_active_bundle w n ≡ true → is_active_bundle then n ≡ true
  active_then n on =
      ap (λ (rs : List BundleLife). state_is is_active_state rs n) rows_then
      ∙ active_rests entry.step w entry.stopped legal.0.stopped (subst (λ (rs : List BundleLife). HasOneOfEach (λ (b : BundleLife). b.number) rs) (sym bundles_are) (legal_is_asked limit past legal.1).apart.one_bundle)
      n (ap (λ (rs : List BundleLife). state_is is_active_state rs n) bundles_are ∙ on)

  active_was : (n : ℕ) → is_active_bundle then n ≡ true → is_active_bundle w n ≡ true
  active_was n on =
      let rows = (bundles_by entry.step w.bundles).rows in
      sym (ap (λ (rs : List BundleLife). state_is is_active_state rs n) bundles_are)
      ∙ go (bundle_of rows n) (sym (ap (λ (rs : List BundleLife). state_is is_active_state rs n) rows_then ∙ ap (λ o. option_map_or (λ (b : BundleLife). is_active_state b.state) o false) (found_map (resolved_among entry.stopped) (resolved_number entry.stopped) rows n)) ∙ on)
    where
      go : (o : Option BundleLife) → option_map_or (λ (b : BundleLife). is_active_state b.state) (option_map (resolved_among entry.stopped) o) false ≡ true → option_map_or (λ (b : BundleLife). is_active_state b.state) o false ≡ true
      go None e = cc
      go (Some b) e = state (has entry.stopped b.number) b e
        where
          state : (k : Bool) (b : BundleLife) → is_active_state (cond k (record b { state = Resolved }) b).state ≡ true → is_active_state b.state ≡ true
          state true b x = cc
          state false b x = x

  numbered_then : w.registry.numbered ≤ then.registry.numbered
  unfolding world_of world_after_entry world_after_step
  numbered_then = (let same = go entry.step settles in omega (arith, same))
    where
      go : (step : Step) → is_settling step (world_of past) ≡ true → (registry_by step (world_of past).registry).numbered ≡ (world_of past).registry.numbered
      go (Commanded command) on = cc
      go (Begin turn instance configuration consumer callback chosen) on = refl
      go (End turn outcome) on = refl
      go (Drained instance) on = refl
      go (Got bundle service) on = refl
      go (Released place) on = refl

  made_then : w.instances_numbered ≤ then.instances_numbered
  unfolding world_of world_after_entry world_after_step
  made_then = omega arith

  -- ---- references

  references_of : (i j : Instance) → j.origin ≡ i.origin → references_in then j ≡ references_in w i
  references_of i j origin =
      ap (λ (o : Origin). option_map_or (λ (c : Component). c.description.references) (component_in then.components o.configuration) []) origin
      ∙ ap (λ (cs : List Component). option_map_or (λ (c : Component). c.description.references) (component_in cs i.origin.configuration) []) (components_stay limit entry past legal settles closed)

  -- ---- what is held

  accounted_with : (i j : Instance) → Contains (all_instances w) i → j.number ≡ i.number → j.origin ≡ i.origin → IsNext w entry.step i j.callbacks → (r : ℕ × Reference) → Contains (with_places 0 (references_in then j)) r → (s : ℕ)
      → has (held_for r.1.name j.callbacks) s ≡ true → IsAccounted start then j r.1 s
  accounted_with i j h number origin next r in_r s on =
      let in_was = subst (λ (rs : List Reference). Contains (with_places 0 rs) r) (references_of i j origin) in_r in
      elim (held_next w entry.step i r.1.name s j.callbacks next on) [
        | inl before ↦ elim (is.accounted i h r in_was s before) [
          | inl held ↦ inl (ap (λ n. has (held_at start n r.1.name) s) number ∙ held)
          | inr row ↦ inr (record { row = row.row; there = registered_then limit entry past legal settles closed row.row row.there; number = row.number; has_it = row.has_it })
        ]
        | inr bound ↦ (
            let row = bound_row limit past legal.1 entry.step i r.1.name s bound in
            let same = instance_names limit past legal.1 names i h (bound.place, bound.reference) r bound.there in_was bound.named in
            let there = subst (λ (x : ℕ × Reference). IsRegisteredWith w s x.1.interface_name) same row in
            inr (record { row = there.row; there = registered_then limit entry past legal settles closed there.row there.there; number = there.number; has_it = there.has_it }))
      ]

  board_then : then.whiteboard ≡ whiteboard_by entry.step w
  unfolding world_of world_after_entry world_after_step
  board_then = refl

  accounted_then : AreAccounted start then
  accounted_then i h r in_r s on = elim (in_cases then.whiteboard then.instances i h) [
    | inl board ↦ of_board (sym board) i refl r in_r s on
    | inr made ↦ of_made i (comes limit entry past legal i made) r in_r s on
  ]
    where
      of_made : (i : Instance) → WasBefore (world_of past) entry.step i ⊎ IsMade entry.step (world_of past) i → (r : ℕ × Reference) → Contains (with_places 0 (references_in (world_of (entry ∷ past)) i)) r → (s : ℕ)
          → has (held_for r.1.name i.callbacks) s ≡ true → IsAccounted start (world_of (entry ∷ past)) i r.1 s
      of_made i (inl was) r in_r s on = accounted_with was.was i (in_rest (world_of past).whiteboard (world_of past).instances was.was was.there) was.same.number was.same.origin was.calls r in_r s on
      of_made i (inr made) r in_r s on = (let none : false ≡ true = ap (λ (x : Instance). has (held_for r.1.name x.callbacks) s) made.4.1.1 ∙ on in cc)

      of_board : {x : Instance} → x ≡ (world_of (entry ∷ past)).whiteboard → (i : Instance) → i ≡ x → (r : ℕ × Reference) → Contains (with_places 0 (references_in (world_of (entry ∷ past)) i)) r → (s : ℕ)
          → has (held_for r.1.name i.callbacks) s ≡ true → IsAccounted start (world_of (entry ∷ past)) i r.1 s
      of_board is_board i is_x r in_r s on =
          let same : i ≡ whiteboard_by entry.step (world_of past) = is_x ∙ is_board ∙ board_then in
          let next = board_comes (world_of past) (are_told_apart limit past legal.1).numbers (board_number past) entry.step legal.0.step in
          accounted_with (world_of past).whiteboard i (in_first (world_of past).whiteboard (world_of past).instances)
          (ap (λ (y : Instance). y.number) (is_x ∙ is_board) ∙ board_number (entry ∷ past) ∙ sym (board_number past)) (board_origin_same same)
          (subst (λ (y : Instance). IsNext (world_of past) entry.step (world_of past).whiteboard y.callbacks) (sym same) next) r in_r s on
        where
          board_origin_same : i ≡ whiteboard_by entry.step (world_of past) → i.origin ≡ (world_of past).whiteboard.origin
          board_origin_same same = ap (λ (y : Instance). y.origin) same ∙ board_origin_by entry.step
            where
              board_origin_by : (step : Step) → (whiteboard_by step (world_of past)).origin ≡ (world_of past).whiteboard.origin
              board_origin_by (Commanded command) = refl
              board_origin_by (Begin turn instance configuration consumer callback chosen) = (told_same (before_turn (world_of past)) turn instance callback (world_of past).whiteboard).origin
              board_origin_by (End turn outcome) = (ended_same turn outcome (world_of past).generations (world_of past).whiteboard).origin
              board_origin_by (Drained instance) = refl
              board_origin_by (Got bundle service) = refl
              board_origin_by (Released place) = refl

  -- ---- those that are made in the settling

  current_then : (o : Origin) → is_current w.open_periods o ≡ true → is_current then.open_periods o ≡ true
  current_then o on =
      let p = any_found (λ (q : OpenPeriod). (q.configuration == o.configuration) && nat_lt q.opened o.created) w.open_periods on in
      any_from (λ (q : OpenPeriod). (q.configuration == o.configuration) && nat_lt q.opened o.created) then.open_periods p.0
      (subst (λ (ps : List OpenPeriod). Contains ps p.0) (sym (periods_stay limit entry past legal settles closed)) (in_left w.open_periods (opened_now limit entry past legal settles closed) p.0 p.1)) p.2

  -- one whose period is open and whose consumer is active doesn't end
  goes_on_then : (i : Instance) → Contains then.instances i → is_current then.open_periods i.origin ≡ true → outlives_consumer then i ≡ false → ends then i ≡ false
  goes_on_then i h current alone = three_off (is_current then.open_periods i.origin) (outlives_consumer then i) (has_failed i.callbacks) current alone
      (elim (cases_Bool (has_failed i.callbacks)) [
        | inl failed ↦ absurd (both_ways (is_current then.open_periods i.origin) (failed_are_past limit (entry ∷ past) legal i h failed) current)
        | inr off ↦ off
      ])

  consumer_stays : (n m : ℕ) → m ≡ n → (not (n == 0) && not (is_active_bundle w n)) ≡ false → (not (m == 0) && not (is_active_bundle then m)) ≡ false
  consumer_stays n m same off = ap (λ k. not (k == 0) && not (is_active_bundle then k)) same ∙ go (n == 0) (is_active_bundle w n) refl off
    where
      go : (a b : Bool) → is_active_bundle (world_of past) n ≡ b → (not a && not b) ≡ false → (not a && not (is_active_bundle (world_of (entry ∷ past)) n)) ≡ false
      go true b e k = refl
      go false true e k = ap not (active_then n e)
      go false false e k = cc

  module _ (i : Instance) (h : Contains then.instances i) where
    fresh_before : (was : WasBefore w entry.step i) → start.instances_numbered < i.number → IsFresh then i
    fresh_before was new =
        let before = is.fresh was.was was.there (let same = was.same.number in omega (arith, new, same)) in
        let parts = off_parts (is_current w.open_periods was.was.origin) (outlives_consumer w was.was) (has_failed was.was.callbacks) before.0 in (
          goes_on_then i h (current_then i.origin (ap (is_current w.open_periods) was.same.origin ∙ parts.0)) (consumer_stays was.was.consumer i.consumer was.same.consumer parts.1),
          by_calls was.was was.there before was.calls,
        )
      where
        by_calls : (j : Instance) → Contains (world_of past).instances j → IsFresh (world_of past) j → IsNext (world_of past) entry.step j i.callbacks → was_told is_destroy i.callbacks ≡ false
        by_calls j there fresh (keeps same) = ap (was_told is_destroy) same ∙ fresh.1
        by_calls j there fresh (closes turn outcome is_end its same) = ap (was_told is_destroy) same ∙ told_ended is_destroy outcome j.callbacks ∙ fresh.1
        by_calls j there fresh (gains v seen due is_due begins_so same) =
            ap (was_told is_destroy) same ∙ told_begun is_destroy j.callbacks (callback_of (names_of (world_of past) j) due)
            ∙ ap (λ b. b || is_destroy (callback_of (names_of (world_of past) j) due)) fresh.1 ∙ no_destroy due is_due
          where
            going : IsSeen (world_of past) j v → v.ending ≡ true → ⊥
            going (one_made k is_view) on = both_ways (ends (world_of past) j) fresh.0 (ap (λ (x : InstanceView). x.ending) (sym is_view) ∙ on)
            going (whiteboard same_one is_view) on = not_board (world_of past) (are_told_apart limit past legal.1).numbers (board_number past) j there same_one

            no_destroy : (d : DueRef) → due_of v ≡ Some d → is_destroy (callback_of (names_of (world_of past) j) d) ≡ false
            no_destroy (CreateDue key) e = refl
            no_destroy (BindDue m k s) e = refl
            no_destroy (UpdatedDue m k s) e = refl
            no_destroy (UnbindDue m k s) e = refl
            no_destroy (ActivateDue m) e = refl
            no_destroy (ModifiedDue m) e = refl
            no_destroy (DeactivateDue m) e = refl
            no_destroy (DestroyDue m) e = absurd (going seen (due_says v (DestroyDue m) e))

    fresh_made : IsMade entry.step w i → IsFresh then i
    fresh_made made =
        let turn = made.0 in let instance = made.1 in let configuration = made.2 in let consumer = made.3 in let chosen = made.4.0 in
        let may = subst (λ (s : Step). MayCome w s) made.4.1.0 legal.0.step in
        let key = key_made w turn instance configuration consumer chosen may in
        let counted = key_counted limit past legal.1 key.0 key.1.0 in
        let calm = (legal_calm limit past legal.1).creates turn instance configuration consumer chosen may in
        let current : is_current w.open_periods i.origin ≡ true = ap (λ (x : Instance). is_current w.open_periods x.origin) (sym made.4.1.1) ∙ calm.1 in
        let its : i.consumer ≡ key.0.consumer = ap (λ (x : Instance). x.consumer) (sym made.4.1.1) ∙ sym key.1.1.1 in (
          goes_on_then i h (current_then i.origin current) (consumer_stays key.0.consumer i.consumer its (active_off key.0.consumer counted.active)),
          ap (λ (x : Instance). was_told is_destroy x.callbacks) (sym made.4.1.1),
        )
      where
        active_off : (n : ℕ) → (n ≡ 0) ⊎ (is_active_bundle (world_of past) n ≡ true) → (not (n == 0) && not (is_active_bundle (world_of past) n)) ≡ false
        active_off n (inl none) = ap (λ b. not b && not (is_active_bundle (world_of past) n)) (eq-eqb n 0 none)
        active_off n (inr on) = ap (λ b. not (n == 0) && not b) on ∙ off (not (n == 0))
          where
            off : (b : Bool) → (b && false) ≡ false
            off true = refl
            off false = refl

  pub settled_then : IsSettled start then
  settled_then = record {
    tables = record { direct = direct_stay limit entry past legal settles closed ∙ is.tables.direct; components = components_stay limit entry past legal settles closed ∙ is.tables.components };
    documents = documents_stay ∙ is.documents;
    reaches = record {
      direct = λ q h. (let low = is.reaches.direct q h in let more = numbered_then in omega (arith, low, more));
      held = λ number name s h. (let low = is.reaches.held number name s h in let more = numbered_then in omega (arith, low, more));
    };
    accounted = accounted_then;
    fresh = λ i h new. elim (comes limit entry past legal i h) [
      | inl was ↦ fresh_before i h was new
      | inr made ↦ fresh_made i h made
    ];
    made = (let low = is.made in let more = made_then in omega (arith, low, more));
    active = λ n on. is.active n (active_was n on);
  }
