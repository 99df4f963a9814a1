-- How far an instance in the making is known to be stays so over the steps of turns, gets and releases.
use Rattle.std.proofs.Common.{◌≡◌, ◌≤◌, ◌∙◌, ap, sym, refl, subst, arith, cond, ℕ, ◌+◌, List, [], ◌∷◌, ◌++◌, Bool, true, false, ◌&&◌, inl, inr, ◌⊎◌, Option, Some, None}
use Rattle.std.specs.Prelude.{find, map, not, option_and_then, option_map, ◌==◌}
use Rattle.std.specs.List.{Contains}
use Rattle.std.specs.Option.{option_map_or}
use Rattle.std.proofs.lemmas.Bool.{and_from, and_parts, both_ways, eq-eqb, eqb-true}
use Rattle.callback_orders.specs.declared.callback.Callback.{Callback}
use Rattle.callback_orders.specs.declared.callback.Callback.TheVariants.{Create, Bind, Updated, Unbind, Activate, Modified, Deactivate, Destroy}
use Rattle.callback_orders.specs.declared.callback.Outcome.{Outcome}
use Rattle.callback_orders.specs.declared.due.DueRef.{DueRef}
use Rattle.callback_orders.specs.declared.due.DueRef.TheVariants.{Create as CreateDue, Bind as BindDue, Updated as UpdatedDue, Unbind as UnbindDue, Activate as ActivateDue, Modified as ModifiedDue, Deactivate as DeactivateDue, Destroy as DestroyDue}
use Rattle.callback_orders.specs.Due.{due_of}
use Rattle.callback_orders.specs.Grammar.{is_create, is_unbind}
use Rattle.callback_orders.specs.Lives.{callback_of, held_for}
use Rattle.callback_orders.specs.Sequences.{begun}
use Rattle.component_dto.specs.declared.description.Reference.{Reference}
use Rattle.component_state.specs.declared.component.Component.{Component}
use Rattle.component_state.specs.declared.origin.Choice.{Choice}
use Rattle.component_state.specs.Inside.Ready.{are_apart}
use Rattle.prop_map.specs.Words.{has}
use Rattle.component_state.proofs.Apart.{any_from, in_cases, in_either, in_first, in_rest, kept_was, key_in, not_true, one_of}
use Rattle.scr_dues.specs.declared.making.Making.{Making}
use Rattle.scr_dues.specs.Makings.{HoldsUpTo, IsKnown, IsThatFar, have_own_names, known_after_end, lets_go, nothing_known}
use Rattle.scr_dues.proofs.KnownPlaces.{nothing_far}
use Rattle.scr_dues.proofs.KnownSteps.{ended_known, held_same, told_known}
use Rattle.scr_laws.proofs.DueCallbacks.{IsFor, due_is_own, first_is}
use Rattle.scr_laws.proofs.InstanceLemmas.{begun_cases, drained_same, ended_same, mapped_was, told_same}
use Rattle.scr_laws.proofs.Listed.{found_is, single}
use Rattle.scr_laws.proofs.Ordered.{AreOrdered}
use Rattle.scr_world.specs.declared.instance.Instance.{Instance}
use Rattle.scr_world.specs.declared.step.Step.{Step}
use Rattle.scr_world.specs.declared.step.Step.TheVariants.{Begin, Drained, End, Got, Released}
use Rattle.scr_world.specs.declared.world.World.{World}
use Rattle.scr_world.specs.Dues.{begin_for, begin_of, choices, due_in, names_of, next_begin}
use Rattle.scr_world.specs.Instances.{BeforeTurn, begun_by, created_at, drained_in, ended_in, has_turn, last_is, lives_on, with_callback_begun, with_effect_of_begin, with_outcome}
use Rattle.scr_world.specs.Stepping.{before_turn, instances_told, world_after_step}
use Rattle.scr_world.specs.Views.{references_in, view_of, views_of, whiteboard_view}
use Rattle.scr_world.specs.Wanted.{missing}
use Rattle.scr_world.specs.Whiteboard.{component_in}
use Rattle.scr_world.specs.Worlds.{all_instances}

-- ---- an instance after a step

-- it was there before, and holds what it held
record WasKnown (w : World) (m : Making) (j : Instance) : Type 0 where
  was : Instance
  there : Contains w.instances was
  number : was.number ≡ j.number
  origin : j.origin ≡ was.origin
  holds : IsKnown w was m → HoldsUpTo j (references_in w was) m

module _ (w : World) (m : Making) where
  far_by : (v : World) → v.components ≡ w.components → w.instances_numbered ≤ v.instances_numbered → ((j : Instance) → Contains v.instances j → j.number ≡ m.instance → WasKnown w m j) → IsThatFar w m → IsThatFar v m
  far_by v components numbered each far = record {
    numbered = (let low = far.numbered in omega (arith, low, numbered));
    each = λ j h is.
        let one = each j h is in
        let known = far.each one.was one.there (one.number ∙ is) in
        let same : references_in w one.was ≡ references_in v j =
        (λ k. option_map_or (λ (c : Component). c.description.references) (component_in (sym components k) (sym one.origin k).configuration) []) in
        record {
          names = λ some. ap have_own_names (sym same) ∙ known.names some;
          holds = subst (λ (rs : List Reference). HoldsUpTo j rs m) same (one.holds known);
        };
  }

  -- what isn't told
  untold : (j i : Instance) → Contains w.instances i → i.number ≡ j.number → j.origin ≡ i.origin → j.callbacks ≡ i.callbacks → WasKnown w m j
  untold j i there number origin callbacks = record {
    was = i;
    there = there;
    number = number;
    origin = origin;
    holds = λ known. held_same i j (references_in w i) m origin (λ q h low. ap (held_for q.1.name) callbacks) known.holds;
  }

  unmoved : (i : Instance) → Contains w.instances i → WasKnown w m i
  unmoved i there = untold i i there refl refl refl

-- in a world with the same instances and component configurations
pub same_far : (w v : World) (m : Making) → v.instances ≡ w.instances → v.components ≡ w.components → w.instances_numbered ≡ v.instances_numbered → IsThatFar w m → IsThatFar v m
same_far w v m instances components numbered far =
    far_by w m v components (omega (arith, numbered)) (λ j h is. unmoved w m j (subst (λ (is : List Instance). Contains is j) instances h)) far

-- ---- gets, releases and drains

module _ (w : World) (m : Making) (far : IsThatFar w m) where
  pub got_far : (bundle service : ℕ) → IsThatFar (world_after_step (Got bundle service) w) m
  unfolding world_after_step
  got_far bundle service = far_by w m (world_after_step (Got bundle service) w) refl (omega arith) (λ j h is. unmoved w m j h) far

  pub released_far : (place : ℕ) → IsThatFar (world_after_step (Released place) w) m
  unfolding world_after_step
  released_far place = far_by w m (world_after_step (Released place) w) refl (omega arith) (λ j h is. unmoved w m j h) far

  pub drained_far : (instance : ℕ) → IsThatFar (world_after_step (Drained instance) w) m
  unfolding world_after_step
  drained_far instance = far_by w m (world_after_step (Drained instance) w) refl (omega arith) one far
    where
      told : (i : Instance) (b : Bool) → (cond b (record i { drained = true }) i).callbacks ≡ i.callbacks
      told i true = refl
      told i false = refl

      one : (j : Instance) → Contains (map (drained_in instance) w.instances) j → j.number ≡ m.instance → WasKnown w m j
      one j h is =
          let i = mapped_was (drained_in instance) w.instances j h in
          let same = drained_same instance i.0 in
          untold w m j i.0 i.1 (sym same.number ∙ ap (λ (x : Instance). x.number) i.2) (ap (λ (x : Instance). x.origin) (sym i.2) ∙ same.origin)
          (ap (λ (x : Instance). x.callbacks) (sym i.2) ∙ told i.0 (i.0.number == instance))

-- ---- the end of a turn

module _ (w : World) (m : Making) (far : IsThatFar w m) (turn : ℕ) (outcome : Outcome) where
  with_end : (i : Instance) (b : Bool) → has_turn turn i ≡ b → ended_in turn outcome w.generations i ≡ cond b (with_outcome outcome w.generations i) i
  with_end i b e = ap (λ x. cond x (with_outcome outcome w.generations i) i) e

  -- it isn't told to let go of a service by this turn
  keeps : lets_go w m.instance turn ≡ false → (i : Instance) → Contains w.instances i → i.number ≡ m.instance → has_turn turn i ≡ true → last_is is_unbind i.callbacks ≡ false
  keeps none i there is on = go (last_is is_unbind i.callbacks) refl
    where
      go : (b : Bool) → last_is is_unbind i.callbacks ≡ b → last_is is_unbind i.callbacks ≡ false
      go false off = off
      go true it = absurd (both_ways (lets_go w m.instance turn) none (any_from (λ (x : Instance). (x.number == m.instance) && (has_turn turn x && last_is is_unbind x.callbacks)) w.instances i there
          (and_from (i.number == m.instance) (has_turn turn i && last_is is_unbind i.callbacks) (eq-eqb i.number m.instance is) (and_from (has_turn turn i) (last_is is_unbind i.callbacks) on it))))

  ended_one : lets_go w m.instance turn ≡ false → (j : Instance) → Contains (instances_told (End turn outcome) w) j → j.number ≡ m.instance → WasKnown w m j
  ended_one none j h is = go (has_turn turn i.0) refl
    where
      i : (x : Instance) × Contains w.instances x × (ended_in turn outcome w.generations x ≡ j)
      i = mapped_was (ended_in turn outcome w.generations) w.instances j h

      number : i.0.number ≡ j.number
      number = sym (ended_same turn outcome w.generations i.0).number ∙ ap (λ (x : Instance). x.number) i.2

      origin : j.origin ≡ i.0.origin
      origin = ap (λ (x : Instance). x.origin) (sym i.2) ∙ (ended_same turn outcome w.generations i.0).origin

      go : (b : Bool) → has_turn turn i.0 ≡ b → WasKnown w m j
      go false off = untold w m j i.0 i.1 number origin (ap (λ (x : Instance). x.callbacks) (sym i.2 ∙ with_end i.0 false off))
      go true on = record {
        was = i.0;
        there = i.1;
        number = number;
        origin = origin;
        holds = λ known. ended_known w i.0 m known outcome (keeps none i.0 i.1 (number ∙ is) on) j origin (ap (λ (x : Instance). x.callbacks) (sym i.2 ∙ with_end i.0 true on));
      }

  after_end : (b : Bool) → lets_go w m.instance turn ≡ b → IsThatFar (world_after_step (End turn outcome) w) (cond b nothing_known m)
  unfolding world_after_step
  after_end true goes = nothing_far (world_after_step (End turn outcome) w)
  after_end false none = far_by w m (world_after_step (End turn outcome) w) refl (omega arith) (λ j h is. ended_one none j (kept_was lives_on (instances_told (End turn outcome) w) j h).0 is) far

  pub ended_far : IsThatFar (world_after_step (End turn outcome) w) (known_after_end w turn m)
  ended_far = after_end (lets_go w m.instance turn) refl

-- ---- the beginning of a turn

effect_calls : (before : BeforeTurn) (callback : Callback) (i : Instance) → (with_effect_of_begin before callback i).callbacks ≡ i.callbacks
effect_calls before Create i = refl
effect_calls before (Bind r s) i = refl
effect_calls before (Updated r s) i = refl
effect_calls before (Unbind r s) i = refl
effect_calls before Activate i = refl
effect_calls before Modified i = refl
effect_calls before Deactivate i = refl
effect_calls before Destroy i = refl

module _ (w : World) (ordered : AreOrdered w) (turn instance configuration consumer : ℕ) (callback : Callback) (chosen : List Choice) where
  abbrev step : Step
  step = Begin turn instance configuration consumer callback chosen

  -- it makes none, and whom it tells is told what is due
  abbrev TellsDue : Type 0
  TellsDue = (is_create callback ≡ false) × ((i : Instance) → Contains w.instances i → i.number ≡ instance → (d : DueRef) × ((due_of (view_of w i) ≡ Some d) × (callback ≡ callback_of (names_of w i) d)))

  one_number : (i j : Instance) → Contains (all_instances w) i → Contains (all_instances w) j → i.number ≡ j.number → i ≡ j
  one_number i j h k same = one_of (λ (x : Instance). x.number) (all_instances w) ordered.apart i j h k same

  tells_it : (i : Instance) → Contains (all_instances w) i → (n : ℕ) → n ≡ i.number → (d : DueRef) → option_map (begin_for w d) (find (λ (j : Instance). j.number == n) (all_instances w)) ≡ Some step
      → (instance ≡ i.number) × (callback ≡ callback_of (names_of w i) d)
  tells_it i h n same d is =
      let found : find (λ (j : Instance). j.number == n) (all_instances w) ≡ Some i =
      found_is (λ (j : Instance). j.number == n) (all_instances w) i h (eq-eqb i.number n (sym same)) (λ y k on. one_number y i k h (eqb-true y.number n on ∙ same)) in
      let here : Some (begin_for w d i) ≡ Some step = sym (ap (option_map (begin_for w d)) found) ∙ is in
      let first : instance ≡ i.number = cc in
      let second : callback ≡ callback_of (names_of w i) d = cc in
      (first, second)

  told_by : (i : Instance) → Contains (all_instances w) i → (d : DueRef) → IsFor i.number d → begin_of w d ≡ Some step
      → (instance ≡ i.number) × (callback ≡ callback_of (names_of w i) d) × (is_create (callback_of (names_of w i) d) ≡ false)
  told_by i h (CreateDue key) its is = absurd its
  told_by i h (BindDue n r s) its is = let t = tells_it i h n its (BindDue n r s) is in (t.0, t.1, refl)
  told_by i h (UpdatedDue n r s) its is = let t = tells_it i h n its (UpdatedDue n r s) is in (t.0, t.1, refl)
  told_by i h (UnbindDue n r s) its is = let t = tells_it i h n its (UnbindDue n r s) is in (t.0, t.1, refl)
  told_by i h (ActivateDue n) its is = let t = tells_it i h n its (ActivateDue n) is in (t.0, t.1, refl)
  told_by i h (ModifiedDue n) its is = let t = tells_it i h n its (ModifiedDue n) is in (t.0, t.1, refl)
  told_by i h (DeactivateDue n) its is = let t = tells_it i h n its (DeactivateDue n) is in (t.0, t.1, refl)
  told_by i h (DestroyDue n) its is = let t = tells_it i h n its (DestroyDue n) is in (t.0, t.1, refl)

  tells_board : (d : DueRef) → due_of (whiteboard_view w) ≡ Some d → begin_of w d ≡ Some step → TellsDue
  tells_board d due is = (
    ap is_create t.1 ∙ t.2,
    λ i there same. absurd (both_ways (has numbers w.whiteboard.number) (not_true (has numbers w.whiteboard.number) apart) (ap (has numbers) (sym t.0 ∙ sym same) ∙ key_in (λ (x : Instance). x.number) w.instances i there)),
  )
    where
      t : (instance ≡ w.whiteboard.number) × (callback ≡ callback_of (names_of w w.whiteboard) d) × (is_create (callback_of (names_of w w.whiteboard) d) ≡ false)
      t = told_by w.whiteboard (in_first w.whiteboard w.instances) d (due_is_own (whiteboard_view w) d due) is

      numbers : List ℕ
      numbers = map (λ (x : Instance). x.number) w.instances

      apart : not (has numbers w.whiteboard.number) ≡ true
      apart = (and_parts (not (has numbers w.whiteboard.number)) (are_apart numbers) ordered.apart).0

  tells_one : (x : Instance) → Contains w.instances x → (d : DueRef) → due_of (view_of w x) ≡ Some d → begin_of w d ≡ Some step → TellsDue
  tells_one x h d due is = (ap is_create t.1 ∙ t.2, λ i there same. subst Told (one_number x i (in_rest w.whiteboard w.instances x h) (in_rest w.whiteboard w.instances i there) (sym t.0 ∙ sym same)) (d, (due, t.1)))
    where
      t : (instance ≡ x.number) × (callback ≡ callback_of (names_of w x) d) × (is_create (callback_of (names_of w x) d) ≡ false)
      t = told_by x (in_rest w.whiteboard w.instances x h) d (due_is_own (view_of w x) d due) is

      Told : Instance → Type 0
      Told i = (e : DueRef) × ((due_of (view_of w i) ≡ Some e) × (callback ≡ callback_of (names_of w i) e))

  -- a turn makes the next instance, or tells one what is due
  abbrev Makes : Type 0
  Makes = (callback ≡ Create) × (instance ≡ w.instances_numbered + 1)

  by_due : (d : DueRef) → due_in w ≡ Some d → begin_of w d ≡ Some step → Makes ⊎ TellsDue
  by_due d due is = elim (first_is (views_of w) (missing w) d due) [
    | inl view ↦ elim (in_cases (whiteboard_view w) (map (view_of w) w.instances) view.0 view.1) [
      | inl board ↦ inr (tells_board d (ap due_of board ∙ view.2) is)
      | inr other ↦ (
          let found = mapped_was (view_of w) w.instances view.0 other in
          inr (tells_one found.0 found.1 d (ap due_of found.2 ∙ view.2) is))
    ]
    | inr new ↦ (
        let here : Some (Begin (w.turns_begun + 1) (w.instances_numbered + 1) new.0.configuration new.0.consumer Create (choices w new.0.configuration)) ≡ Some step = sym (ap (begin_of w) new.2) ∙ is in
        let creates : callback ≡ Create = cc in
        let next : instance ≡ w.instances_numbered + 1 = cc in
        inl (creates, next))
  ]

  begins : next_begin w ≡ Some step → Makes ⊎ TellsDue
  begins may = go (due_in w) refl may
    where
      go : (o : Option DueRef) → due_in w ≡ o → option_and_then (begin_of w) o ≡ Some step → Makes ⊎ TellsDue
      go None due is = cc
      go (Some d) due is = by_due d due is

  module _ (m : Making) (far : IsThatFar w m) where
    abbrev told : List Instance
    told = begun_by (before_turn w) turn instance configuration consumer callback chosen

    made_one : Makes → (j : Instance) → Contains told j → j.number ≡ m.instance → WasKnown w m j
    made_one makes j h is = elim (in_either w.instances (new ∷ []) j (subst (λ (c : Callback). Contains (begun_by (before_turn w) turn instance configuration consumer c chosen) j) makes.0 h)) [
      | inl old ↦ unmoved w m j old
      | inr added ↦ absurd (
          let low = far.numbered in
          let same = ap (λ (x : Instance). x.number) (single new j added) in
          let next = makes.1 in
          omega (arith, low, same, next, is))
    ]
      where
        new : Instance
        new = created_at (before_turn w) turn instance configuration consumer chosen

    told_one : TellsDue → (j : Instance) → Contains (map (with_callback_begun (before_turn w) turn instance callback) w.instances) j → j.number ≡ m.instance → WasKnown w m j
    told_one tells j h is = go (i.0.number == instance) refl
      where
        i : (x : Instance) × Contains w.instances x × (with_callback_begun (before_turn w) turn instance callback x ≡ j)
        i = mapped_was (with_callback_begun (before_turn w) turn instance callback) w.instances j h

        given : Instance
        given = with_effect_of_begin (before_turn w) callback (record i.0 { turn = turn; callbacks = i.0.callbacks ++ begun callback ∷ [] })

        number : i.0.number ≡ j.number
        number = sym (told_same (before_turn w) turn instance callback i.0).number ∙ ap (λ (x : Instance). x.number) i.2

        origin : j.origin ≡ i.0.origin
        origin = ap (λ (x : Instance). x.origin) (sym i.2) ∙ (told_same (before_turn w) turn instance callback i.0).origin

        calls : (b : Bool) → (i.0.number == instance) ≡ b → j.callbacks ≡ (cond b given i.0).callbacks
        calls b e = ap (λ (x : Instance). x.callbacks) (sym i.2) ∙ ap (λ x. (cond x given i.0).callbacks) e

        go : (b : Bool) → (i.0.number == instance) ≡ b → WasKnown w m j
        go false off = untold w m j i.0 i.1 number origin (calls false off)
        go true on =
            let due = tells.1 i.0 i.1 (eqb-true i.0.number instance on) in
            record {
              was = i.0;
              there = i.1;
              number = number;
              origin = origin;
              holds = λ known. told_known w i.0 m known due.0 due.1.0 j origin
                  (calls true on ∙ effect_calls (before_turn w) callback (record i.0 { turn = turn; callbacks = i.0.callbacks ++ begun callback ∷ [] }) ∙ ap (λ (c : Callback). i.0.callbacks ++ begun c ∷ []) due.1.1);
            }

    begun_one : Makes ⊎ TellsDue → (j : Instance) → Contains told j → j.number ≡ m.instance → WasKnown w m j
    begun_one (inl makes) j h is = made_one makes j h is
    begun_one (inr tells) j h is = elim (begun_cases callback) [
      | inl create ↦ absurd (let both : true ≡ false = ap is_create (sym create) ∙ tells.0 in cc)
      | inr as_told ↦ told_one tells j (subst (λ (is : List Instance). Contains is j) (as_told (before_turn w) turn instance configuration consumer chosen) h) is
    ]

    pub begun_far : next_begin w ≡ Some step → IsThatFar (world_after_step step w) m
    unfolding world_after_step
    begun_far may = far_by w m (world_after_step step w) refl (omega arith) (begun_one (begins may)) far
