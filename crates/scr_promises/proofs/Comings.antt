-- How each instance behind a step comes about: it was there before, with the same callbacks, with one more, which was due, or with the outcome of its
-- last one; or a Create made it. The whiteboard's instance was always there.
use Rattle.std.proofs.Common.{◌≡◌, ℕ, ◌+◌, List, [], ◌∷◌, ◌++◌, ap, sym, ◌∙◌, refl, subst, cond, arith, Bool, true, false, inl, inr, ◌⊎◌, Option, Some, None}
use Rattle.std.specs.Prelude.{find, map, not, ◌==◌, option_map, option_and_then}
use Rattle.std.specs.List.{Contains}
use Rattle.std.proofs.lemmas.Bool.{and_parts, both_ways, eq-eqb, eqb-true}
use Rattle.callback_orders.specs.declared.callback.Callback.{Callback}
use Rattle.callback_orders.specs.declared.callback.Callback.TheVariants.{Create}
use Rattle.callback_orders.specs.declared.callback.Outcome.{Outcome}
use Rattle.callback_orders.specs.declared.due.DueRef.{DueRef}
use Rattle.callback_orders.specs.declared.due.DueRef.TheVariants.{Create as CreateDue, Bind, Updated, Unbind, Activate, Modified, Deactivate, Destroy}
use Rattle.callback_orders.specs.declared.instance_view.InstanceView.{InstanceView}
use Rattle.callback_orders.specs.declared.instance_view.Key.{Key}
use Rattle.callback_orders.specs.declared.word.Called.{Called}
use Rattle.callback_orders.specs.Due.{due_of}
use Rattle.callback_orders.specs.Grammar.{is_create}
use Rattle.callback_orders.specs.Lives.{callback_of}
use Rattle.callback_orders.specs.Sequences.{begun, ended}
use Rattle.component_state.specs.declared.origin.Choice.{Choice}
use Rattle.component_state.specs.Inside.Ready.{are_apart}
use Rattle.component_state.proofs.Apart.{in_cases, in_either, in_first, in_rest, kept_was, key_in, not_true, one_of}
use Rattle.prop_map.specs.Words.{has}
use Rattle.scr_promises.proofs.DueCallbacks.{StandsFor, due_stands, first_is}
use Rattle.scr_laws.proofs.NothingShut.{taken_calls}
use Rattle.scr_laws.proofs.Listed.{found_is, mapped_was, single}
use Rattle.scr_laws.proofs.InstanceLemmas.{IsMade, IsSame, begun_cases, drained_same, ended_same, told_same}
use Rattle.scr_world.specs.Dues.{begin_for, begin_of, choices, due_in, names_of, next_begin}
use Rattle.scr_world.specs.Instances.{created_at, drained_in, ended_in, has_turn, lives_on, with_callback_begun, with_effect_of_begin, with_outcome}
use Rattle.scr_world.specs.Legal.{MayCome}
use Rattle.scr_world.specs.Stepping.{before_turn, instances_by, instances_told, whiteboard_by}
use Rattle.scr_world.specs.Views.{view_of, views_of, whiteboard_view}
use Rattle.scr_world.specs.Wanted.{missing}
use Rattle.scr_world.specs.Worlds.{all_instances}
use Rattle.scr_world.specs.declared.instance.Instance.{Instance}
use Rattle.scr_world.specs.declared.step.Step.{Step}
use Rattle.scr_world.specs.declared.step.Step.TheVariants.{Command as Commanded, Begin, End, Drained, Got, Released}
use Rattle.scr_world.specs.declared.world.World.{World}

-- the view by which an instance's callback is due
pub data IsSeen (w : World) (i : Instance) (v : InstanceView) : Type 0 where
  one_made : Contains w.instances i → v ≡ view_of w i → IsSeen w i v
  whiteboard : i ≡ w.whiteboard → v ≡ whiteboard_view w → IsSeen w i v

-- the callback that a step begins
abbrev pub callback_begun : Step → Option Callback
callback_begun (Begin turn instance configuration consumer callback chosen) = Some callback
callback_begun _ = None

-- the callbacks of an instance behind a step
pub data IsNext (w : World) (step : Step) (was : Instance) (calls : List Called) : Type 0 where
  keeps : calls ≡ was.callbacks → IsNext w step was calls
  gains : (v : InstanceView) → IsSeen w was v → (due : DueRef) → due_of v ≡ Some due → callback_begun step ≡ Some (callback_of (names_of w was) due) → calls ≡ was.callbacks ++ begun (callback_of (names_of w was) due) ∷ []
      → IsNext w step was calls
  closes : (turn : ℕ) (outcome : Outcome) → step ≡ End turn outcome → has_turn turn was ≡ true → calls ≡ ended outcome was.callbacks → IsNext w step was calls

-- it was there before
pub record WasBefore (w : World) (step : Step) (i : Instance) : Type 0 where
  pub was : Instance
  pub there : Contains w.instances was
  pub same : IsSame i was
  pub calls : IsNext w step was i.callbacks

-- the turn that begins tells an instance of its due callback
pub record TellsDue (w : World) (instance : ℕ) (callback : Callback) : Type 0 where
  pub one : Instance
  pub view : InstanceView
  pub there : Contains (all_instances w) one
  pub seen : IsSeen w one view
  pub number : instance ≡ one.number
  pub due : DueRef
  pub is_due : due_of view ≡ Some due
  pub its_callback : callback ≡ callback_of (names_of w one) due
  pub no_create : is_create callback ≡ false

abbrev pub its_number : Instance → ℕ
its_number i = i.number

module _ (w : World) (apart : are_apart (map its_number (all_instances w)) ≡ true) (board : w.whiteboard.number ≡ 0) where
  module _ (turn instance configuration consumer : ℕ) (callback : Callback) (chosen : List Choice) where
    abbrev begins : Step
    begins = Begin turn instance configuration consumer callback chosen

    found_one : (i : Instance) → Contains (all_instances w) i → (n : ℕ) → n ≡ i.number → find (λ (j : Instance). j.number == n) (all_instances w) ≡ Some i
    found_one i h n same = found_is (λ (j : Instance). j.number == n) (all_instances w) i h (eq-eqb i.number n (sym same)) (λ j k is. one_of its_number (all_instances w) apart j i k h (eqb-true j.number n is ∙ same))

    tells_it : (i : Instance) → Contains (all_instances w) i → (n : ℕ) → n ≡ i.number → (d : DueRef) → option_map (begin_for w d) (find (λ (j : Instance). j.number == n) (all_instances w)) ≡ Some begins
        → (instance ≡ i.number) × (callback ≡ callback_of (names_of w i) d)
    tells_it i h n same d is =
        let here : Some (begin_for w d i) ≡ Some begins = sym (ap (option_map (begin_for w d)) (found_one i h n same)) ∙ is in
        let first : instance ≡ i.number = cc in
        let second : callback ≡ callback_of (names_of w i) d = cc in
        (first, second)

    told_by : (i : Instance) (v : InstanceView) → Contains (all_instances w) i → v.instance ≡ i.number → (d : DueRef) → StandsFor v d → begin_of w d ≡ Some begins
        → (instance ≡ i.number) × (callback ≡ callback_of (names_of w i) d) × (is_create (callback_of (names_of w i) d) ≡ false)
    told_by i v h number (CreateDue key) its is = absurd its
    told_by i v h number (Bind n r s) its is = let t = tells_it i h n (its.0 ∙ number) (Bind n r s) is in (t.0, t.1, refl)
    told_by i v h number (Updated n r s) its is = let t = tells_it i h n (its ∙ number) (Updated n r s) is in (t.0, t.1, refl)
    told_by i v h number (Unbind n r s) its is = let t = tells_it i h n (its.0 ∙ number) (Unbind n r s) is in (t.0, t.1, refl)
    told_by i v h number (Activate n) its is = let t = tells_it i h n (its.0 ∙ number) (Activate n) is in (t.0, t.1, refl)
    told_by i v h number (Modified n) its is = let t = tells_it i h n (its ∙ number) (Modified n) is in (t.0, t.1, refl)
    told_by i v h number (Deactivate n) its is = let t = tells_it i h n (its.0 ∙ number) (Deactivate n) is in (t.0, t.1, refl)
    told_by i v h number (Destroy n) its is = let t = tells_it i h n (its ∙ number) (Destroy n) is in (t.0, t.1, refl)

    tells_due : (i : Instance) (v : InstanceView) → Contains (all_instances w) i → IsSeen w i v → v.instance ≡ i.number → (d : DueRef) → due_of v ≡ Some d → begin_of w d ≡ Some begins → TellsDue w instance callback
    tells_due i v h seen number d is begin =
        let t = told_by i v h number d (due_stands v d is) begin in
        record { one = i; view = v; there = h; seen = seen; number = t.0; due = d; is_due = is; its_callback = t.1; no_create = ap is_create t.1 ∙ t.2 }

    creates : (key : Key) → begin_of w (CreateDue key) ≡ Some begins → (callback ≡ Create) × (instance ≡ w.instances_numbered + 1)
    creates key begin =
        let here : Some (Begin (w.turns_begun + 1) (w.instances_numbered + 1) key.configuration key.consumer Create (choices w key.configuration)) ≡ Some begins = begin in
        let first : callback ≡ Create = cc in
        let second : instance ≡ w.instances_numbered + 1 = cc in
        (first, second)

    by_view : (v : InstanceView) → Contains (views_of w) v → (d : DueRef) → due_of v ≡ Some d → begin_of w d ≡ Some begins → TellsDue w instance callback
    by_view v h d is begin = elim (in_cases (whiteboard_view w) (map (view_of w) w.instances) v h) [
      | inl same ↦ tells_due w.whiteboard v (in_first w.whiteboard w.instances) (whiteboard refl (sym same)) (ap (λ (x : InstanceView). x.instance) (sym same)) d is begin
      | inr later ↦ (let was = mapped_was (view_of w) w.instances v later in
          tells_due was.0 v (in_rest w.whiteboard w.instances was.0 was.1.0) (one_made was.1.0 (sym was.1.1)) (ap (λ (x : InstanceView). x.instance) (sym was.1.1)) d is begin)
    ]

    by_due : (d : DueRef) → due_in w ≡ Some d → begin_of w d ≡ Some begins → ((callback ≡ Create) × (instance ≡ w.instances_numbered + 1)) ⊎ TellsDue w instance callback
    by_due d is begin = elim (first_is (views_of w) (missing w) d is) [
      | inl view ↦ inr (by_view view.0 view.1 d view.2 begin)
      | inr new ↦ inl (creates new.0 (sym (ap (begin_of w) new.2) ∙ begin))
    ]

    pub how_begun : next_begin w ≡ Some begins → ((callback ≡ Create) × (instance ≡ w.instances_numbered + 1)) ⊎ TellsDue w instance callback
    how_begun may = go (due_in w) refl may
      where
        go : (o : Option DueRef) → due_in w ≡ o → option_and_then (begin_of w) o ≡ Some begins → ((callback ≡ Create) × (instance ≡ w.instances_numbered + 1)) ⊎ TellsDue w instance callback
        go None is begin = cc
        go (Some d) is begin = by_due d is begin

    abbrev told : Instance → Instance
    told j = with_callback_begun (before_turn w) turn instance callback j

    -- an instance behind the beginning of a turn that tells one
    told_calls : TellsDue w instance callback → (j : Instance) → Contains (all_instances w) j → IsNext w begins j (told j).callbacks
    told_calls tells j h = go (j.number == instance) refl
      where
        given : Instance
        given = record j { turn = turn; callbacks = j.callbacks ++ begun callback ∷ [] }

        go : (b : Bool) → (j.number == instance) ≡ b → IsNext w begins j (cond b (with_effect_of_begin (before_turn w) callback given) j).callbacks
        go false other = keeps refl
        go true its =
            let is_one : tells.one ≡ j = sym (one_of its_number (all_instances w) apart j tells.one h tells.there (eqb-true j.number instance its ∙ tells.number)) in
            let callback_is = tells.its_callback ∙ ap (λ (x : Instance). callback_of (names_of w x) tells.due) is_one in
            gains tells.view (subst (λ (x : Instance). IsSeen w x tells.view) is_one tells.seen) tells.due tells.is_due (ap Some callback_is)
            (taken_calls (before_turn w) callback given ∙ ap (λ (c : Callback). j.callbacks ++ begun c ∷ []) callback_is)

    -- a Create leaves those that were there
    board_same : instance ≡ w.instances_numbered + 1 → (told w.whiteboard).callbacks ≡ w.whiteboard.callbacks
    board_same is = go (w.whiteboard.number == instance) refl
      where
        go : (b : Bool) → (w.whiteboard.number == instance) ≡ b → (cond b (with_effect_of_begin (before_turn w) callback (record w.whiteboard { turn = turn; callbacks = w.whiteboard.callbacks ++ begun callback ∷ [] })) w.whiteboard).callbacks ≡ w.whiteboard.callbacks
        go false other = refl
        go true its = (let same = eqb-true w.whiteboard.number instance its in absurd (omega (arith, same, board, is)))

    board_begun : next_begin w ≡ Some begins → IsNext w begins w.whiteboard (told w.whiteboard).callbacks
    board_begun may = elim (how_begun may) [
      | inl makes ↦ keeps (board_same makes.1)
      | inr tells ↦ told_calls tells w.whiteboard (in_first w.whiteboard w.instances)
    ]

    unchanged : (step : Step) (i : Instance) → Contains w.instances i → WasBefore w step i
    unchanged step i h = record { was = i; there = h; same = record { number = refl; slot = refl; consumer = refl; service = refl; origin = refl }; calls = keeps refl }

    after_begin : next_begin w ≡ Some begins → (i : Instance) → Contains (instances_told begins w) i → WasBefore w begins i ⊎ IsMade begins w i
    after_begin may i h = elim (how_begun may) [
      | inl makes ↦ (
          let new = created_at (before_turn w) turn instance configuration consumer chosen in
          elim (in_either w.instances (new ∷ []) i (subst (λ (c : Callback). Contains (instances_told (Begin turn instance configuration consumer c chosen) w) i) makes.0 h)) [
            | inl old ↦ inl (unchanged begins i old)
            | inr added ↦ inr (turn, instance, configuration, consumer, (chosen, (ap (λ (c : Callback). Begin turn instance configuration consumer c chosen) makes.0, single new i added)))
          ])
      | inr tells ↦ elim (begun_cases callback) [
        | inl create ↦ absurd (both_ways (is_create callback) tells.no_create (ap is_create create))
        | inr are ↦ (
            let found = mapped_was told w.instances i (subst (λ (is : List Instance). Contains is i) (are (before_turn w) turn instance configuration consumer chosen) h) in
            inl (subst (λ (x : Instance). WasBefore w begins x) found.1.1
            (record { was = found.0; there = found.1.0; same = told_same (before_turn w) turn instance callback found.0; calls = told_calls tells found.0 (in_rest w.whiteboard w.instances found.0 found.1.0) })))
      ]
    ]

  ended_calls : (turn : ℕ) (outcome : Outcome) (j : Instance) → IsNext w (End turn outcome) j (ended_in turn outcome w.generations j).callbacks
  ended_calls turn outcome j = go (has_turn turn j) refl
    where
      go : (b : Bool) → has_turn turn j ≡ b → IsNext w (End turn outcome) j (cond b (with_outcome outcome w.generations j) j).callbacks
      go true is = closes turn outcome refl is refl
      go false is = keeps refl

  drained_calls : (instance : ℕ) (j : Instance) → (drained_in instance j).callbacks ≡ j.callbacks
  drained_calls instance j = go (j.number == instance)
    where
      go : (b : Bool) → (cond b (record j { drained = true }) j).callbacks ≡ j.callbacks
      go true = refl
      go false = refl

  pub comes_about : (step : Step) → MayCome w step → (i : Instance) → Contains (instances_by step w) i → WasBefore w step i ⊎ IsMade step w i
  comes_about (Commanded command) may i h = inl (unchanged 0 0 0 0 Create [] (Commanded command) i h)
  comes_about (Begin turn instance configuration consumer callback chosen) may i h = after_begin turn instance configuration consumer callback chosen may i h
  comes_about (End turn outcome) may i h =
      let found = mapped_was (ended_in turn outcome w.generations) w.instances i (kept_was lives_on (instances_told (End turn outcome) w) i h).0 in
      inl (subst (λ (x : Instance). WasBefore w (End turn outcome) x) found.1.1
      (record { was = found.0; there = found.1.0; same = ended_same turn outcome w.generations found.0; calls = ended_calls turn outcome found.0 }))
  comes_about (Drained instance) may i h =
      let found = mapped_was (drained_in instance) w.instances i h in
      inl (subst (λ (x : Instance). WasBefore w (Drained instance) x) found.1.1
      (record { was = found.0; there = found.1.0; same = drained_same instance found.0; calls = keeps (drained_calls instance found.0) }))
  comes_about (Got bundle service) may i h = inl (unchanged 0 0 0 0 Create [] (Got bundle service) i h)
  comes_about (Released place) may i h = inl (unchanged 0 0 0 0 Create [] (Released place) i h)

  -- no made instance is that of the whiteboard
  pub not_board : (i : Instance) → Contains w.instances i → i ≡ w.whiteboard → ⊥
  not_board i h same =
      both_ways (has (map its_number w.instances) w.whiteboard.number) (not_true (has (map its_number w.instances) w.whiteboard.number) (and_parts (not (has (map its_number w.instances) w.whiteboard.number)) (are_apart (map its_number w.instances)) apart).0)
      (ap (has (map its_number w.instances)) (ap its_number (sym same)) ∙ key_in its_number w.instances i h)

  -- the whiteboard's instance
  pub board_comes : (step : Step) → MayCome w step → IsNext w step w.whiteboard (whiteboard_by step w).callbacks
  board_comes (Commanded command) may = keeps refl
  board_comes (Begin turn instance configuration consumer callback chosen) may = board_begun turn instance configuration consumer callback chosen may
  board_comes (End turn outcome) may = ended_calls turn outcome w.whiteboard
  board_comes (Drained instance) may = keeps refl
  board_comes (Got bundle service) may = keeps refl
  board_comes (Released place) may = keeps refl
