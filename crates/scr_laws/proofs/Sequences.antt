-- After a step that may come the callbacks of each instance that it told are in order, those of the whiteboard's too.
use Rattle.std.proofs.Common.{◌≡◌, ℕ, List, [], ◌∷◌, ◌++◌, length, ap, sym, ◌∙◌, refl, subst, cond, arith, Bool, true, false, inl, inr, ◌⊎◌}
use Rattle.std.specs.Prelude.{map, not, ◌==◌}
use Rattle.std.specs.List.{Contains}
use Rattle.std.proofs.lemmas.Bool.{and_parts, both_ways, cases_Bool, eq-eqb, eqb-true, ne_eqb}
use Rattle.std.proofs.lemmas.List.{length-append}
use Rattle.callback_orders.specs.declared.callback.Callback.{Callback}
use Rattle.callback_orders.specs.declared.callback.Callback.TheVariants.{Create}
use Rattle.callback_orders.specs.declared.callback.Outcome.{Outcome}
use Rattle.callback_orders.specs.declared.word.Called.{Called}
use Rattle.callback_orders.specs.Grammar.{IsSequence, IsWhiteboardSequence, is_create}
use Rattle.callback_orders.specs.Lives.{MayComeNext, speaks_of}
use Rattle.callback_orders.specs.Sequences.{begun, ended, is_sequence, is_whiteboard_sequence}
use Rattle.callback_orders.proofs.EndLemmas.{is_sequence-ended, speaks_of-ended}
use Rattle.callback_orders.proofs.SequenceLaws.{is_sequence-means, is_whiteboard_sequence-means}
use Rattle.component_state.specs.declared.origin.Choice.{Choice}
use Rattle.component_state.specs.Inside.Ready.{are_apart}
use Rattle.component_state.proofs.Apart.{in_either, in_rest, key_in, not_true, one_of}
use Rattle.prop_map.specs.Words.{has}
use Rattle.scr_laws.proofs.NothingShut.{taken_calls}
use Rattle.scr_laws.proofs.InstanceLemmas.{alone, begun_cases, drained_same, ended_same, mapped_was, told_same}
use Rattle.scr_world.specs.Dues.{names_of}
use Rattle.scr_world.specs.Instances.{BeforeTurn, begun_by, created_at, drained_in, ended_in, has_turn, with_callback_begun, with_effect_of_begin, with_outcome}
use Rattle.scr_world.specs.Legal.{MayCome}
use Rattle.scr_world.specs.Stepping.{before_turn, instances_told, whiteboard_by}
use Rattle.scr_world.specs.Worlds.{all_instances}
use Rattle.scr_world.specs.declared.instance.Instance.{Instance}
use Rattle.scr_world.specs.declared.step.Step.{Step}
use Rattle.scr_world.specs.declared.step.Step.TheVariants.{Command as Commanded, Begin, End, Drained, Got, Released}
use Rattle.scr_world.specs.declared.world.World.{World}
use Rattle.scr_laws.proofs.Begins.{Makes, Tells, TellsBoard, begin_is}
use Rattle.scr_laws.proofs.BoardCallbacks.{board_ended, board_more}
use Rattle.scr_laws.proofs.Ordered.{AreOrdered, InOrder}

-- ---- what the beginning of a turn makes of an instance's callbacks

pub told_calls : (m : BeforeTurn) (turn instance : ℕ) (callback : Callback) (i : Instance) → (with_callback_begun m turn instance callback i).callbacks ≡ cond (i.number == instance) (i.callbacks ++ begun callback ∷ []) i.callbacks
told_calls m turn instance callback i = go (i.number == instance)
  where
    go : (b : Bool) → (cond b (with_effect_of_begin m callback (record i { turn = turn; callbacks = i.callbacks ++ begun callback ∷ [] })) i).callbacks ≡ cond b (i.callbacks ++ begun callback ∷ []) i.callbacks
    go true = taken_calls m callback (record i { turn = turn; callbacks = i.callbacks ++ begun callback ∷ [] })
    go false = refl

pub told_one : (m : BeforeTurn) (turn instance : ℕ) (callback : Callback) (i : Instance) → i.number ≡ instance → (with_callback_begun m turn instance callback i).callbacks ≡ i.callbacks ++ begun callback ∷ []
told_one m turn instance callback i its = told_calls m turn instance callback i ∙ ap (λ b. cond b (i.callbacks ++ begun callback ∷ []) i.callbacks) (eq-eqb i.number instance its)

pub told_other : (m : BeforeTurn) (turn instance : ℕ) (callback : Callback) (i : Instance) → (i.number ≡ instance → ⊥) → with_callback_begun m turn instance callback i ≡ i
told_other m turn instance callback i other = ap (λ b. cond b (with_effect_of_begin m callback (record i { turn = turn; callbacks = i.callbacks ++ begun callback ∷ [] })) i) (ne_eqb i.number instance other)

same_calls : (instance : ℕ) (i : Instance) → (drained_in instance i).callbacks ≡ i.callbacks
same_calls instance i = go (i.number == instance)
  where
    go : (b : Bool) → (cond b (record i { drained = true }) i).callbacks ≡ i.callbacks
    go true = refl
    go false = refl

length_ended : (o : Outcome) (calls : List Called) → length (ended o calls) ≡ length calls
length_ended o [] = refl
length_ended o (c ∷ []) = refl
length_ended o (c ∷ d ∷ rest) = cc (length_ended o (d ∷ rest))

-- the callbacks of that of the whiteboard are in order, and speak of these references
pub record BoardInOrder (names : List (List ℕ)) (calls : List Called) : Type 0 where
  pub order : is_whiteboard_sequence calls ≡ true
  pub spoken : speaks_of names calls ≡ true

-- an earlier instance, whose callbacks are in order
abbrev pub IsLater : World → Instance → Type 0
IsLater w i = (j : Instance) × Contains w.instances j × (i.origin ≡ j.origin) × InOrder (names_of w j) i.callbacks

module _ (w : World) (ordered : AreOrdered w) where
  unchanged : (i : Instance) → Contains w.instances i → IsLater w i
  unchanged i h = (i, h, refl, ordered.each i h)

  later_by : (f : Instance → Instance) → ((j : Instance) → (f j).origin ≡ j.origin) → ((j : Instance) → Contains w.instances j → InOrder (names_of w j) (f j).callbacks) → (i : Instance) → Contains (map f w.instances) i → IsLater w i
  later_by f same each i h =
      let found = mapped_was f w.instances i h in (
        found.0,
        found.1,
        subst (λ (x : Instance). x.origin ≡ found.0.origin) found.2 (same found.0),
        subst (λ (x : Instance). InOrder (names_of w found.0) x.callbacks) found.2 (each found.0 found.1),
      )

  -- ---- a turn that begins

  module _ (turn instance : ℕ) (callback : Callback) where
    abbrev f : Instance → Instance
    f i = with_callback_begun (before_turn w) turn instance callback i

    told_in_order : Tells w instance callback → (j : Instance) → Contains w.instances j → InOrder (names_of w j) (f j).callbacks
    told_in_order tells j h = elim (cases_Bool (j.number == instance)) [
      | inl its ↦ (
          let number : j.number ≡ instance = eqb-true j.number instance its in
          let same : tells.one ≡ j =
          one_of (λ (i : Instance). i.number) (all_instances w) ordered.apart tells.one j (in_rest w.whiteboard w.instances tells.one tells.there) (in_rest w.whiteboard w.instances j h) (sym tells.number ∙ sym number) in
          let may : MayComeNext (names_of w j) j.callbacks callback = subst (λ (i : Instance). MayComeNext (names_of w i) i.callbacks callback) same tells.may in
          subst (λ (calls : List Called). InOrder (names_of w j) calls) (sym (told_one (before_turn w) turn instance callback j number))
          (record { some = omega (arith, length-append j.callbacks (begun callback ∷ [])); order = may.order; spoken = may.spoken }))
      | inr other ↦ subst (λ (i : Instance). InOrder (names_of w j) i.callbacks) (sym (told_other (before_turn w) turn instance callback j (λ e. both_ways (j.number == instance) other (eq-eqb j.number instance e)))) (ordered.each j h)
    ]

    -- that of the whiteboard has a number of its own
    pub no_board : (j : Instance) → Contains w.instances j → j.number ≡ w.whiteboard.number → ⊥
    no_board j h same =
        let none = (and_parts (not (has (map (λ (i : Instance). i.number) w.instances) w.whiteboard.number)) (are_apart (map (λ (i : Instance). i.number) w.instances)) ordered.apart).0 in
        both_ways (has (map (λ (i : Instance). i.number) w.instances) w.whiteboard.number) (not_true (has (map (λ (i : Instance). i.number) w.instances) w.whiteboard.number) none)
        (ap (has (map (λ (i : Instance). i.number) w.instances)) (sym same) ∙ key_in (λ (i : Instance). i.number) w.instances j h)

    board_in_order : TellsBoard w instance callback → BoardInOrder (names_of w w.whiteboard) (f w.whiteboard).callbacks
    board_in_order board =
        subst (λ (calls : List Called). BoardInOrder (names_of w w.whiteboard) calls) (sym (told_one (before_turn w) turn instance callback w.whiteboard (sym board.number)))
        (record {
          order = board_more (names_of w w.whiteboard) w.whiteboard.callbacks callback ordered.board.order board.binds board.may;
          spoken = board.may.spoken;
        })

    board_left : (w.whiteboard.number ≡ instance → ⊥) → BoardInOrder (names_of w w.whiteboard) (f w.whiteboard).callbacks
    board_left other =
        subst (λ (i : Instance). BoardInOrder (names_of w w.whiteboard) i.callbacks) (sym (told_other (before_turn w) turn instance callback w.whiteboard other))
        (record { order = ordered.board.order; spoken = ordered.board.spoken })

    board_told : Makes w instance callback ⊎ (Tells w instance callback ⊎ TellsBoard w instance callback) → BoardInOrder (names_of w w.whiteboard) (f w.whiteboard).callbacks
    board_told (inl makes) = board_left (λ e. let zero = ordered.board.number in let next = makes.next in omega (arith, zero, next, e))
    board_told (inr (inl tells)) = board_left (λ e. no_board tells.one tells.there (sym tells.number ∙ sym e))
    board_told (inr (inr board)) = board_in_order board

  abbrev IsMade : Instance → Type 0
  IsMade i = i.callbacks ≡ begun Create ∷ []

  module _ (turn instance configuration consumer : ℕ) (callback : Callback) (chosen : List Choice) where
    abbrev begins : Step
    begins = Begin turn instance configuration consumer callback chosen

    told_later : ((j : Instance) → Contains w.instances j → InOrder (names_of w j) (f turn instance callback j).callbacks) → is_create callback ≡ false → (i : Instance) → Contains (instances_told begins w) i → IsLater w i
    told_later each no_create i h = elim (begun_cases callback) [
      | inl create ↦ absurd (both_ways (is_create callback) no_create (ap is_create create))
      | inr same ↦
          later_by (f turn instance callback) (λ j. (told_same (before_turn w) turn instance callback j).origin) each i
          (subst (λ (is : List Instance). Contains is i) (same (before_turn w) turn instance configuration consumer chosen) h)
    ]

    begun_later : Makes w instance callback ⊎ (Tells w instance callback ⊎ TellsBoard w instance callback) → (i : Instance) → Contains (instances_told begins w) i → IsLater w i ⊎ IsMade i
    begun_later (inl makes) i h =
        elim (in_either w.instances (created_at (before_turn w) turn instance configuration consumer chosen ∷ []) i
        (subst (λ (c : Callback). Contains (begun_by (before_turn w) turn instance configuration consumer c chosen) i) makes.creates h)) [
          | inl old ↦ inl (unchanged i old)
          | inr new ↦ inr (ap (λ (x : Instance). x.callbacks) (sym (alone (created_at (before_turn w) turn instance configuration consumer chosen) i new)))
        ]
    begun_later (inr (inl tells)) i h = inl (told_later (told_in_order turn instance callback tells) tells.no_create i h)
    begun_later (inr (inr board)) i h =
        inl (told_later (λ j k. subst (λ (x : Instance). InOrder (names_of w j) x.callbacks) (sym (told_other (before_turn w) turn instance callback j (λ e. no_board turn instance callback j k (e ∙ board.number)))) (ordered.each j k)) board.no_create i h)

  -- ---- a turn that ends

  ended_in_order : (turn : ℕ) (outcome : Outcome) (j : Instance) → Contains w.instances j → InOrder (names_of w j) (ended_in turn outcome w.generations j).callbacks
  ended_in_order turn outcome j h = go (has_turn turn j) (ordered.each j h)
    where
      go : (b : Bool) → InOrder (names_of w j) j.callbacks → InOrder (names_of w j) (cond b (with_outcome outcome w.generations j) j).callbacks
      go true was = record {
        some = omega (arith, was.some, length_ended outcome j.callbacks);
        order = is_sequence-ended outcome j.callbacks ∙ was.order;
        spoken = speaks_of-ended (names_of w j) outcome j.callbacks ∙ was.spoken;
      }
      go false was = was

  board_ended_in_order : (turn : ℕ) (outcome : Outcome) → BoardInOrder (names_of w w.whiteboard) (ended_in turn outcome w.generations w.whiteboard).callbacks
  board_ended_in_order turn outcome = go (has_turn turn w.whiteboard)
    where
      go : (b : Bool) → BoardInOrder (names_of w w.whiteboard) (cond b (with_outcome outcome w.generations w.whiteboard) w.whiteboard).callbacks
      go true = record {
        order = board_ended outcome w.whiteboard.callbacks ordered.board.order;
        spoken = speaks_of-ended (names_of w w.whiteboard) outcome w.whiteboard.callbacks ∙ ordered.board.spoken;
      }
      go false = record { order = ordered.board.order; spoken = ordered.board.spoken }

  -- ---- after a step

  pub comes_about : (step : Step) → MayCome w step → (i : Instance) → Contains (instances_told step w) i → IsLater w i ⊎ IsMade i
  comes_about (Commanded command) may i h = inl (unchanged i h)
  comes_about (Begin turn instance configuration consumer callback chosen) may i h =
      begun_later turn instance configuration consumer callback chosen (begin_is w ordered turn instance configuration consumer callback chosen may) i h
  comes_about (End turn outcome) may i h = inl (later_by (ended_in turn outcome w.generations) (λ j. (ended_same turn outcome w.generations j).origin) (ended_in_order turn outcome) i h)
  comes_about (Drained instance) may i h =
      inl (later_by (drained_in instance) (λ j. (drained_same instance j).origin)
      (λ j k. subst (λ (calls : List Called). InOrder (names_of w j) calls) (sym (same_calls instance j)) (ordered.each j k)) i h)
  comes_about (Got bundle service) may i h = inl (unchanged i h)
  comes_about (Released place) may i h = inl (unchanged i h)

  pub board_after : (step : Step) → MayCome w step → BoardInOrder (names_of w w.whiteboard) (whiteboard_by step w).callbacks
  board_after (Commanded command) may = record { order = ordered.board.order; spoken = ordered.board.spoken }
  board_after (Begin turn instance configuration consumer callback chosen) may = board_told turn instance callback (begin_is w ordered turn instance configuration consumer callback chosen may)
  board_after (End turn outcome) may = board_ended_in_order turn outcome
  board_after (Drained instance) may = record { order = ordered.board.order; spoken = ordered.board.spoken }
  board_after (Got bundle service) may = record { order = ordered.board.order; spoken = ordered.board.spoken }
  board_after (Released place) may = record { order = ordered.board.order; spoken = ordered.board.spoken }

  tested : (step : Step) → MayCome w step → (i : Instance) → Contains (instances_told step w) i → is_sequence i.callbacks ≡ true
  tested step may i h = elim (comes_about step may i h) [
    | inl later ↦ later.3.order
    | inr made ↦ ap is_sequence made
  ]

  -- the callbacks of each instance that a step told are in order
  pub order_after : (step : Step) → MayCome w step → (i : Instance) → Contains (instances_told step w) i → IsSequence i.callbacks
  order_after step may i h = (is_sequence-means i.callbacks).0 (tested step may i h)

  pub board_order_after : (step : Step) → MayCome w step → IsWhiteboardSequence (whiteboard_by step w).callbacks
  board_order_after step may = (is_whiteboard_sequence-means (whiteboard_by step w).callbacks).0 (board_after step may).order
