-- The turn that begins next is under way behind its step, and its work is told then.
use Rattle.std.proofs.Common.{◌≡◌, ℕ, List, [], ◌∷◌, ◌++◌, refl, ap, sym, ◌∙◌, subst, Option, Some, None, inl, inr, cond, true, false}
use Rattle.std.specs.Prelude.{find, option_map, option_and_then, ◌==◌}
use Rattle.std.specs.List.{Contains}
use Rattle.std.proofs.lemmas.Bool.{and_from, and_parts, eq-eqb}
use Rattle.callback_orders.specs.declared.callback.Callback.{Callback}
use Rattle.callback_orders.specs.declared.callback.Callback.TheVariants.{Create, Bind, Updated, Unbind, Activate, Modified, Deactivate, Destroy}
use Rattle.callback_orders.specs.declared.word.Called.{Called}
use Rattle.callback_orders.specs.Grammar.{is_create}
use Rattle.callback_orders.specs.Sequences.{begun, is_outstanding}
use Rattle.component_state.specs.declared.origin.Choice.{Choice}
use Rattle.component_state.proofs.Apart.{in_first, in_rest, in_right}
use Rattle.scr_core.proofs.Idle.{some_found}
use Rattle.scr_laws.proofs.Begins.{Tells, begin_is}
use Rattle.scr_laws.proofs.Ordered.{AreOrdered}
use Rattle.scr_laws.proofs.Listed.{found_was}
use Rattle.scr_laws.proofs.InstanceLemmas.{begun_cases, mapped_in}
use Rattle.scr_world.specs.Dues.{next_begin}
use Rattle.scr_world.specs.Instances.{BeforeTurn, begun_by, created_at, has_turn, last_callback, with_callback_begun, with_effect_of_begin}
use Rattle.scr_world.specs.Stepping.{before_turn, instances_by, whiteboard_by, world_after_step}
use Rattle.scr_world.specs.TurnSteps.{work_for, work_under_way}
use Rattle.scr_world.specs.Worlds.{all_instances}
use Rattle.scr_world.specs.declared.instance.Instance.{Instance}
use Rattle.scr_world.specs.declared.step.Step.{Step}
use Rattle.scr_world.specs.declared.step.Step.TheVariants.{Begin}
use Rattle.scr_world.specs.declared.world.World.{World}
use Rattle.turn_work.specs.declared.work.TurnWork.{TurnWork}

-- ---- an instance that is told

still_out : (calls : List Called) (callback : Callback) → is_outstanding (calls ++ begun callback ∷ []) ≡ true
still_out [] callback = refl
still_out (c ∷ []) callback = refl
still_out (c ∷ d ∷ calls) callback = still_out (d ∷ calls) callback

has_it : (turn : ℕ) (i : Instance) → i.turn ≡ turn → is_outstanding i.callbacks ≡ true → has_turn turn i ≡ true
has_it turn i its out = and_from (i.turn == turn) (is_outstanding i.callbacks) (eq-eqb i.turn turn its) out

effect_has : (before : BeforeTurn) (turn : ℕ) (callback : Callback) (i : Instance) → has_turn turn (with_effect_of_begin before callback i) ≡ has_turn turn i
effect_has before turn Create i = refl
effect_has before turn (Bind r s) i = refl
effect_has before turn (Updated r s) i = refl
effect_has before turn (Unbind r s) i = refl
effect_has before turn Activate i = refl
effect_has before turn Modified i = refl
effect_has before turn Deactivate i = refl
effect_has before turn Destroy i = refl

told_has : (before : BeforeTurn) (turn instance : ℕ) (callback : Callback) (i : Instance) → instance ≡ i.number → has_turn turn (with_callback_begun before turn instance callback i) ≡ true
told_has before turn instance callback i same =
    let given : Instance = record i { turn = turn; callbacks = i.callbacks ++ begun callback ∷ [] } in
    ap (λ b. has_turn turn (cond b (with_effect_of_begin before callback (record i { turn = turn; callbacks = i.callbacks ++ begun callback ∷ [] })) i)) (eq-eqb i.number instance (sym same))
    ∙ effect_has before turn callback given ∙ has_it turn given refl (still_out i.callbacks callback)

-- ---- behind the step

instances_after : (step : Step) (w : World) → all_instances (world_after_step step w) ≡ whiteboard_by step w ∷ instances_by step w
unfolding world_after_step
instances_after step w = refl

module _ (w : World) (ordered : AreOrdered w) (turn instance configuration consumer : ℕ) (callback : Callback) (chosen : List Choice) where
  abbrev step : Step
  step = Begin turn instance configuration consumer callback chosen

  abbrev told : List Instance
  told = begun_by (before_turn w) turn instance configuration consumer callback chosen

  made_has : callback ≡ Create → (i : Instance) × (Contains told i × (has_turn turn i ≡ true))
  made_has create =
      let one : Instance = created_at (before_turn w) turn instance configuration consumer chosen in
      (one, (subst (λ (c : Callback). Contains (begun_by (before_turn w) turn instance configuration consumer c chosen) one) (sym create) (in_right w.instances (one ∷ []) one (in_first one [])), has_it turn one refl refl))

  tells_has : Tells w instance callback → (i : Instance) × (Contains told i × (has_turn turn i ≡ true))
  tells_has tells = elim (begun_cases callback) [
    | inl create ↦ absurd (let both : true ≡ false = ap is_create (sym create) ∙ tells.no_create in cc)
    | inr as_told ↦ (
        let those = as_told (before_turn w) turn instance configuration consumer chosen in
        let j : Instance = with_callback_begun (before_turn w) turn instance callback tells.one in (
          j,
          (
            subst (λ (is : List Instance). Contains is j) (sym those) (mapped_in (with_callback_begun (before_turn w) turn instance callback) w.instances tells.one tells.there),
            told_has (before_turn w) turn instance callback tells.one tells.number,
          ),
        ))
  ]

  one_has : next_begin w ≡ Some step → (i : Instance) × (Contains (whiteboard_by step w ∷ instances_by step w) i × (has_turn turn i ≡ true))
  one_has is = elim (begin_is w ordered turn instance configuration consumer callback chosen is) [
    | inl makes ↦ (let one = made_has makes.creates in (one.0, (in_rest (whiteboard_by step w) told one.0 one.1.0, one.1.1)))
    | inr other ↦ elim other [
      | inl tells ↦ (let one = tells_has tells in (one.0, (in_rest (whiteboard_by step w) told one.0 one.1.0, one.1.1)))
      | inr board ↦ (whiteboard_by step w, (in_first (whiteboard_by step w) told, told_has (before_turn w) turn instance callback w.whiteboard board.number))
    ]
  ]

  -- it is told by the turn
  found_told : next_begin w ≡ Some step → (i : Instance) × (find (has_turn turn) (all_instances (world_after_step step w)) ≡ Some i)
  found_told is =
      let one = one_has is in
      some_found (has_turn turn) (all_instances (world_after_step step w)) one.0 (subst (λ (those : List Instance). Contains those one.0) (sym (instances_after step w)) one.1.0) one.1.1

-- ---- the work of a turn under way

out_last : (calls : List Called) → is_outstanding calls ≡ true → (c : Callback) × (last_callback calls ≡ Some c)
out_last [] out = cc
out_last (c ∷ []) out = (c.callback, refl)
out_last (c ∷ d ∷ calls) out = out_last (d ∷ calls) out

told_work : (m : World) (turn : ℕ) (i : Instance) → find (has_turn turn) (all_instances m) ≡ Some i → (work : TurnWork) × (work_under_way m turn ≡ Some work)
told_work m turn i is =
    let passes = found_was (has_turn turn) (all_instances m) i is in
    let last = out_last i.callbacks (and_parts (i.turn == turn) (is_outstanding i.callbacks) passes.1).1 in
    (work_for m turn i last.0, ap (option_and_then (λ (j : Instance). option_map (work_for m turn j) (last_callback j.callbacks))) is ∙ ap (option_map (work_for m turn i)) last.1)

-- the turn that begins next has its work
pub begun_work : (w : World) → AreOrdered w → (turn instance configuration consumer : ℕ) (callback : Callback) (chosen : List Choice)
    → next_begin w ≡ Some (Begin turn instance configuration consumer callback chosen)
    → (work : TurnWork) × (work_under_way (world_after_step (Begin turn instance configuration consumer callback chosen) w) turn ≡ Some work)
begun_work w ordered turn instance configuration consumer callback chosen is =
    let one = found_told w ordered turn instance configuration consumer callback chosen is in
    told_work (world_after_step (Begin turn instance configuration consumer callback chosen) w) turn one.0 one.1

-- the work of a turn has its number
pub work_number : (m : World) (turn : ℕ) (work : TurnWork) → work_under_way m turn ≡ Some work → work.number ≡ turn
work_number m turn work is = go (find (has_turn turn) (all_instances m)) is
  where
    last : (i : Instance) (c : Option Callback) → option_map (work_for m turn i) c ≡ Some work → work.number ≡ turn
    last i None e = cc
    last i (Some c) e = let same : work ≡ work_for m turn i c = cc in ap (λ (x : TurnWork). x.number) same

    go : (o : Option Instance) → option_and_then (λ (j : Instance). option_map (work_for m turn j) (last_callback j.callbacks)) o ≡ Some work → work.number ≡ turn
    go None e = cc
    go (Some i) e = last i (last_callback i.callbacks) e
