-- How each instance comes out of an entry of a settling.
use Rattle.std.proofs.Common.{◌≡◌, ℕ, List, [], ◌∷◌, ◌++◌, ap, sym, ◌∙◌, refl, subst, cond, Bool, true, false, inl, inr, Some}
use Rattle.std.specs.Prelude.{map, ◌==◌}
use Rattle.std.specs.List.{Contains}
use Rattle.std.proofs.lemmas.Bool.{cases_Bool, eqb-true}
use Rattle.callback_orders.specs.declared.callback.Callback.{Callback}
use Rattle.callback_orders.specs.declared.callback.Outcome.{Outcome}
use Rattle.callback_orders.specs.declared.instance_view.Phase.{Phase}
use Rattle.callback_orders.specs.declared.instance_view.Phase.TheVariants.{Active}
use Rattle.callback_orders.specs.Due.{due_of}
use Rattle.callback_orders.specs.Lives.{callback_of, phase_of}
use Rattle.callback_orders.specs.Sequences.{begun}
use Rattle.component_state.specs.declared.origin.Choice.{Choice}
use Rattle.component_state.specs.Inside.Ready.{are_apart}
use Rattle.component_state.proofs.Apart.{in_first, in_rest, one_of}
use Rattle.scr_promises.proofs.Comings.{IsSeen, TellsDue, callback_begun, its_number, not_board, one_made, whiteboard}
use Rattle.scr_promises.proofs.BeginSteps.{IsBegun}
use Rattle.scr_promises.proofs.PairMoves.{Moves, begins, ends_turn, rests, told_of}
use Rattle.scr_world.specs.Dues.{names_of}
use Rattle.scr_world.specs.Instances.{drained_in, ended_in, has_turn, with_callback_begun, with_effect_of_begin, with_outcome}
use Rattle.scr_world.specs.Stepping.{before_turn}
use Rattle.scr_world.specs.Views.{ends, view_as}
use Rattle.scr_world.specs.Worlds.{all_instances}
use Rattle.scr_world.specs.declared.instance.Instance.{Instance}
use Rattle.scr_world.specs.declared.step.Step.{Step}
use Rattle.scr_world.specs.declared.step.Step.TheVariants.{Begin}
use Rattle.scr_world.specs.declared.world.World.{World}

-- ---- the end of a turn, and a drain

pub end_moves : (e : Bool) (w : World) (turn : ℕ) (outcome : Outcome) (i : Instance) → Moves e w i (ended_in turn outcome w.generations i)
end_moves e w turn outcome i = go (has_turn turn i)
  where
    go : (b : Bool) → Moves e w i (cond b (with_outcome outcome w.generations i) i)
    go true = ends_turn outcome refl refl refl
    go false = rests refl refl refl

pub drain_moves : (e : Bool) (w : World) (instance : ℕ) (i : Instance) → Moves e w i (drained_in instance i)
drain_moves e w instance i = go (i.number == instance)
  where
    go : (b : Bool) → Moves e w i (cond b (record i { drained = true }) i)
    go true = rests refl refl refl
    go false = rests refl refl refl

-- ---- the beginning of a turn that tells an instance

module _ (w : World) (apart : are_apart (map its_number (all_instances w)) ≡ true) (board : w.whiteboard.number ≡ 0) (step : Step) (turn instance configuration consumer : ℕ) (callback : Callback) (chosen : List Choice)
    (is_step : step ≡ Begin turn instance configuration consumer callback chosen) (tells : TellsDue w instance callback) where
  abbrev pub told : Instance → Instance
  told i = with_callback_begun (before_turn w) turn instance callback i

  same_one : (i : Instance) → Contains (all_instances w) i → (i.number == instance) ≡ true → tells.one ≡ i
  same_one i h on = sym (one_of its_number (all_instances w) apart i tells.one h tells.there (eqb-true i.number instance on ∙ tells.number))

  module _ (e : Bool) (phase : Phase) (i : Instance) (same : tells.one ≡ i) (on : (i.number == instance) ≡ true) (is_view : tells.view ≡ view_as phase e w i) (seen : IsSeen w i (view_as phase e w i)) where
    callback_is : callback ≡ callback_of (names_of w i) tells.due
    callback_is = tells.its_callback ∙ ap (λ (x : Instance). callback_of (names_of w x) tells.due) same

    told_is : told i ≡ told_of w turn callback i
    told_is = ap (λ b. cond b (with_effect_of_begin (before_turn w) callback (record i { turn = turn; callbacks = i.callbacks ++ begun callback ∷ [] })) i) on

    begun_as : IsBegun w step e i (told i)
    begun_as = record {
      turn = turn;
      phase = phase;
      due = tells.due;
      is_due = ap due_of (sym is_view) ∙ tells.is_due;
      seen = seen;
      begun_so = ap callback_begun is_step ∙ ap Some callback_is;
      is = told_is ∙ ap (λ (c : Callback). told_of w turn c i) callback_is;
    }

  pub made_begun : (i : Instance) → Contains w.instances i → (i.number == instance) ≡ true → IsBegun w step (ends w i) i (told i)
  made_begun i h on =
      let same = same_one i (in_rest w.whiteboard w.instances i h) on in
      by_seen same (subst (λ (x : Instance). IsSeen w x tells.view) same tells.seen)
    where
      by_seen : tells.one ≡ i → IsSeen w i tells.view → IsBegun w step (ends w i) i (told i)
      by_seen same (one_made there is) = begun_as (ends w i) (phase_of i.callbacks) i same on is (one_made h refl)
      by_seen same (whiteboard is_board is) = absurd (not_board w apart board i h is_board)

  pub board_begun : (w.whiteboard.number == instance) ≡ true → IsBegun w step false w.whiteboard (told w.whiteboard)
  board_begun on =
      let same = same_one w.whiteboard (in_first w.whiteboard w.instances) on in
      by_seen same (subst (λ (x : Instance). IsSeen w x tells.view) same tells.seen)
    where
      by_seen : tells.one ≡ w.whiteboard → IsSeen w w.whiteboard tells.view → IsBegun w step false w.whiteboard (told w.whiteboard)
      by_seen same (one_made there is) = absurd (not_board w apart board w.whiteboard there refl)
      by_seen same (whiteboard is_board is) = begun_as false Active w.whiteboard same on is (whiteboard refl refl)

  moved : (e : Bool) (i : Instance) → IsBegun w step e i (told i) → Moves e w i (told i)
  moved e i one = begins one.turn one.phase one.due one.is_due one.is

  stays : (e : Bool) (i : Instance) → (i.number == instance) ≡ false → Moves e w i (told i)
  stays e i off =
      let same : told i ≡ i = ap (λ b. cond b (with_effect_of_begin (before_turn w) callback (record i { turn = turn; callbacks = i.callbacks ++ begun callback ∷ [] })) i) off in
      rests (ap (λ (x : Instance). x.callbacks) same) (ap (λ (x : Instance). x.told_revisions) same) (ap (λ (x : Instance). x.properties_taken_at) same)

  pub made_moves : (i : Instance) → Contains w.instances i → Moves (ends w i) w i (told i)
  made_moves i h = elim (cases_Bool (i.number == instance)) [
    | inl on ↦ moved (ends w i) i (made_begun i h on)
    | inr off ↦ stays (ends w i) i off
  ]

  pub board_moves : Moves false w w.whiteboard (told w.whiteboard)
  board_moves = elim (cases_Bool (w.whiteboard.number == instance)) [
    | inl on ↦ moved false w.whiteboard (board_begun on)
    | inr off ↦ stays false w.whiteboard off
  ]
